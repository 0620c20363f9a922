-- How many events may still come.
use Rattle.std.proofs.Common.{◌≡◌, ℕ, zero, suc, ◌+◌, ◌-◌, ◌<◌, ◌≤◌, inl, inr, Bool, true, false, cond, List, get_or, set, refl, sym, ap, ap₂, ◌∙◌, Some, arith}
use Rattle.std.specs.List.{slice_get}
use Rattle.std.proofs.lemmas.List.Sums.{sum_by-set}
use Rattle.std.proofs.lemmas.Option.{slice_get_within, get_or_from_slice_get}
use Rattle.std.proofs.lemmas.Bool.{cases_lt}
use Rattle.mot_base.specs.Limits.{peer_bytes}
use Rattle.mot_base.specs.Links.{IsSame, IsWith}
use Rattle.mot_base.specs.declared.links.Place.{Place}
use Rattle.peer_streams.specs.Reading.{PeerRead}
use Rattle.peer_streams.specs.Taking.{room_left, open_left, events_left}

-- bytes of one peer were taken
pub room-less : (peers : List PeerRead) (q : ℕ) (old new : PeerRead) (count : ℕ) → slice_get peers q ≡ Some old → new.taken ≡ old.taken + count → new.taken < peer_bytes → room_left (set peers q new) + count ≡ room_left peers
room-less peers q old new count there is room =
    let inside = slice_get_within peers q old there in
    let here : get_or peers q old ≡ old = get_or_from_slice_get peers q old old there in
    let sums : room_left (set peers q new) + (peer_bytes - old.taken) ≡ room_left peers + (peer_bytes - new.taken) = rw here at (sum_by-set (λ (peer : PeerRead). peer_bytes - peer.taken) peers q new old inside) in
    omega arith

pub open-same : (n : ℕ) (before after : ℕ → Bool) → ((p : ℕ) → p < n → after p ≡ before p) → open_left n after ≡ open_left n before
open-same zero before after same = refl
open-same (suc n) before after same =
    ap₂ (λ (a b : ℕ). a + b) (open-same n before after (λ p h. same p (omega arith))) (ap (λ b. cond b 0 1) (same n (omega arith)))

-- one peer more was closed
pub open-less : (n q : ℕ) (before after : ℕ → Bool) → q < n → before q ≡ false → IsWith before after q → open_left n after + 1 ≡ open_left n before
open-less zero q before after h unclosed with_ = absurd (omega arith)
open-less (suc n) q before after h unclosed with_ = elim (cases_lt q n) [
  | inl below ↦
      let rest = open-less n q before after below unclosed with_ in
      let same : after n ≡ before n = with_.1 n (λ e. absurd (omega arith)) in
      rw same (omega arith)
  | inr above ↦
      let here : q ≡ n = omega arith in
      let rest = open-same n before after (λ p below. with_.1 p (λ e. absurd (omega arith))) in
      let now : after n ≡ true = ap after (sym here) ∙ with_.0 in
      let then : before n ≡ false = ap before (sym here) ∙ unclosed in
      rw (now, then) (omega arith)
]

pub nearer-bytes : (place : Place) (closed after : ℕ → Bool) (peers : List PeerRead) (q : ℕ) (old new : PeerRead) (count : ℕ) → slice_get peers q ≡ Some old → IsSame closed after → 1 ≤ count → new.taken ≡ old.taken + count → new.taken < peer_bytes → events_left place after (set peers q new) < events_left place closed peers
nearer-bytes place closed after peers q old new count there same some is room =
    let bytes = room-less peers q old new count there is room in
    let parties = open-same place.parties closed after (λ p h. same p) in
    nearer (room_left (set peers q new)) (room_left peers) (open_left place.parties after) (open_left place.parties closed) count bytes parties some where
      nearer : (a b c d n : ℕ) → a + n ≡ b → c ≡ d → 1 ≤ n → a + c < b + d
      nearer a b c d n e f h = omega arith

pub nearer-closed : (place : Place) (closed after : ℕ → Bool) (peers : List PeerRead) (q : ℕ) → q < place.parties → closed q ≡ false → IsWith closed after q → events_left place after peers < events_left place closed peers
nearer-closed place closed after peers q h unclosed with_ =
    nearer (room_left peers) (open_left place.parties after) (open_left place.parties closed) (open-less place.parties q closed after h unclosed with_) where
      nearer : (a c d : ℕ) → c + 1 ≡ d → a + c < a + d
      nearer a c d e = omega arith

-- What is answered where a peer shows a cause.
use Rattle.std.proofs.Common.{◌≡◌, ◌≢◌, inl, inr, ℕ, eqb, Bool, true, false, List, ◌++◌, length, refl, sym, ap, subst, ◌∙◌, Option, Some, None, arith}
use Rattle.std.specs.List.{slice_get}
use Rattle.std.proofs.lemmas.Bool.{eqb-true}
use Rattle.std.proofs.lemmas.Bool.Decides.{nat_tests}
use Rattle.std.proofs.lemmas.List.{append_cancel_right}
use Rattle.mot_base.specs.Links.{ByParty, IsPeer}
use Rattle.mot_base.specs.declared.links.Place.{Place}
use Rattle.frames.specs.declared.frame.Hello as hello
use Rattle.frames.proofs.Unique.{unique}
use Rattle.message_demux.specs.declared.slots.SlotSpec.{SlotSpec}
use Rattle.peer_streams.specs.declared.error.PartyError.{PartyError}
use Rattle.peer_streams.specs.Taking.{peer_cause, PeerShows, AreTaken, IsShown, AnswersAreShown}

-- bytes of a peer show one thing
one_cause : (expected : hello.Hello) (slots : List SlotSpec) (bytes : List ℕ) (closed : Bool) (a b : Option PartyError) → PeerShows expected slots bytes closed a → PeerShows expected slots bytes closed b → a ≡ b
one_cause expected slots bytes closed a b here there =
    let same = unique bytes here.0 there.0 here.1 there.1 here.2 there.2 in
    let alike : peer_cause expected slots here.0 here.1 (length bytes) closed ≡ peer_cause expected slots there.0 there.1 (length bytes) closed = rw (same.0, same.1) refl in
    sym here.3 ∙ alike ∙ there.3

-- what was taken is one
taken_once : (before : ByParty) (told : Option ByParty) (taken other : ByParty) (q : ℕ) → AreTaken before told taken → AreTaken before told other → taken q ≡ other q
taken_once before told taken other q here there =
    let both : Some there.0 ≡ Some here.0 = sym there.1 ∙ here.1 in
    let left : there.0 ≡ here.0 = cc in
    append_cancel_right (taken q) (other q) (here.0 q) (sym (here.2 q) ∙ there.2 q ∙ ap (λ (l : ByParty). other q ++ l q) left)

apart : (q r : ℕ) → eqb q r ≡ false → q ≢ r
apart q r differ = λ same. grind (arith, nat_tests)

-- a peer that shows a cause is the one that an answer is of
of_one : (before : ByParty) (told : Option ByParty) (closed : ℕ → Bool) (place : Place) (hellos : List hello.Hello) (slots : List SlotSpec) (answer shown : PartyError) (one : IsShown before told closed place hellos slots answer) (q : ℕ) (expected : hello.Hello) (taken : ByParty) → IsPeer (Some place) q → slice_get hellos q ≡ Some expected → AreTaken before told taken → PeerShows expected slots (taken q) (closed q) (Some shown) → (b : Bool) → eqb q one.q ≡ b → answer ≡ shown
of_one before told closed place hellos slots answer shown one q expected taken is there are shows true same =
    let place_same : one.q ≡ q = sym (eqb-true q one.q same) in
    let both : Some one.expected ≡ Some expected = sym one.there ∙ ap (slice_get hellos) place_same ∙ there in
    let hello_same : one.expected ≡ expected = cc in
    let at_place : PeerShows one.expected slots (one.taken q) (closed q) (Some answer) = subst (λ (p : ℕ). PeerShows one.expected slots (one.taken p) (closed p) (Some answer)) place_same one.shows in
    let of_hello : PeerShows expected slots (one.taken q) (closed q) (Some answer) = subst (λ (e : hello.Hello). PeerShows e slots (one.taken q) (closed q) (Some answer)) hello_same at_place in
    let of_bytes : PeerShows expected slots (taken q) (closed q) (Some answer) = subst (λ (bytes : List ℕ). PeerShows expected slots bytes (closed q) (Some answer)) (taken_once before told one.taken taken q one.are_taken are) of_hello in
    let causes : Some answer ≡ Some shown = one_cause expected slots (taken q) (closed q) (Some answer) (Some shown) of_bytes shows in
    cc
of_one before told closed place hellos slots answer shown one q expected taken is there are shows false differ =
    let none : PeerShows expected slots (one.taken q) (closed q) None = one.others q expected is (apart q one.q differ) there in
    let of_bytes : PeerShows expected slots (taken q) (closed q) None = subst (λ (bytes : List ℕ). PeerShows expected slots bytes (closed q) None) (taken_once before told one.taken taken q one.are_taken are) none in
    absurd (let clash : Some shown ≡ None = one_cause expected slots (taken q) (closed q) (Some shown) None shows of_bytes in cc)

pub answered : AnswersAreShown
answered before told closed place hellos slots answer shown (inl memory) q expected taken is there are shows = inl memory
answered before told closed place hellos slots answer shown (inr (inl none)) q expected taken is there are shows =
    let bytes_same = taken_once before told none.1.taken taken q none.1.are_taken are in
    let of_bytes : PeerShows expected slots (taken q) (closed q) None = subst (λ (bytes : List ℕ). PeerShows expected slots bytes (closed q) None) bytes_same (none.1.each q expected is there) in
    absurd (let clash : Some shown ≡ None = one_cause expected slots (taken q) (closed q) (Some shown) None shows of_bytes in cc)
answered before told closed place hellos slots answer shown (inr (inr one)) q expected taken is there are shows =
    inr (of_one before told closed place hellos slots answer shown one q expected taken is there are shows (eqb q one.q) refl)

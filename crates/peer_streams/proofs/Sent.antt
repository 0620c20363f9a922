-- What was sent to each party, frame by frame.
use Rattle.std.proofs.Common.{◌≡◌, ◌≢◌, inl, inr, ℕ, ◌+◌, ◌<◌, ◌≤◌, eqb, Bool, true, false, cond, List, [], ◌++◌, append_assoc, length, take, refl, sym, ap, ◌∙◌, Option, Some, None, arith}
use Rattle.std.specs.List.{slice_get}
use Rattle.std.proofs.lemmas.Bool.{eqb-true, eqb-false, cases_lt}
use Rattle.std.proofs.lemmas.List.{append-nil, take_all, take-append-le}
use Rattle.std.proofs.Math.Seq.{take-append_seam, take-append-add}
use Rattle.mot_base.specs.Links.{ByParty, IsAppended, IsKept}
use Rattle.frames.specs.Bytes.{canonical}
use Rattle.frames.specs.declared.frame.Frame.{Frame}
use Rattle.peer_streams.specs.Sending.{AreSent, AreBegun, frame_bytes, bytes_for}
use Rattle.peer_streams.proofs.Lists.{get_take_below, get_take_past}

no : (q me : ℕ) (b : Bool) → eqb q me ≡ b → q ≢ me → b ≡ false
no q me true is other = absurd (other (eqb-true q me is))
no q me false is other = refl

-- what is sent of first frames: to a party whose frame is not among them nothing, and to the others
-- what is sent of all
bytes_past : (me : ℕ) (frames : List Frame) (k q : ℕ) → k ≤ q → bytes_for me (take k frames) q ≡ []
bytes_past me frames k q h = at (eqb q me) where
  at : (b : Bool) → cond b [] (frame_bytes (slice_get (take k frames) q)) ≡ []
  at true = refl
  at false = ap frame_bytes (get_take_past frames k q h)

bytes_below : (me : ℕ) (frames : List Frame) (k q : ℕ) → q < k → bytes_for me (take k frames) q ≡ bytes_for me frames q
bytes_below me frames k q h = ap (λ o. cond (eqb q me) [] (frame_bytes o)) (get_take_below frames k q h)

bytes_at : (me : ℕ) (frames : List Frame) (q : ℕ) (frame : Frame) → q ≢ me → slice_get frames q ≡ Some frame → bytes_for me frames q ≡ canonical frame
bytes_at me frames q frame other there =
    let not_me : eqb q me ≡ false = no q me _ refl other in
    rw (not_me, there) refl

-- one more first frame
bytes_next : (me : ℕ) (frames : List Frame) (k q : ℕ) → q ≢ k → bytes_for me (take (k + 1) frames) q ≡ bytes_for me (take k frames) q
bytes_next me frames k q other = elim (cases_lt q k) [
  | inl below ↦ bytes_below me frames (k + 1) q (omega arith) ∙ sym (bytes_below me frames k q below)
  | inr above ↦ bytes_past me frames (k + 1) q (omega arith) ∙ sym (bytes_past me frames k q above)
]

module _ (me to : ℕ) (frames : List Frame) (frame : Frame) (other : to ≢ me) (there : slice_get frames to ≡ Some frame) where
  -- a frame more
  pub sent-more : (before now next : Option ByParty) → AreSent before now (bytes_for me (take to frames)) → IsAppended now next to (canonical frame) → AreSent before next (bytes_for me (take (to + 1) frames))
  sent-more None now next sent more = tt
  sent-more (Some before) None next sent more = absurd sent
  sent-more (Some before) (Some now) None sent more = absurd more
  sent-more (Some before) (Some now) (Some next) sent more = λ q. at q (eqb q to) refl where
    at : (q : ℕ) (b : Bool) → eqb q to ≡ b → next q ≡ before q ++ bytes_for me (take (to + 1) frames) q
    at q true is =
        let same : q ≡ to = eqb-true q to is in
        let here = bytes_below me frames (to + 1) to (omega arith) ∙ bytes_at me frames to frame other there in
        rw (same, here) (more.0 ∙ ap (λ xs. xs ++ canonical frame) (sent to ∙ ap (λ xs. before to ++ xs) (bytes_past me frames to to (omega arith)) ∙ append-nil (before to)))
    at q false is =
        let ne = eqb-false q to is in
        more.1 q ne ∙ sent q ∙ ap (λ xs. before q ++ xs) (sym (bytes_next me frames to q ne))

  -- some first bytes of a frame more
  pub begun-more : (n : ℕ) (before now next : Option ByParty) → AreSent before now (bytes_for me (take to frames)) → IsAppended now next to (take n (canonical frame)) → AreBegun before next (bytes_for me frames)
  begun-more n None now next sent more = tt
  begun-more n (Some before) None next sent more = absurd sent
  begun-more n (Some before) (Some now) None sent more = absurd more
  begun-more n (Some before) (Some now) (Some next) sent more = λ q. at q (eqb q to) refl where
    apart : (q : ℕ) → q ≢ to → (k : ℕ) × (next q ≡ before q ++ take k (bytes_for me frames q))
    apart q ne = elim (cases_lt q to) [
      | inl below ↦
          let whole = bytes_for me frames q in
          (length whole, more.1 q ne ∙ sent q ∙ ap (λ xs. before q ++ xs) (bytes_below me frames to q below ∙ sym (take_all (length whole) whole (omega arith))))
      | inr above ↦ (0, more.1 q ne ∙ sent q ∙ ap (λ xs. before q ++ xs) (bytes_past me frames to q above))
    ]

    at : (q : ℕ) (b : Bool) → eqb q to ≡ b → (k : ℕ) × (next q ≡ before q ++ take k (bytes_for me frames q))
    at q true is =
        let same : q ≡ to = eqb-true q to is in
        rw same (n, rw (bytes_at me frames to frame other there) (more.0 ∙ ap (λ xs. xs ++ take n (canonical frame)) (sent to ∙ ap (λ xs. before to ++ xs) (bytes_past me frames to to (omega arith)) ∙ append-nil (before to))))
    at q false is = apart q (eqb-false q to is)

-- ---- one sending behind another

first_of : (n : ℕ) (a b : List ℕ) → (k : ℕ) × (take n a ≡ take k (a ++ b))
first_of n a b = elim (cases_lt n (length a)) [
  | inl below ↦ (n, sym (take-append-le n a b (omega arith)))
  | inr above ↦ (length a, take_all n a above ∙ sym (take-append_seam a b))
]

pub begun-first : (before next : Option ByParty) (a b : ByParty) → AreBegun before next a → AreBegun before next (λ q. a q ++ b q)
begun-first None next a b begun = tt
begun-first (Some before) None a b begun = absurd begun
begun-first (Some before) (Some next) a b begun = λ q.
    let first = first_of (begun q).0 (a q) (b q) in
    (first.0, (begun q).1 ∙ ap (λ xs. before q ++ xs) first.1)

pub begun-then : (before mid next : Option ByParty) (a b : ByParty) → AreSent before mid a → AreBegun mid next b → AreBegun before next (λ q. a q ++ b q)
begun-then None mid next a b sent begun = tt
begun-then (Some before) None next a b sent begun = absurd sent
begun-then (Some before) (Some mid) None a b sent begun = absurd begun
begun-then (Some before) (Some mid) (Some next) a b sent begun = λ q.
    let n = (begun q).0 in
    (length (a q) + n, (begun q).1 ∙ ap (λ xs. xs ++ take n (b q)) (sent q) ∙ append_assoc (before q) (a q) (take n (b q)) ∙ ap (λ xs. before q ++ xs) (sym (take-append-add (a q) (b q) n)))

pub begun-all : (before next : Option ByParty) (a : ByParty) → AreSent before next a → AreBegun before next a
begun-all None next a sent = tt
begun-all (Some before) None a sent = absurd sent
begun-all (Some before) (Some next) a sent = λ q.
    (length (a q), sent q ∙ ap (λ xs. before q ++ xs) (sym (take_all (length (a q)) (a q) (omega arith))))

-- nothing was sent between
pub sent-behind : (before mid next : Option ByParty) (a : ByParty) → IsKept before mid → AreSent mid next a → AreSent before next a
sent-behind None mid next a kept sent = tt
sent-behind (Some before) None next a kept sent = absurd kept
sent-behind (Some before) (Some mid) None a kept sent = absurd sent
sent-behind (Some before) (Some mid) (Some next) a kept sent = λ q. sent q ∙ ap (λ xs. xs ++ a q) (kept q)

pub sent-ahead : (before mid next : Option ByParty) (a : ByParty) → AreSent before mid a → IsKept mid next → AreSent before next a
sent-ahead None mid next a sent kept = tt
sent-ahead (Some before) None next a sent kept = absurd sent
sent-ahead (Some before) (Some mid) None a sent kept = absurd kept
sent-ahead (Some before) (Some mid) (Some next) a sent kept = λ q. kept q ∙ sent q

pub begun-behind : (before mid next : Option ByParty) (a : ByParty) → IsKept before mid → AreBegun mid next a → AreBegun before next a
begun-behind None mid next a kept begun = tt
begun-behind (Some before) None next a kept begun = absurd kept
begun-behind (Some before) (Some mid) None a kept begun = absurd begun
begun-behind (Some before) (Some mid) (Some next) a kept begun = λ q.
    ((begun q).0, (begun q).1 ∙ ap (λ xs. xs ++ take (begun q).0 (a q)) (kept q))

pub begun-none : (before next : Option ByParty) (a : ByParty) → IsKept before next → AreBegun before next a
begun-none None next a kept = tt
begun-none (Some before) None a kept = absurd kept
begun-none (Some before) (Some next) a kept = λ q. (0, kept q ∙ sym (append-nil (before q)))

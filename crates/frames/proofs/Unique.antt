-- Bytes have one reading.
use Rattle.std.proofs.Common.{◌≡◌, ℕ, List, [], ◌∷◌, ◌++◌, refl, sym, ap, ◌∙◌, append_assoc, None, Some, arith}
use Rattle.std.proofs.lemmas.List.{length-append}
use Rattle.std.specs.List.{AllByRecursion}
use Rattle.frames.specs.declared.frame.FrameFault.{FrameFault}
use Rattle.frames.specs.declared.frame.Frame.{Frame}
use Rattle.frames.specs.declared.frame.Frame.TheVariants.{Hello, Message, End}
use Rattle.frames.specs.Bytes.{canonical, joined, IsSendable, IsInWidth}
use Rattle.frames.specs.Reading.{fault_at, IsPartial, IsBeforeEnd, StandBefore, Waiting, Faulty, Ended, OneReading}
use Rattle.frames.proofs.Injective.{front_alike, whole_faultless, whole_length}

in_width : (f : Frame) → IsBeforeEnd f → IsInWidth f
in_width (Hello h) can = can
in_width (Message gate round payload) can = can.0
in_width End can = absurd can

sendable : (f : Frame) → IsBeforeEnd f → IsSendable f
sendable (Hello h) can = tt
sendable (Message gate round payload) can = can.1
sendable End can = absurd can

-- no frame that may stand before End is at the front of the bytes
record HasNone (bytes : List ℕ) : Type 0 where
  none : (f : Frame) (rest : List ℕ) → IsBeforeEnd f → bytes ≡ canonical f ++ rest → ⊥

no_partial : (f : Frame) (bytes rest : List ℕ) → IsInWidth f → IsSendable f → bytes ≡ canonical f ++ rest → IsPartial bytes → ⊥
no_partial f bytes rest fits can is p =
    let short = rw is at p.lacking in
    omega (arith, short, whole_length f rest fits can, length-append (canonical f) rest)

no_fault : (f : Frame) (bytes rest : List ℕ) (fault : FrameFault) → IsInWidth f → IsSendable f → bytes ≡ canonical f ++ rest → fault_at bytes ≡ Some fault → ⊥
no_fault f bytes rest fault fits can is bad =
    let none : None ≡ Some fault = sym (whole_faultless f rest fits can) ∙ sym (ap fault_at is) ∙ bad in
    cc

no_end : (f : Frame) (x y : List ℕ) → IsBeforeEnd f → canonical End ++ x ≡ canonical f ++ y → ⊥
no_end f x y can is =
    let same = (front_alike End f x y tt tt (in_width f can) (sendable f can) is).0 in
    rw (← same) at can

none_partial : (bytes : List ℕ) → IsPartial bytes → HasNone bytes
none_partial bytes p = record { none = λ f rest can is. no_partial f bytes rest (in_width f can) (sendable f can) is p }

none_fault : (bytes : List ℕ) (fault : FrameFault) → fault_at bytes ≡ Some fault → HasNone bytes
none_fault bytes fault bad = record { none = λ f rest can is. no_fault f bytes rest fault (in_width f can) (sendable f can) is bad }

none_end : (rest : List ℕ) → HasNone (canonical End ++ rest)
none_end rest = record { none = λ f more can is. no_end f rest more can is }

-- where no further frame is, the frames before are the same
same_frames : (frames others : List Frame) (x y : List ℕ) → AllByRecursion IsBeforeEnd frames → AllByRecursion IsBeforeEnd others → joined frames ++ x ≡ joined others ++ y → HasNone x → HasNone y → (frames ≡ others) × (x ≡ y)
same_frames [] [] x y can may is here there = (refl, is)
same_frames [] (g ∷ others) x y can may is here there =
    absurd (here.none g (joined others ++ y) may.0 (is ∙ append_assoc (canonical g) (joined others) y))
same_frames (f ∷ frames) [] x y can may is here there =
    absurd (there.none f (joined frames ++ x) can.0 (sym is ∙ append_assoc (canonical f) (joined frames) x))
same_frames (f ∷ frames) (g ∷ others) x y can may is here there =
    let front = front_alike f g (joined frames ++ x) (joined others ++ y) (in_width f can.0) (sendable f can.0) (in_width g may.0) (sendable g may.0) (sym (append_assoc (canonical f) (joined frames) x) ∙ is ∙ append_assoc (canonical g) (joined others) y) in
    let behind = same_frames frames others x y can.1 may.1 front.1 here there in
    (let first = front.0 in let more = behind.0 in cc, behind.1)

same_stand : (bytes : List ℕ) (frames others : List Frame) (x y : List ℕ) → StandBefore bytes frames x → StandBefore bytes others y → HasNone x → HasNone y → (frames ≡ others) × (x ≡ y)
same_stand bytes frames others x y a b here there =
    same_frames frames others x y a.each b.each (sym a.whole ∙ b.whole) here there

pub unique : OneReading
unique bytes frames others (Waiting x) (Waiting y) a b =
    let same = same_stand bytes frames others x y a.0 b.0 (none_partial x a.1) (none_partial y b.1) in
    (same.0, ap Waiting same.1)
unique bytes frames others (Waiting x) (Faulty fault) a b =
    let same = same_stand bytes frames others x b.0 a.0 b.1 (none_partial x a.1) (none_fault b.0 fault b.2) in
    absurd (let clash : None ≡ Some fault = sym a.1.faultless ∙ ap fault_at same.1 ∙ b.2 in cc)
unique bytes frames others (Waiting x) Ended a b =
    let same = same_stand bytes frames b.0 x (canonical End ++ b.1) a.0 b.3 (none_partial x a.1) (none_end b.1) in
    absurd (no_partial End x b.1 tt tt same.1 a.1)
unique bytes frames others (Faulty fault) (Waiting y) a b =
    let same = same_stand bytes frames others a.0 y a.1 b.0 (none_fault a.0 fault a.2) (none_partial y b.1) in
    absurd (let clash : None ≡ Some fault = sym b.1.faultless ∙ sym (ap fault_at same.1) ∙ a.2 in cc)
unique bytes frames others (Faulty fault) (Faulty other) a b =
    let same = same_stand bytes frames others a.0 b.0 a.1 b.1 (none_fault a.0 fault a.2) (none_fault b.0 other b.2) in
    (same.0, let agree : Some fault ≡ Some other = sym a.2 ∙ ap fault_at same.1 ∙ b.2 in cc)
unique bytes frames others (Faulty fault) Ended a b =
    let same = same_stand bytes frames b.0 a.0 (canonical End ++ b.1) a.1 b.3 (none_fault a.0 fault a.2) (none_end b.1) in
    absurd (no_fault End a.0 b.1 fault tt tt same.1 a.2)
unique bytes frames others Ended (Waiting y) a b =
    let same = same_stand bytes a.0 others (canonical End ++ a.1) y a.3 b.0 (none_end a.1) (none_partial y b.1) in
    absurd (no_partial End y a.1 tt tt (sym same.1) b.1)
unique bytes frames others Ended (Faulty fault) a b =
    let same = same_stand bytes a.0 others (canonical End ++ a.1) b.0 a.3 b.1 (none_end a.1) (none_fault b.0 fault b.2) in
    absurd (no_fault End b.0 a.1 fault tt tt (sym same.1) b.2)
unique bytes frames others Ended Ended a b =
    let same = same_stand bytes a.0 b.0 (canonical End ++ a.1) (canonical End ++ b.1) a.3 b.3 (none_end a.1) (none_end b.1) in
    (a.2 ∙ ap (λ fs. fs ++ End ∷ []) same.0 ∙ sym b.2, refl)

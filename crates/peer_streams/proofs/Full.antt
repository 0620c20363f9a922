-- A peer that ended without a cause has sent each message that is expected of it.
use Rattle.std.proofs.Common.{◌≡◌, ℕ, eqb, ◌&&◌, Bool, true, false, cond, List, [], ◌∷◌, ◌++◌, refl, sym, ap, subst, ◌∙◌, Option, Some, None, is_none, arith}
use Rattle.std.specs.FinMap as m
use Rattle.std.specs.List.{find}
use Rattle.std.specs.Option.{option_or}
use Rattle.std.specs.Ordering.{eq_by_cmp}
use Rattle.std.proofs.lemmas.Bool.Decides.{nat_tests}
use Rattle.mot_base.specs.declared.Party.{Party}
use Rattle.frames.specs.Reading.{Progress, Waiting, Faulty, Ended, Reads, has_ended}
use Rattle.frames.specs.declared.frame.Hello as hello
use Rattle.frames.specs.declared.frame.Frame.{Frame}
use Rattle.frames.specs.declared.frame.Frame.TheVariants.{End}
use Rattle.message_demux.specs.declared.slots.Slot.{Slot}
use Rattle.message_demux.specs.declared.slots.SlotSpec.{SlotSpec}
use Rattle.message_demux.specs.Kept.{InboxContents}
use Rattle.message_demux.specs.Slots.{slot_cmp, slot_of, listed}
use Rattle.peer_streams.specs.declared.error.PartyError.TheVariants as cause
use Rattle.peer_streams.specs.Judging.{kept_in, is_lacking, first_cause, cause_behind, greeting_cause, own_cause}
use Rattle.peer_streams.specs.Reading.{PeerRead, HasRead}
use Rattle.peer_streams.proofs.Judged.{causes-append}
use Rattle.peer_streams.proofs.Keeping.{same_slot, kept-append}
use Rattle.mot_base.proofs.Lists.{neither_some as neither, mapped_none as none_of, option_or_none as or_none}

-- what a search finds, and what another one does not find
abbrev AreApart : {X : Type 0} → (X → Bool) → (X → Bool) → X → Type 0
AreApart p q x = (p x ≡ true) × (q x ≡ false)

apart_at : {X : Type 0} (p q : X → Bool) (y : X) (ys : List X) (x : X) → find p (y ∷ ys) ≡ Some x → find q (y ∷ ys) ≡ None → (find p ys ≡ Some x → find q ys ≡ None → AreApart p q x) → (c : Bool) → q y ≡ c → (b : Bool) → p y ≡ b → AreApart p q x
apart_at p q y ys x some none rest true present b is = absurd (let clash : Some y ≡ None = ap (λ t. cond t (Some y) (find q ys)) (sym present) ∙ none in cc)
apart_at p q y ys x some none rest false absent true is =
    let same : Some y ≡ Some x = ap (λ t. cond t (Some y) (find p ys)) (sym is) ∙ some in
    let one : y ≡ x = cc in
    (ap p (sym one) ∙ is, ap q (sym one) ∙ absent)
apart_at p q y ys x some none rest false absent false is =
    rest (ap (λ t. cond t (Some y) (find p ys)) (sym is) ∙ some) (ap (λ t. cond t (Some y) (find q ys)) (sym absent) ∙ none)

found : {X : Type 0} (p q : X → Bool) (xs : List X) (x : X) → find p xs ≡ Some x → find q xs ≡ None → AreApart p q x
found p q [] x some none = absurd (let clash : None ≡ Some x = some in cc)
found p q (y ∷ ys) x some none = apart_at p q y ys x some none (found p q ys x) (q y) refl (p y) refl

some_of : {X : Type 0} (o : Option X) → is_none o ≡ false → (x : X) × (o ≡ Some x)
some_of None e = absurd (cc)
some_of (Some x) e = (x, refl)

-- End behind frames shows that a message is lacking
ends_full : (expected : hello.Hello) (slots : List SlotSpec) (before : List Frame) → first_cause expected slots (before ++ End ∷ []) ≡ None → find (is_lacking before expected.from) slots ≡ None
ends_full expected slots before none =
    let last : cause_behind expected slots before (End ∷ []) ≡ None = (neither _ _ (sym (causes-append expected slots [] before (End ∷ [])) ∙ none)).1 in
    let own : option_or (greeting_cause expected before End) (own_cause expected slots before End) ≡ None = (neither _ _ last).0 in
    none_of slot_of (find (is_lacking before expected.from) slots) (none_of (cause.EndEarly expected.from) _ (neither _ _ own).1)

number_same : (x y : Party) → x ≡ y → eqb x.0 y.0 ≡ true
number_same x y same = let number : x.0 ≡ y.0 = ap (λ (p : Party). p.0) same in grind (arith, nat_tests)

-- an expected message that is not lacking among frames has its payload there
there_is : (slots : List SlotSpec) (before : List Frame) (peer : Party) (slot : Slot) (spec : SlotSpec) → find (is_lacking before peer) slots ≡ None → listed slots slot ≡ Some spec → slot.from ≡ peer → (payload : List ℕ) × (kept_in peer before slot ≡ Some payload)
there_is slots before peer slot spec none is theirs =
    let both = found (λ s. eq_by_cmp slot_cmp (slot_of s) slot) (is_lacking before peer) slots spec is none in
    let same : slot_of spec ≡ slot = same_slot (slot_of spec) slot both.0 in
    let own : eqb spec.from.0 peer.0 ≡ true = number_same spec.from peer (ap (λ (s : Slot). s.from) same ∙ theirs) in
    let some : is_none (kept_in peer before (slot_of spec)) ≡ false = ap (λ b. b && is_none (kept_in peer before (slot_of spec))) (sym own) ∙ both.1 in
    some_of (kept_in peer before slot) (ap (λ s. is_none (kept_in peer before s)) (sym same) ∙ some)

kept_by : (expected : hello.Hello) (slots : List SlotSpec) (bytes : List ℕ) (frames : List Frame) (progress : Progress) (slot : Slot) (spec : SlotSpec) → Reads bytes frames progress → has_ended progress ≡ true → first_cause expected slots frames ≡ None → listed slots slot ≡ Some spec → slot.from ≡ expected.from → (payload : List ℕ) × (kept_in expected.from frames slot ≡ Some payload)
kept_by expected slots bytes frames (Waiting rest) slot spec reads ended none is theirs = absurd (cc)
kept_by expected slots bytes frames (Faulty fault) slot spec reads ended none is theirs = absurd (cc)
kept_by expected slots bytes frames Ended slot spec reads ended none is theirs =
    let before = reads.0 in
    let all : first_cause expected slots (before ++ End ∷ []) ≡ None = subst (λ fs. first_cause expected slots fs ≡ None) reads.2 none in
    let found = there_is slots before expected.from slot spec (ends_full expected slots before all) is theirs in
    (found.0, ap (λ fs. kept_in expected.from fs slot) reads.2 ∙ kept-append expected.from before (End ∷ []) slot ∙ or_none (kept_in expected.from before slot) ∙ found.1)

-- of a peer that was read to its End without a cause, each expected message is kept
pub came : (inbox : InboxContents) (bytes : List ℕ) (peer : PeerRead) (slot : Slot) (spec : SlotSpec) → HasRead inbox bytes peer → has_ended peer.progress ≡ true → listed inbox.slots slot ≡ Some spec → slot.from ≡ peer.expected.from → (payload : List ℕ) × (m.get inbox.kept slot ≡ Some payload)
came inbox bytes peer slot spec h ended is theirs =
    let found = kept_by peer.expected inbox.slots bytes h.frames peer.progress slot spec h.reads ended (neither _ _ h.clean).0 is theirs in
    (found.0, h.keeps slot theirs ∙ found.1)

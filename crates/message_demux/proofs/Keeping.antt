-- The map that stands in a list of expected messages and a list of payloads.
use Rattle.std.proofs.Common.{◌≡◌, ℕ, zero, suc, ◌<◌, Bool, true, false, cond, List, [], ◌∷◌, map, length, get_or, set, replicate, refl, sym, ap, ◌∙◌, Option, Some, None, arith}
use Rattle.std.specs.declared.cmp.Ordering.TheVariants.{Less}
use Rattle.std.specs.Ordering.{is_eq, eq_by_cmp}
use Rattle.std.specs.Cmp.{tied_itself, eq_by_cmp_equiv}
use Rattle.std.specs.FinMap as m
use Rattle.std.specs.FinMap.{get-insert, get-empty, same_map}
use Rattle.std.specs.List.{AllByRecursion}
use Rattle.std.specs.List.Sorted.{IsStrictlySortedBy}
use Rattle.std.proofs.lemmas.Bool.Decides.{nat_tests}
use Rattle.std.proofs.lemmas.Map.Keys.{sorted_head, sorted_tail}
use Rattle.message_demux.specs.declared.slots.Slot.{Slot}
use Rattle.message_demux.specs.declared.slots.SlotSpec.{SlotSpec}
use Rattle.message_demux.specs.Fit.{unfit}
use Rattle.message_demux.specs.Kept.{Kept, kept_of, AllFit}
use Rattle.message_demux.specs.Slots.{slot_cmp, slot_of, listed}
use Rattle.message_demux.proofs.Places.{slot_total, slot_same}

-- what is kept for a slot, after a payload was put there and after one was put elsewhere
pub get_here : (kept : Kept) (slot : Slot) (payload : List ℕ) → m.get (m.insert kept slot payload) slot ≡ Some payload
get_here kept slot payload =
    get-insert slot_total kept slot payload slot ∙ rw (tied_itself slot_total slot) refl

pub get_there : (kept : Kept) (slot : Slot) (payload : List ℕ) (q : Slot) → eq_by_cmp slot_cmp q slot ≡ false → m.get (m.insert kept slot payload) q ≡ m.get kept q
get_there kept slot payload q other = get-insert slot_total kept slot payload q ∙ rw other refl

turned : (x y : Slot) (b : Bool) → eq_by_cmp slot_cmp x y ≡ b → eq_by_cmp slot_cmp y x ≡ b
turned x y b e = (eq_by_cmp_equiv slot_total).symm y x ∙ e

two_ways : (kept : Kept) (x y : Slot) (a b : List ℕ) (q : Slot) (r s : Bool) → eq_by_cmp slot_cmp x y ≡ false → eq_by_cmp slot_cmp q x ≡ r → eq_by_cmp slot_cmp q y ≡ s → m.get (m.insert (m.insert kept x a) y b) q ≡ m.get (m.insert (m.insert kept y b) x a) q
two_ways kept x y a b q true true other e f =
    absurd (let clash : true ≡ false = sym f ∙ (eq_by_cmp_equiv slot_total).congr q x y e ∙ other in cc)
two_ways kept x y a b q true false other e f =
    get_there (m.insert kept x a) y b q f
    ∙ get-insert slot_total kept x a q
    ∙ rw e (sym (get-insert slot_total (m.insert kept y b) x a q ∙ rw e refl))
two_ways kept x y a b q false s other e f =
    get-insert slot_total (m.insert kept x a) y b q
    ∙ ap (cond (eq_by_cmp slot_cmp q y) (Some b)) (get_there kept x a q e)
    ∙ sym (get_there (m.insert kept y b) x a q e ∙ get-insert slot_total kept y b q)

-- two payloads for two slots, in either order
insert_swap : (kept : Kept) (x y : Slot) (a b : List ℕ) → eq_by_cmp slot_cmp x y ≡ false → m.insert (m.insert kept x a) y b ≡ m.insert (m.insert kept y b) x a
insert_swap kept x y a b other =
    same_map slot_total slot_same _ _ (λ q. two_ways kept x y a b q _ _ other refl refl)

below : (specs : List SlotSpec) (slot : Slot) (k : ℕ) (d : SlotSpec) → AllByRecursion (λ y. slot_cmp slot y ≡ Less) (map slot_of specs) → k < length specs → slot_cmp slot (slot_of (get_or specs k d)) ≡ Less
below [] slot k d all h = absurd (omega arith)
below (spec ∷ specs) slot zero d all h = all.0
below (spec ∷ specs) slot (suc k) d all h = below specs slot k d all.1 (omega arith)

-- a slot below all that are listed is not listed
unlisted : (specs : List SlotSpec) (slot : Slot) → AllByRecursion (λ y. slot_cmp slot y ≡ Less) (map slot_of specs) → listed specs slot ≡ None
unlisted [] slot all = refl
unlisted (spec ∷ specs) slot all =
    let other : eq_by_cmp slot_cmp (slot_of spec) slot ≡ false = turned slot (slot_of spec) false (ap is_eq all.0) in
    rw other (unlisted specs slot all.1)

pub cond_none : {X : Type 0} (b : Bool) (x : X) (rest : Option X) → cond b (Some x) rest ≡ None → (b ≡ false) × (rest ≡ None)
cond_none true x rest e = absurd (cc)
cond_none false x rest e = (refl, e)

passed : (spec : SlotSpec) (specs : List SlotSpec) (slot : Slot) → listed (spec ∷ specs) slot ≡ None → (eq_by_cmp slot_cmp (slot_of spec) slot ≡ false) × (listed specs slot ≡ None)
passed spec specs slot none = cond_none (eq_by_cmp slot_cmp (slot_of spec) slot) spec (listed specs slot) none

-- nothing is kept for a slot that is not listed
pub kept_absent : (specs : List SlotSpec) (payloads : List (Option (List ℕ))) (slot : Slot) → listed specs slot ≡ None → m.get (kept_of specs payloads) slot ≡ None
kept_absent [] payloads slot none = get-empty slot_cmp slot
kept_absent (spec ∷ specs) [] slot none = get-empty slot_cmp slot
kept_absent (spec ∷ specs) (None ∷ payloads) slot none = kept_absent specs payloads slot (passed spec specs slot none).1
kept_absent (spec ∷ specs) (Some payload ∷ payloads) slot none =
    let rest = passed spec specs slot none in
    get_there (kept_of specs payloads) (slot_of spec) payload slot (turned (slot_of spec) slot false rest.0) ∙ kept_absent specs payloads slot rest.1

-- what is kept for a listed slot stands at its place
pub kept_at : (specs : List SlotSpec) (payloads : List (Option (List ℕ))) (slot : Slot) (k : ℕ) (d : SlotSpec) (e : Option (List ℕ)) → IsStrictlySortedBy slot_cmp (map slot_of specs) → length payloads ≡ length specs → k < length specs → slot_of (get_or specs k d) ≡ slot → m.get (kept_of specs payloads) slot ≡ get_or payloads k e
kept_at [] payloads slot k d e sorted paired h here = absurd (omega arith)
kept_at (spec ∷ specs) [] slot k d e sorted paired h here = absurd (omega arith)
kept_at (spec ∷ specs) (None ∷ payloads) slot zero d e sorted paired h here =
    kept_absent specs payloads slot (rw (← here) (unlisted specs (slot_of spec) (sorted_head slot_cmp (slot_of spec) (map slot_of specs) sorted)))
kept_at (spec ∷ specs) (Some payload ∷ payloads) slot zero d e sorted paired h here =
    rw (← here) (get_here (kept_of specs payloads) (slot_of spec) payload)
kept_at (spec ∷ specs) (None ∷ payloads) slot (suc k) d e sorted paired h here =
    kept_at specs payloads slot k d e (sorted_tail slot_cmp (slot_of spec) (map slot_of specs) sorted) (omega arith) (omega arith) here
kept_at (spec ∷ specs) (Some payload ∷ payloads) slot (suc k) d e sorted paired h here =
    let less : slot_cmp (slot_of spec) slot ≡ Less = ap (slot_cmp (slot_of spec)) (sym here) ∙ below specs (slot_of spec) k d (sorted_head slot_cmp (slot_of spec) (map slot_of specs) sorted) (omega arith) in
    let other : eq_by_cmp slot_cmp slot (slot_of spec) ≡ false = turned (slot_of spec) slot false (ap is_eq less) in
    get_there (kept_of specs payloads) (slot_of spec) payload slot other
    ∙ kept_at specs payloads slot k d e (sorted_tail slot_cmp (slot_of spec) (map slot_of specs) sorted) (omega arith) (omega arith) here

-- a payload that is put at the place of its slot is put in the map
pub kept_set : (specs : List SlotSpec) (payloads : List (Option (List ℕ))) (slot : Slot) (k : ℕ) (d : SlotSpec) (payload : List ℕ) → IsStrictlySortedBy slot_cmp (map slot_of specs) → length payloads ≡ length specs → k < length specs → slot_of (get_or specs k d) ≡ slot → get_or payloads k None ≡ None → kept_of specs (set payloads k (Some payload)) ≡ m.insert (kept_of specs payloads) slot payload
kept_set [] payloads slot k d payload sorted paired h here none = absurd (omega arith)
kept_set (spec ∷ specs) [] slot k d payload sorted paired h here none = absurd (omega arith)
kept_set (spec ∷ specs) (None ∷ payloads) slot zero d payload sorted paired h here none = rw here refl
kept_set (spec ∷ specs) (Some other ∷ payloads) slot zero d payload sorted paired h here none = absurd (cc)
kept_set (spec ∷ specs) (None ∷ payloads) slot (suc k) d payload sorted paired h here none =
    kept_set specs payloads slot k d payload (sorted_tail slot_cmp (slot_of spec) (map slot_of specs) sorted) (omega arith) (omega arith) here none
kept_set (spec ∷ specs) (Some first ∷ payloads) slot (suc k) d payload sorted paired h here none =
    let less : slot_cmp (slot_of spec) slot ≡ Less = ap (slot_cmp (slot_of spec)) (sym here) ∙ below specs (slot_of spec) k d (sorted_head slot_cmp (slot_of spec) (map slot_of specs) sorted) (omega arith) in
    let other : eq_by_cmp slot_cmp slot (slot_of spec) ≡ false = turned (slot_of spec) slot false (ap is_eq less) in
    let rest = kept_set specs payloads slot k d payload (sorted_tail slot_cmp (slot_of spec) (map slot_of specs) sorted) (omega arith) (omega arith) here none in
    ap (λ kept. m.insert kept (slot_of spec) first) rest
    ∙ insert_swap (kept_of specs payloads) slot (slot_of spec) payload first other

-- what is put there fits
pub fit_set : (specs : List SlotSpec) (payloads : List (Option (List ℕ))) (k : ℕ) (d : SlotSpec) (payload : List ℕ) → k < length specs → unfit (get_or specs k d) payload ≡ None → AllFit specs payloads → AllFit specs (set payloads k (Some payload))
fit_set [] payloads k d payload h is all = absurd (omega arith)
fit_set (spec ∷ specs) [] k d payload h is all = tt
fit_set (spec ∷ specs) (None ∷ payloads) zero d payload h is all = (is, all)
fit_set (spec ∷ specs) (Some other ∷ payloads) zero d payload h is all = (is, all.1)
fit_set (spec ∷ specs) (None ∷ payloads) (suc k) d payload h is all = fit_set specs payloads k d payload (omega arith) is all
fit_set (spec ∷ specs) (Some other ∷ payloads) (suc k) d payload h is all = (all.0, fit_set specs payloads k d payload (omega arith) is all.1)

-- where nothing came, nothing is kept
pub kept_none : (specs : List SlotSpec) (n : ℕ) → kept_of specs (replicate n None) ≡ m.empty
kept_none [] n = refl
kept_none (spec ∷ specs) zero = refl
kept_none (spec ∷ specs) (suc n) = kept_none specs n

pub fit_none : (specs : List SlotSpec) (n : ℕ) → AllFit specs (replicate n None)
fit_none [] n = tt
fit_none (spec ∷ specs) zero = tt
fit_none (spec ∷ specs) (suc n) = fit_none specs n

-- a listed message at its place is the one of its slot
pub listed_at : (specs : List SlotSpec) (slot : Slot) (k : ℕ) (d : SlotSpec) → IsStrictlySortedBy slot_cmp (map slot_of specs) → k < length specs → slot_of (get_or specs k d) ≡ slot → listed specs slot ≡ Some (get_or specs k d)
listed_at [] slot k d sorted h here = absurd (omega arith)
listed_at (spec ∷ specs) slot zero d sorted h here =
    let same : eq_by_cmp slot_cmp (slot_of spec) slot ≡ true = ap is_eq (ap (slot_cmp (slot_of spec)) (sym here) ∙ tied_itself slot_total (slot_of spec)) in
    rw same refl
listed_at (spec ∷ specs) slot (suc k) d sorted h here =
    let less : slot_cmp (slot_of spec) slot ≡ Less = ap (slot_cmp (slot_of spec)) (sym here) ∙ below specs (slot_of spec) k d (sorted_head slot_cmp (slot_of spec) (map slot_of specs) sorted) (omega arith) in
    let other : eq_by_cmp slot_cmp (slot_of spec) slot ≡ false = ap is_eq less in
    rw other (listed_at specs slot k d (sorted_tail slot_cmp (slot_of spec) (map slot_of specs) sorted) (omega arith) here)

-- what is kept at a place fits the message there
pub fit_at : (specs : List SlotSpec) (payloads : List (Option (List ℕ))) (k : ℕ) (d : SlotSpec) (e : Option (List ℕ)) (payload : List ℕ) → AllFit specs payloads → length payloads ≡ length specs → k < length specs → get_or payloads k e ≡ Some payload → unfit (get_or specs k d) payload ≡ None
fit_at [] payloads k d e payload all paired h here = absurd (omega arith)
fit_at (spec ∷ specs) [] k d e payload all paired h here = absurd (omega arith)
fit_at (spec ∷ specs) (None ∷ payloads) zero d e payload all paired h here = absurd (cc)
fit_at (spec ∷ specs) (Some other ∷ payloads) zero d e payload all paired h here = let same : other ≡ payload = cc in rw (← same) all.0
fit_at (spec ∷ specs) (None ∷ payloads) (suc k) d e payload all paired h here = fit_at specs payloads k d e payload all (omega arith) (omega arith) here
fit_at (spec ∷ specs) (Some other ∷ payloads) (suc k) d e payload all paired h here = fit_at specs payloads k d e payload all.1 (omega arith) (omega arith) here

-- a payload that fits has the length of its message
pub fit_length : (spec : SlotSpec) (payload : List ℕ) → unfit spec payload ≡ None → length payload ≡ spec.len
fit_length spec payload fits = grind (arith, nat_tests)

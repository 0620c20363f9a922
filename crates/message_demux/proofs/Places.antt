-- The order of slots, and what a search finds among expected messages.
use Rattle.std.proofs.Common.{◌≡◌, ℕ, zero, suc, ◌<◌, false, List, [], ◌∷◌, map, length, get_or, refl, sym, ap, subst, ◌∙◌, None, Result, Ok, Err, add-one, inl, inr, arith}
use Rattle.std.specs.declared.cmp.Ordering.{Ordering}
use Rattle.std.specs.declared.cmp.Ordering.TheVariants.{Less, Equal, Greater}
use Rattle.std.specs.Ordering.{is_lt, is_eq, eq_by_cmp, ordering_then, ordering_reverse}
use Rattle.std.specs.Cmp.{IsTotalOrder, nat_cmp_total, on_total, then_total}
use Rattle.std.specs.FinMap.{IsAntisymmetric, nat_cmp-IsAntisymmetric}
use Rattle.std.specs.List.Sorted.{IsStrictlySortedBy, IsSortedBy, IsSearchInRange, IsBinarySearchResult}
use Rattle.std.specs.Result.{result_ok}
use Rattle.std.proofs.lemmas.Bool.{cases_lt}
use Rattle.std.proofs.lemmas.List.Sorted.{searchable_from_sorted}
use Rattle.std.proofs.lemmas.Map.Keys.{sorted_head, sorted_tail}
use Rattle.message_demux.specs.declared.slots.Slot.{Slot}
use Rattle.message_demux.specs.declared.slots.SlotSpec.{SlotSpec}
use Rattle.message_demux.specs.Slots.{slot_cmp, slot_of, listed, IsPlaceOf}

pub slot_total : IsTotalOrder slot_cmp
slot_total =
    then_total (on_total (λ (slot : Slot). slot.from.0) nat_cmp_total) (then_total (on_total (λ (slot : Slot). slot.gate) nat_cmp_total) (on_total (λ (slot : Slot). slot.round) nat_cmp_total))

then_equal : (r s : Ordering) → ordering_then r s ≡ Equal → (r ≡ Equal) × (s ≡ Equal)
then_equal Less s e = cc
then_equal Equal s e = (refl, e)
then_equal Greater s e = cc

-- only equal slots tie
pub slot_same : IsAntisymmetric slot_cmp
slot_same x y e =
    let outer = then_equal _ _ e in
    let inner = then_equal _ _ outer.1 in
    let from = nat_cmp-IsAntisymmetric x.from.0 y.from.0 outer.0 in
    let gate = nat_cmp-IsAntisymmetric x.gate y.gate inner.0 in
    let round = nat_cmp-IsAntisymmetric x.round y.round inner.1 in
    λ i. record { from = record { 0 = from i }; gate = gate i; round = round i }

rise : (specs : List SlotSpec) → IsStrictlySortedBy slot_cmp (map slot_of specs) → (k : ℕ) (d : SlotSpec) → suc k < length specs → is_lt (slot_cmp (slot_of (get_or specs (suc k) d)) (slot_of (get_or specs k d))) ≡ false
rise [] sorted k d high = absurd (omega arith)
rise (x ∷ []) sorted k d high = absurd (omega arith)
rise (x ∷ y ∷ specs) sorted zero d high =
    let below = (sorted_head slot_cmp (slot_of x) (slot_of y ∷ map slot_of specs) sorted).0 in
    ap is_lt (slot_total.antisymm (slot_of y) (slot_of x) ∙ ap ordering_reverse below)
rise (x ∷ y ∷ specs) sorted (suc k) d high =
    rise (y ∷ specs) (sorted_tail slot_cmp (slot_of x) (slot_of y ∷ map slot_of specs) sorted) k d (omega arith)

rises : (specs : List SlotSpec) → IsStrictlySortedBy slot_cmp (map slot_of specs) → IsSortedBy (λ a b. is_lt (slot_cmp (slot_of a) (slot_of b))) specs
rises specs sorted k d low high =
    let P : ℕ → Type 0 = λ n. is_lt (slot_cmp (slot_of (get_or specs n d)) (slot_of (get_or specs k d))) ≡ false in
    subst P (sym (add-one k)) (rise specs sorted k d (omega arith))

-- a slot that no message of a list has is not listed
pub absent : (specs : List SlotSpec) (slot : Slot) → ((k : ℕ) (d : SlotSpec) → k < length specs → eq_by_cmp slot_cmp (slot_of (get_or specs k d)) slot ≡ false) → listed specs slot ≡ None
absent [] slot none = refl
absent (spec ∷ specs) slot none =
    rw (none 0 spec (omega arith)) (absent specs slot (λ k d h. none (suc k) d (omega arith)))

pub searched : (specs : List SlotSpec) (slot : Slot) → IsStrictlySortedBy slot_cmp (map slot_of specs) → (found : Result ℕ ℕ) → IsSearchInRange found (length specs) → IsBinarySearchResult (λ spec. slot_cmp (slot_of spec) slot) specs found → IsPlaceOf specs slot (result_ok found)
searched specs slot sorted (Ok place) range equal = (range, λ d. slot_same _ _ (equal d))
searched specs slot sorted (Err place) range parted =
    let parts = parted (searchable_from_sorted slot_total slot_of specs slot (rises specs sorted)) in
    absent specs slot (λ k d h. elim (cases_lt k place) [
      | inl below ↦ ap is_eq (parts.0 k d (omega arith) below)
      | inr above ↦ ap is_eq (parts.1 k d above h)
    ])

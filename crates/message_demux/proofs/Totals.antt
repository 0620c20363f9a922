-- How many bytes are kept.
use Rattle.std.proofs.Common.{◌≡◌, ℕ, true, false, ◌+◌, ◌*◌, ◌≤◌, List, [], ◌∷◌, map, length, refl, sym, ap, ◌∙◌, Option, Some, None, arith}
use Rattle.std.specs.declared.cmp.Ordering.TheVariants.{Less, Equal, Greater}
use Rattle.std.specs.Ordering.{is_eq, eq_by_cmp}
use Rattle.std.specs.FinMap as m
use Rattle.std.specs.FinMap.{entries, entries-insert, get-entries, len-entries, len-empty}
use Rattle.std.specs.FinMap.Entries.{put, find, by_order}
use Rattle.std.specs.List.{AllByRecursion, sum_by}
use Rattle.std.proofs.lemmas.List.{nil_from_length}
use Rattle.std.proofs.lemmas.List.Sums.{sum_by-cons}
use Rattle.message_demux.specs.declared.slots.Slot.{Slot}
use Rattle.message_demux.specs.declared.slots.SlotSpec.{SlotSpec}
use Rattle.message_demux.specs.Kept.{Kept, kept_of, AllFit}
use Rattle.message_demux.specs.Slots.{slot_cmp, slot_of, IsSlotSpec}
use Rattle.message_demux.proofs.Places.{slot_total}
use Rattle.message_demux.proofs.Keeping.{cond_none, fit_length}

abbrev pub Entry : Type 0
Entry = Slot × List ℕ

-- the bytes of entries
abbrev pub bytes : List Entry → ℕ
bytes es = sum_by length (map (λ e. e.1) es)

bytes-cons : (e : Entry) (es : List Entry) → bytes (e ∷ es) ≡ length e.1 + bytes es
bytes-cons e es = sum_by-cons length e.1 (map (λ e. e.1) es)

-- an entry adds its bytes at most, and exactly its bytes where its slot is new
put_most : (slot : Slot) (payload : List ℕ) (es : List Entry) → bytes (put slot_cmp slot payload es) ≤ length payload + bytes es
put_most slot payload [] = omega (arith, bytes-cons (slot, payload) [])
put_most slot payload (e ∷ es) =
    elim (slot_cmp slot e.0) as (λ o. bytes (by_order o ((slot, payload) ∷ e ∷ es) ((e.0, payload) ∷ es) (e ∷ put slot_cmp slot payload es)) ≤ length payload + bytes (e ∷ es)) [
      | Less ↦ omega (arith, bytes-cons (slot, payload) (e ∷ es))
      | Equal ↦ omega (arith, bytes-cons (e.0, payload) es, bytes-cons e es)
      | Greater ↦ omega (arith, bytes-cons e (put slot_cmp slot payload es), bytes-cons e es, put_most slot payload es)
    ]

pub put_new : (slot : Slot) (payload : List ℕ) (es : List Entry) → find slot_cmp slot es ≡ None → bytes (put slot_cmp slot payload es) ≡ length payload + bytes es
put_new slot payload [] none = bytes-cons (slot, payload) []
put_new slot payload (e ∷ es) none =
    let rest = cond_none (eq_by_cmp slot_cmp slot e.0) e.1 (find slot_cmp slot es) none in
    elim (slot_cmp slot e.0) as (λ o. slot_cmp slot e.0 ≡ o → bytes (by_order o ((slot, payload) ∷ e ∷ es) ((e.0, payload) ∷ es) (e ∷ put slot_cmp slot payload es)) ≡ length payload + bytes (e ∷ es)) [
      | Less ↦ λ is. omega (arith, bytes-cons (slot, payload) (e ∷ es))
      | Equal ↦ λ is. absurd (let clash : true ≡ false = sym (ap is_eq is) ∙ rest.0 in cc)
      | Greater ↦ λ is. omega (arith, bytes-cons e (put slot_cmp slot payload es), bytes-cons e es, put_new slot payload es rest.1)
    ] refl

pub insert_most : (kept : Kept) (slot : Slot) (payload : List ℕ) → sum_by length (m.values (m.insert kept slot payload)) ≤ length payload + sum_by length (m.values kept)
insert_most kept slot payload = rw (entries-insert slot_total kept slot payload) (put_most slot payload (entries kept))

pub insert_new : (kept : Kept) (slot : Slot) (payload : List ℕ) → m.get kept slot ≡ None → sum_by length (m.values (m.insert kept slot payload)) ≡ length payload + sum_by length (m.values kept)
insert_new kept slot payload none =
    rw (entries-insert slot_total kept slot payload) (put_new slot payload (entries kept) (sym (get-entries kept slot) ∙ none))

pub none_kept : (kept : Kept) → kept ≡ m.empty → sum_by length (m.values kept) ≡ 0
none_kept kept is =
    rw (nil_from_length (entries kept) (sym (len-entries kept) ∙ ap (λ k. m.len k) is ∙ len-empty slot_cmp (List ℕ))) refl

-- no more is kept than was listed
pub kept_most : (specs : List SlotSpec) (payloads : List (Option (List ℕ))) → AllFit specs payloads → sum_by length (m.values (kept_of specs payloads)) ≤ sum_by (λ spec. spec.len) specs
kept_most [] payloads all = omega (arith, none_kept m.empty refl)
kept_most (spec ∷ specs) [] all = omega (arith, none_kept m.empty refl)
kept_most (spec ∷ specs) (None ∷ payloads) all =
    omega (arith, kept_most specs payloads all, sum_by-cons (λ (spec : SlotSpec). spec.len) spec specs)
kept_most (spec ∷ specs) (Some payload ∷ payloads) all =
    omega (arith, kept_most specs payloads all.1, fit_length spec payload all.0, insert_most (kept_of specs payloads) (slot_of spec) payload, sum_by-cons (λ (spec : SlotSpec). spec.len) spec specs)

-- and that is few enough for a count
pub listed_most : (specs : List SlotSpec) → AllByRecursion IsSlotSpec specs → sum_by (λ spec. spec.len) specs ≤ 65536 * length specs
listed_most [] all = omega arith
listed_most (spec ∷ specs) all =
    omega (arith, listed_most specs all.1, all.0.1, sum_by-cons (λ (spec : SlotSpec). spec.len) spec specs)

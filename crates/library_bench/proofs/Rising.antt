-- Expected messages of one gate after another.
use Rattle.std.proofs.Common.{◌≡◌, ℕ, ◌+◌, ◌<◌, ◌^◌, List, [], ◌∷◌, ◌++◌, map, length, refl, sym, ap, ◌∙◌, arith}
use Rattle.std.specs.declared.cmp.Ordering.TheVariants.{Less, Equal}
use Rattle.std.specs.Ordering.{nat_cmp}
use Rattle.std.specs.Cmp.{nat_cmp_total, tied_itself}
use Rattle.std.specs.List.{AllByRecursion}
use Rattle.std.specs.List.Sorted.{IsStrictlySortedBy}
use Rattle.std.proofs.lemmas.Bool.Decides.{nat_tests}
use Rattle.std.proofs.lemmas.List.{length-append, map-append}
use Rattle.message_demux.specs.declared.slots.Slot.{Slot}
use Rattle.message_demux.specs.declared.slots.SlotSpec.{SlotSpec}
use Rattle.message_demux.specs.Slots.{slot_cmp, slot_of, IsSlotSpec, IsSlotList}

-- a slot of party 1 and round 0, of an earlier gate
pub record IsBelow (gate : ℕ) (slot : Slot) : Type 0 where
  pub from : slot.from.0 ≡ 1
  pub earlier : slot.gate < gate
  pub round : slot.round ≡ 0

-- expected messages of the gates below one
pub record AreBelow (gate : ℕ) (specs : List SlotSpec) : Type 0 where
  pub sorted : IsStrictlySortedBy slot_cmp (map slot_of specs)
  pub below : AllByRecursion (IsBelow gate) (map slot_of specs)
  pub each : AllByRecursion IsSlotSpec specs
  pub count : length specs ≡ gate

all_push : {X : Type 0} (P : X → Type 0) (xs : List X) (y : X) → AllByRecursion P xs → P y → AllByRecursion P (xs ++ y ∷ [])
all_push P [] y all one = (one, tt)
all_push P (x ∷ xs) y all one = (all.0, all_push P xs y all.1 one)

all_weaker : (gate : ℕ) (slots : List Slot) → AllByRecursion (IsBelow gate) slots → AllByRecursion (IsBelow (gate + 1)) slots
all_weaker gate [] all = tt
all_weaker gate (slot ∷ slots) all =
    (record { from = all.0.from; earlier = omega (arith, all.0.earlier); round = all.0.round }, all_weaker gate slots all.1)

less : (m n : ℕ) → m < n → nat_cmp m n ≡ Less
less m n h = grind (arith, nat_tests)

earlier_less : (gate : ℕ) (x y : Slot) → IsBelow gate x → y.from.0 ≡ 1 → y.gate ≡ gate → slot_cmp x y ≡ Less
earlier_less gate x y below from is =
    let senders : nat_cmp x.from.0 y.from.0 ≡ Equal = ap (nat_cmp x.from.0) (from ∙ sym below.from) ∙ tied_itself nat_cmp_total x.from.0 in
    let gates : nat_cmp x.gate y.gate ≡ Less = less x.gate y.gate (omega (arith, below.earlier, is)) in
    rw (senders, gates) refl

sorted_push : (gate : ℕ) (slots : List Slot) (y : Slot) → IsStrictlySortedBy slot_cmp slots → AllByRecursion (IsBelow gate) slots → y.from.0 ≡ 1 → y.gate ≡ gate → IsStrictlySortedBy slot_cmp (slots ++ y ∷ [])
unfolding IsStrictlySortedBy
sorted_push gate [] y sorted below from is = (tt, tt)
sorted_push gate (x ∷ slots) y sorted below from is =
    (all_push (λ z. slot_cmp x z ≡ Less) slots y sorted.0 (earlier_less gate x y below.0 from is), sorted_push gate slots y sorted.1 below.1 from is)

pub none_below : AreBelow 0 []
unfolding IsStrictlySortedBy
none_below = record { sorted = tt; below = tt; each = tt; count = refl }

pub one_more : (gate : ℕ) (specs : List SlotSpec) (spec : SlotSpec) → AreBelow gate specs → spec.from.0 ≡ 1 → spec.gate ≡ gate → spec.round ≡ 0 → IsSlotSpec spec → AreBelow (gate + 1) (specs ++ spec ∷ [])
one_more gate specs spec are from is round can = record {
  sorted = rw (map-append slot_of specs (spec ∷ [])) (sorted_push gate (map slot_of specs) (slot_of spec) are.sorted are.below from is);
  below = rw (map-append slot_of specs (spec ∷ [])) (all_push (IsBelow (gate + 1)) (map slot_of specs) (slot_of spec) (all_weaker gate (map slot_of specs) are.below) (record { from = from; earlier = omega (arith, is); round = round }));
  each = all_push IsSlotSpec specs spec are.each can;
  count = length-append specs (spec ∷ []) ∙ omega (arith, are.count);
}

pub listed : (gate : ℕ) (specs : List SlotSpec) → AreBelow gate specs → gate < 2 ^ 32 → IsSlotList specs
listed gate specs are few = record { sorted = are.sorted; few = omega (arith, are.count, few); each = are.each }

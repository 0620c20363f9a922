-- The adder of two wires that are shared as keys: one bit after another, with a carry. It knows numbers, wires and gates
-- alone.
use Rattle.std.specs.Prelude.{ℕ, zero, suc, ◌≡◌, ◌+◌, ◌*◌, ◌%◌, ◌^◌, Bool, true, false, List, ◌++◌, length, filter}
use Rattle.plan_gates.specs.Gate.{Kind, Gate, Garble}
use Rattle.plan_gates.specs.Plan.{Gates, IsPlan}
use Rattle.plan_gates.specs.Plain.{Outside, plain_numbers}
use Rattle.gate_plan.specs.declared.wire.Wire.{Wire}
use Rattle.gate_plan.specs.declared.adder.Sums.{Sums}
use Rattle.gate_plan.specs.Blocks.{xored, anded, sliced, joined, in_row, Stand, HasKeys}

-- the wire of a mask and the masked bits behind it, and that of a mask and what is behind its garbled table
abbrev pub pair_at : ℕ → Wire
pair_at n = record { mask = n; gate = n + 1 }

abbrev pub result_at : ℕ → Wire
result_at n = record { mask = n; gate = n + 2 }

-- bit 0 of wires a and b, of which the first gate has the number n: both bits, their sum and the carry
abbrev pub first_bit : ℕ → Wire → Wire → List Gate
first_bit n a b =
    (sliced true n 1 a 0).gates ++ (sliced true (n + 2) 1 b 0).gates
    ++ (xored true (n + 4) 1 (pair_at n) (pair_at (n + 2))).gates
    ++ (anded true (n + 6) 1 (pair_at n) (pair_at (n + 2))).gates

-- the sum and the carry behind it
abbrev pub first_sums : ℕ → Sums
first_sums n = record { sum = pair_at (n + 4); carry = result_at (n + 6) }

-- a bit in between: both bits, p and q, each with the carry, the sum, the AND of p and q, the next carry, and the sum so
-- far with this bit
abbrev pub next_bit : ℕ → ℕ → Wire → Wire → Sums → List Gate
next_bit n bit a b before =
    (sliced true n 1 a bit).gates ++ (sliced true (n + 2) 1 b bit).gates
    ++ (xored true (n + 4) 1 (pair_at n) before.carry).gates
    ++ (xored true (n + 6) 1 (pair_at (n + 2)) before.carry).gates
    ++ (xored true (n + 8) 1 (pair_at (n + 4)) (pair_at (n + 2))).gates
    ++ (anded true (n + 10) 1 (pair_at (n + 4)) (pair_at (n + 6))).gates
    ++ (xored true (n + 13) 1 before.carry (result_at (n + 10))).gates
    ++ (joined true (n + 15) (bit + 1) before.sum (pair_at (n + 8))).gates

abbrev pub next_sums : ℕ → Sums
next_sums n = record { sum = pair_at (n + 15); carry = pair_at (n + 13) }

-- the last bit: as one in between, without the next carry
abbrev pub last_bit : ℕ → ℕ → Wire → Wire → Sums → List Gate
last_bit n bit a b before =
    (sliced true n 1 a bit).gates ++ (sliced true (n + 2) 1 b bit).gates
    ++ (xored true (n + 4) 1 (pair_at n) before.carry).gates
    ++ (xored true (n + 6) 1 (pair_at (n + 4)) (pair_at (n + 2))).gates
    ++ (joined true (n + 8) (bit + 1) before.sum (pair_at (n + 6))).gates

-- the number of the first gate of bit i + 1, and the sum and the carry behind bits 0 to i
abbrev pub bit_at : ℕ → ℕ → ℕ
bit_at n i = n + 9 + 17 * i

abbrev pub sums_at : ℕ → ℕ → Sums
sums_at n zero = first_sums n
sums_at n (suc i) = next_sums (bit_at n i)

-- bit i + 1, behind bits 0 to i
abbrev pub bit_behind : ℕ → Wire → Wire → ℕ → List Gate
bit_behind n a b i = next_bit (bit_at n i) (i + 1) a b (sums_at n i)

-- the gates of the adder of two wires of i + 2 bits, of which the first has the number n, and the wire of the sum
unfoldable pub adder : ℕ → ℕ → Wire → Wire → List Gate
adder n i a b =
    first_bit n a b ++ (in_row i (bit_behind n a b) ++ last_bit (bit_at n i) (i + 1) a b (sums_at n i))

abbrev pub adder_wire : ℕ → ℕ → Wire
adder_wire n i = pair_at (bit_at n i + 8)

-- ---- what it does

-- the adder of two wires of k bits, from 2 bits on, gives their sum modulo 2^k
abbrev pub AdderAdds : Type 0
AdderAdds =
    (plan : Gates) (outside : Outside) (n i x y : ℕ) (a b : Wire) → IsPlan plan →
    Stand plan.gates n (adder n i a b) →
    HasKeys plan.gates (plain_numbers plan outside) a (i + 2) x →
    HasKeys plan.gates (plain_numbers plan outside) b (i + 2) y →
    HasKeys plan.gates (plain_numbers plan outside) (adder_wire n i) (i + 2) ((x + y) % 2 ^ (i + 2))

-- whether a gate is the garbled table of an AND
abbrev pub makes_table : Kind → Bool
makes_table (Garble u v m) = true
makes_table _ = false

abbrev pub is_table : Gate → Bool
is_table gate = makes_table gate.kind

-- it has k - 1 ANDs, and 17 gates for each bit in between, 9 for the first and 10 for the last
abbrev pub AdderCounts : Type 0
AdderCounts =
    (n i : ℕ) (a b : Wire) →
    (length (filter is_table (adder n i a b)) ≡ i + 1) × (length (adder n i a b) ≡ 17 * i + 19)

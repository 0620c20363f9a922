-- What the code that makes the gates of an adder does, bit by bit.
use Rattle.std.proofs.Common.{ℕ, suc, ◌≡◌, ◌+◌, ◌*◌, List, ◌++◌, length, ◌∙◌, ap, ap₂, arith, append_assoc}
use Rattle.std.proofs.lemmas.List.{length-append}
use Rattle.plan_gates.specs.Gate.{Gate}
use Rattle.plan_gates.specs.Plan.{Gates, with_gates}
use Rattle.gate_plan.specs.declared.wire.Wire.{Wire}
use Rattle.gate_plan.specs.declared.adder.Sums.{Sums}
use Rattle.gate_plan.specs.Blocks.{in_row}
use Rattle.gate_plan.specs.Adder.{pair_at, first_bit, next_bit, next_sums, last_bit, bit_at, sums_at, bit_behind, adder, adder_wire}
use Rattle.gate_plan.proofs.StandLemmas.{length_row}
use Rattle.gate_plan.proofs.ChainLemmas.{Adds, length_added, added_at}
use Rattle.gate_plan.proofs.AdderLemmas.{length_behind}

-- the gates of bits 0 to i
abbrev pub bits_to : ℕ → Wire → Wire → ℕ → List Gate
bits_to n a b i = first_bit n a b ++ in_row i (bit_behind n a b)

length_bits : (n : ℕ) (a b : Wire) (i : ℕ) → length (bits_to n a b i) ≡ 9 + 17 * i
length_bits n a b i =
    length-append (first_bit n a b) (in_row i (bit_behind n a b))
    ∙ ap (λ k. 9 + k) (length_row 17 i (bit_behind n a b) (length_behind n a b))

module _ (old now : Gates) (a b : Wire) (done : ℕ) (sums : Sums)
    (before : now ≡ with_gates old (bits_to (length old.gates) a b done))
    (behind : sums ≡ sums_at (length old.gates) done) where
  abbrev n : ℕ
  n = length old.gates

  added : Adds old now (bits_to n a b done)
  added = record { is = before }

  pub bits_start : length now.gates ≡ bit_at n done
  bits_start =
      let all = length_added added in
      let size = length_bits n a b done in
      omega (arith, all, size)

  place : bit_at n done ≡ n + length (bits_to n a b done)
  place = let size = length_bits n a b done in omega (arith, size)

  pub bits_next : (after : Gates) → after ≡ with_gates now (next_bit (length now.gates) (done + 1) a b sums) →
      after ≡ with_gates old (bits_to n a b (done + 1))
  bits_next after is =
      let later : suc done ≡ done + 1 = omega arith in
      let own = is ∙ ap (λ (t : Sums). with_gates now (next_bit (length now.gates) (done + 1) a b t)) behind in
      let whole = added_at (λ k. next_bit k (done + 1) a b (sums_at n done)) (bit_at n done) added place own in
      whole.is
      ∙ (ap (λ gates. with_gates old gates) (append_assoc (first_bit n a b) (in_row done (bit_behind n a b)) (bit_behind n a b done))
      ∙ ap (λ k. with_gates old (bits_to n a b k)) later)

  pub sums_next : (made : Sums) → made ≡ next_sums (length now.gates) → made ≡ sums_at n (done + 1)
  sums_next made is =
      let later : suc done ≡ done + 1 = omega arith in
      is ∙ (ap next_sums bits_start ∙ ap (sums_at n) later)

  pub bits_end : (after : Gates) (bit : ℕ) → bit ≡ done + 1 → after ≡ with_gates now (last_bit (length now.gates) bit a b sums) →
      after ≡ with_gates old (adder n done a b)
  unfolding adder
  bits_end after bit here is =
      let own = is ∙ ap₂ (λ (t : Sums) (k : ℕ). with_gates now (last_bit (length now.gates) k a b t)) behind here in
      let last = last_bit (bit_at n done) (done + 1) a b (sums_at n done) in
      let whole = added_at (λ k. last_bit k (done + 1) a b (sums_at n done)) (bit_at n done) added place own in
      whole.is
      ∙ ap (λ gates. with_gates old gates) (append_assoc (first_bit n a b) (in_row done (bit_behind n a b)) last)

  pub sum_end : (made : Wire) → made ≡ pair_at (length now.gates + 8) → made ≡ adder_wire n done
  sum_end made is = is ∙ ap (λ k. pair_at (k + 8)) bits_start

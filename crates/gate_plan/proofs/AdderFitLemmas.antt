-- The gates of the adder: how many they are, that they tell nothing, and that they may stand.
use Rattle.std.proofs.Common.{ℕ, zero, suc, ◌≡◌, ◌<◌, ◌≤◌, ◌+◌, ◌*◌, true, List, ◌++◌, length, filter, refl, ◌∙◌, ap, subst, arith}
use Rattle.std.specs.List.{AllByRecursion}
use Rattle.std.proofs.lemmas.List.{length-append}
use Rattle.std.proofs.lemmas.List.Elements.{filter-append}
use Rattle.mot_base.specs.Limits.{most_width}
use Rattle.mot_base.proofs.Lists.{all_append}
use Rattle.plan_gates.specs.Gate.{Gate}
use Rattle.plan_gates.specs.Plan.{Gates}
use Rattle.gate_plan.specs.declared.wire.Wire.{Wire}
use Rattle.gate_plan.specs.declared.adder.Sums.{Sums}
use Rattle.gate_plan.specs.Blocks.{in_row, Stand}
use Rattle.gate_plan.specs.Adder.{pair_at, result_at, first_bit, first_sums, next_bit, next_sums, last_bit, bit_at, sums_at, bit_behind, adder, adder_wire, is_table, AdderCounts}
use Rattle.gate_plan.proofs.StandLemmas.{piece, length_row, AreBits, later_bits, AllGates, all_both, all_row}
use Rattle.gate_plan.proofs.NumberLemmas.{IsSilent}
use Rattle.gate_plan.proofs.BlockLemmas.{sliced_fits, xored_fits, anded_fits, joined_fits}
use Rattle.gate_plan.proofs.AdderLemmas.{length_behind, stand_bits}

-- ---- how many they are

pub length_adder : (n i : ℕ) (a b : Wire) → length (adder n i a b) ≡ 17 * i + 19
unfolding adder
length_adder n i a b =
    let rest = in_row i (bit_behind n a b) in
    let last = last_bit (bit_at n i) (i + 1) a b (sums_at n i) in
    let rows = length_row 17 i (bit_behind n a b) (length_behind n a b) in
    let tail : length (rest ++ last) ≡ length rest + 10 = length-append rest last in
    let all : length (first_bit n a b ++ (rest ++ last)) ≡ 9 + length (rest ++ last) = length-append (first_bit n a b) (rest ++ last) in
    all ∙ omega (arith, rows, tail)

abbrev tables_in : List Gate → ℕ
tables_in gates = length (filter is_table gates)

tables_append : (xs ys : List Gate) → tables_in (xs ++ ys) ≡ tables_in xs + tables_in ys
tables_append xs ys = ap (λ (gs : List Gate). length gs) (filter-append is_table xs ys) ∙ length-append (filter is_table xs) (filter is_table ys)

tables_row : (n : ℕ) (a b : Wire) (i : ℕ) → tables_in (in_row i (bit_behind n a b)) ≡ i
tables_row n a b zero = refl
tables_row n a b (suc i) =
    let before = tables_row n a b i in
    let one : tables_in (bit_behind n a b i) ≡ 1 = refl in
    tables_append (in_row i (bit_behind n a b)) (bit_behind n a b i) ∙ omega (arith, before, one)

tables_adder : (n i : ℕ) (a b : Wire) → tables_in (adder n i a b) ≡ i + 1
unfolding adder
tables_adder n i a b =
    let rest = in_row i (bit_behind n a b) in
    let last = last_bit (bit_at n i) (i + 1) a b (sums_at n i) in
    let rows = tables_row n a b i in
    let none : tables_in last ≡ 0 = refl in
    let one : tables_in (first_bit n a b) ≡ 1 = refl in
    let tail = tables_append rest last in
    tables_append (first_bit n a b) (rest ++ last) ∙ omega (arith, rows, none, one, tail)

pub adder_counts : AdderCounts
adder_counts n i a b = (tables_adder n i a b, length_adder n i a b)

-- ---- they tell nothing

-- gates in a row tell nothing where each do not
pub row_silent : (count : ℕ) (f : ℕ → List Gate) → ((i : ℕ) → AllByRecursion IsSilent (f i)) →
    AllByRecursion IsSilent (in_row count f)
row_silent zero f each = tt
row_silent (suc i) f each = all_append IsSilent (in_row i f) (f i) (row_silent i f each) (each i)

next_silent : (n k : ℕ) (a b : Wire) (t : Sums) → AllByRecursion IsSilent (next_bit n k a b t)
next_silent n k a b t =
    (refl, (refl, (refl, (refl, (refl, (refl, (refl, (refl, (refl, (refl, (refl, (refl, (refl, (refl, (refl, (refl, (refl, tt)))))))))))))))))

pub adder_silent : (n i : ℕ) (a b : Wire) → AllByRecursion IsSilent (adder n i a b)
unfolding adder
adder_silent n i a b =
    let rest = in_row i (bit_behind n a b) in
    let last = last_bit (bit_at n i) (i + 1) a b (sums_at n i) in
    all_append IsSilent (first_bit n a b) (rest ++ last) (refl, (refl, (refl, (refl, (refl, (refl, (refl, (refl, (refl, tt)))))))))
    (all_append IsSilent rest last
    (row_silent i (bit_behind n a b) (λ j. next_silent (bit_at n j) (j + 1) a b (sums_at n j)))
    (refl, (refl, (refl, (refl, (refl, (refl, (refl, (refl, (refl, (refl, tt)))))))))))

-- ---- they may stand

module _ (plan : Gates) where
  abbrev Bits : ℕ → Wire → ℕ → Type 0
  Bits bound a w = AreBits true plan.gates bound a w

  up : {a : Wire} {w : ℕ} (bound more : ℕ) → bound ≤ more → Bits bound a w → Bits more a w
  up {a} {w} bound more h is = later_bits true plan.gates bound more a w h is

  both : {n : ℕ} {xs ys : List Gate} (m : ℕ) → m ≡ n + length xs → AllGates plan n xs → AllGates plan m ys →
      AllGates plan n (xs ++ ys)
  both {n} {xs} {ys} m place first second = all_both plan n xs m ys place first second

  -- the sum and the carry so far are wires
  record AreSums (bound k : ℕ) (t : Sums) : Type 0 where
    sum : Bits bound t.sum k
    carry : Bits bound t.carry 1

  sums_up : (bound more k : ℕ) (t : Sums) → bound ≤ more → AreSums bound k t → AreSums more k t
  sums_up bound more k t h is = record { sum = up bound more h is.sum; carry = up bound more h is.carry }

  module _ (a b : Wire) (w : ℕ) (narrow : w ≤ most_width) where
    record BitFits (n size k : ℕ) (gates : List Gate) (t : Sums) : Type 0 where
      gates_fit : AllGates plan n gates
      sums : AreSums (n + size) k t

    first_fits : (n : ℕ) → 1 ≤ w → Bits n a w → Bits n b w → Stand plan.gates n (first_bit n a b) →
        BitFits n 9 1 (first_bit n a b) (first_sums n)
    first_fits n some left right stand =
        let all = first_bit n a b in
        let x = sliced_fits plan n 1 (omega arith) (omega arith) true a 0 w left (omega (arith, some))
        (piece plan.gates all n 0 2 n (omega arith) stand) in
        let y = sliced_fits plan (n + 2) 1 (omega arith) (omega arith) true b 0 w (up n (n + 2) (omega arith) right) (omega (arith, some))
        (piece plan.gates all n 2 2 (n + 2) refl stand) in
        let sum = xored_fits plan (n + 4) 1 (omega arith) (omega arith) true (pair_at n) (pair_at (n + 2))
        (up (n + 2) (n + 4) (omega arith) x.value) (up (n + 2 + 2) (n + 4) (omega arith) y.value)
        (piece plan.gates all n 4 2 (n + 4) refl stand) in
        let carry = anded_fits plan (n + 6) 1 (omega arith) (omega arith) true (pair_at n) (pair_at (n + 2))
        (up (n + 2) (n + 6) (omega arith) x.value) (up (n + 2 + 2) (n + 6) (omega arith) y.value)
        (piece plan.gates all n 6 3 (n + 6) refl stand) in
        record {
          gates_fit = both (n + 6) refl (both (n + 4) refl (both (n + 2) refl x.gates y.gates) sum.gates) carry.gates;
          sums = record {
            sum = up (n + 4 + 2) (n + 9) (omega arith) sum.value;
            carry = up (n + 6 + 3) (n + 9) (omega arith) carry.value;
          };
        }

    next_fits : (n k : ℕ) (t : Sums) → k + 1 ≤ w → Bits n a w → Bits n b w → 1 ≤ k → AreSums n k t →
        Stand plan.gates n (next_bit n k a b t) → BitFits n 17 (k + 1) (next_bit n k a b t) (next_sums n)
    next_fits n k t inside left right some before stand =
        let all = next_bit n k a b t in
        let x = sliced_fits plan n 1 (omega arith) (omega arith) true a k w left inside
        (piece plan.gates all n 0 2 n (omega arith) stand) in
        let y = sliced_fits plan (n + 2) 1 (omega arith) (omega arith) true b k w (up n (n + 2) (omega arith) right) inside
        (piece plan.gates all n 2 2 (n + 2) refl stand) in
        let p = xored_fits plan (n + 4) 1 (omega arith) (omega arith) true (pair_at n) t.carry
        (up (n + 2) (n + 4) (omega arith) x.value) (up n (n + 4) (omega arith) before.carry)
        (piece plan.gates all n 4 2 (n + 4) refl stand) in
        let q = xored_fits plan (n + 6) 1 (omega arith) (omega arith) true (pair_at (n + 2)) t.carry
        (up (n + 2 + 2) (n + 6) (omega arith) y.value) (up n (n + 6) (omega arith) before.carry)
        (piece plan.gates all n 6 2 (n + 6) refl stand) in
        let own = xored_fits plan (n + 8) 1 (omega arith) (omega arith) true (pair_at (n + 4)) (pair_at (n + 2))
        (up (n + 4 + 2) (n + 8) (omega arith) p.value) (up (n + 2 + 2) (n + 8) (omega arith) y.value)
        (piece plan.gates all n 8 2 (n + 8) refl stand) in
        let and = anded_fits plan (n + 10) 1 (omega arith) (omega arith) true (pair_at (n + 4)) (pair_at (n + 6))
        (up (n + 4 + 2) (n + 10) (omega arith) p.value) (up (n + 6 + 2) (n + 10) (omega arith) q.value)
        (piece plan.gates all n 10 3 (n + 10) refl stand) in
        let carry = xored_fits plan (n + 13) 1 (omega arith) (omega arith) true t.carry (result_at (n + 10))
        (up n (n + 13) (omega arith) before.carry) (up (n + 10 + 3) (n + 13) (omega arith) and.value)
        (piece plan.gates all n 13 2 (n + 13) refl stand) in
        let sum = joined_fits plan (n + 15) (k + 1) (omega arith) (omega (arith, inside, narrow)) true t.sum (pair_at (n + 8)) k 1
        (up n (n + 15) (omega arith) before.sum) (up (n + 8 + 2) (n + 15) (omega arith) own.value) refl
        (piece plan.gates all n 15 2 (n + 15) refl stand) in
        record {
          gates_fit = both (n + 15) refl (both (n + 13) refl (both (n + 10) refl (both (n + 8) refl (both (n + 6) refl
              (both (n + 4) refl (both (n + 2) refl x.gates y.gates) p.gates) q.gates) own.gates) and.gates) carry.gates)
              sum.gates;
          sums = record {
            sum = up (n + 15 + 2) (n + 17) (omega arith) sum.value;
            carry = up (n + 13 + 2) (n + 17) (omega arith) carry.value;
          };
        }

    record LastFits (n k : ℕ) (t : Sums) : Type 0 where
      gates_fit : AllGates plan n (last_bit n k a b t)
      sum : Bits (n + 10) (pair_at (n + 8)) (k + 1)

    last_fits : (n k : ℕ) (t : Sums) → k + 1 ≤ w → Bits n a w → Bits n b w → 1 ≤ k → AreSums n k t →
        Stand plan.gates n (last_bit n k a b t) → LastFits n k t
    last_fits n k t inside left right some before stand =
        let all = last_bit n k a b t in
        let x = sliced_fits plan n 1 (omega arith) (omega arith) true a k w left inside
        (piece plan.gates all n 0 2 n (omega arith) stand) in
        let y = sliced_fits plan (n + 2) 1 (omega arith) (omega arith) true b k w (up n (n + 2) (omega arith) right) inside
        (piece plan.gates all n 2 2 (n + 2) refl stand) in
        let p = xored_fits plan (n + 4) 1 (omega arith) (omega arith) true (pair_at n) t.carry
        (up (n + 2) (n + 4) (omega arith) x.value) (up n (n + 4) (omega arith) before.carry)
        (piece plan.gates all n 4 2 (n + 4) refl stand) in
        let own = xored_fits plan (n + 6) 1 (omega arith) (omega arith) true (pair_at (n + 4)) (pair_at (n + 2))
        (up (n + 4 + 2) (n + 6) (omega arith) p.value) (up (n + 2 + 2) (n + 6) (omega arith) y.value)
        (piece plan.gates all n 6 2 (n + 6) refl stand) in
        let sum = joined_fits plan (n + 8) (k + 1) (omega arith) (omega (arith, inside, narrow)) true t.sum (pair_at (n + 6)) k 1
        (up n (n + 8) (omega arith) before.sum) (up (n + 6 + 2) (n + 8) (omega arith) own.value) refl
        (piece plan.gates all n 8 2 (n + 8) refl stand) in
        record {
          gates_fit = both (n + 8) refl (both (n + 6) refl (both (n + 4) refl (both (n + 2) refl x.gates y.gates) p.gates) own.gates)
              sum.gates;
          sum = up (n + 8 + 2) (n + 10) (omega arith) sum.value;
        }

    -- the sum and the carry behind bits 0 to i
    sums_fit : (n i : ℕ) → i + 1 ≤ w → Bits n a w → Bits n b w → Stand plan.gates n (first_bit n a b) →
        ((j : ℕ) → j < i → Stand plan.gates (bit_at n j) (bit_behind n a b j)) → AreSums (bit_at n i) (i + 1) (sums_at n i)
    sums_fit n zero inside left right first rows =
        sums_up (n + 9) (bit_at n 0) 1 (first_sums n) (omega arith) (first_fits n (omega (arith, inside)) left right first).sums
    sums_fit n (suc i) inside left right first rows =
        let before = sums_fit n i (omega (arith, inside)) left right first (λ j h. rows j (omega (arith, h))) in
        let later : i + 1 + 1 ≡ suc i + 1 = omega arith in
        let next = next_fits (bit_at n i) (i + 1) (sums_at n i) (omega (arith, inside))
        (up n (bit_at n i) (omega arith) left) (up n (bit_at n i) (omega arith) right) (omega arith) before (rows i (omega arith)) in
        subst (λ k. AreSums (bit_at n (suc i)) k (next_sums (bit_at n i))) later
        (sums_up (bit_at n i + 17) (bit_at n (suc i)) (i + 1 + 1) (next_sums (bit_at n i)) (omega arith) next.sums)

  pub record AdderFits (n i : ℕ) (a b : Wire) : Type 0 where
    pub gates : AllGates plan n (adder n i a b)
    pub value : AreBits true plan.gates (n + (17 * i + 19)) (adder_wire n i) (i + 2)

  pub adder_fits : (n i : ℕ) (a b : Wire) → i + 2 ≤ most_width → Bits n a (i + 2) → Bits n b (i + 2) →
      Stand plan.gates n (adder n i a b) → AdderFits n i a b
  unfolding adder
  adder_fits n i a b narrow left right stand =
      let bits = stand_bits plan.gates n i a b stand in
      let rest = in_row i (bit_behind n a b) in
      let row_of = λ (j : ℕ) (h : j < i).
      (next_fits a b (i + 2) narrow (bit_at n j) (j + 1) (sums_at n j) (omega (arith, h))
      (up n (bit_at n j) (omega arith) left) (up n (bit_at n j) (omega arith) right) (omega arith)
      (sums_fit a b (i + 2) narrow n j (omega (arith, h)) left right bits.first (λ k g. bits.rows k (omega (arith, g, h))))
      (bits.rows j h)).gates_fit in
      let last = last_fits a b (i + 2) narrow (bit_at n i) (i + 1) (sums_at n i) (omega arith)
      (up n (bit_at n i) (omega arith) left) (up n (bit_at n i) (omega arith) right) (omega arith)
      (sums_fit a b (i + 2) narrow n i (omega arith) left right bits.first bits.rows) bits.last in
      let size = length_row 17 i (bit_behind n a b) (length_behind n a b) in
      let wide : i + 1 + 1 ≡ i + 2 = omega arith in
      record {
        gates = both (n + 9) refl (first_fits a b (i + 2) narrow n (omega arith) left right bits.first).gates_fit
            (both {n = n + 9} {xs = rest} (bit_at n i) (omega (arith, size))
            (all_row plan (n + 9) 17 i (bit_behind n a b) (length_behind n a b) row_of) last.gates_fit);
        value = subst (λ k. Bits (n + (17 * i + 19)) (adder_wire n i) k) wide
            (up (bit_at n i + 10) (n + (17 * i + 19)) (omega arith) last.sum);
      }

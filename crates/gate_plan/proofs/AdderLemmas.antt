-- The adder gives the sum, bit by bit.
use Rattle.std.proofs.Common.{ℕ, zero, suc, ◌≡◌, ◌<◌, ◌+◌, ◌*◌, ◌/◌, ◌%◌, ◌^◌, List, ◌++◌, length, refl, sym, ◌∙◌, ap, ap₂, subst, arith}
use Rattle.std.specs.Prelude.{bit_and, bit_xor}
use Rattle.std.proofs.lemmas.Nat.{mod-pow-add, pow-add}
use Rattle.std.proofs.Math.Nat.{div-one, mod-eq_of_lt, add-mul-mod_self_left}
use Rattle.share_types.proofs.BitsLemmas.{joined-below}
use Rattle.plan_gates.specs.Gate.{Gate}
use Rattle.plan_gates.specs.Plan.{Gates, IsPlan}
use Rattle.plan_gates.specs.Plain.{Outside, plain_numbers}
use Rattle.gate_plan.specs.declared.wire.Wire.{Wire}
use Rattle.gate_plan.specs.declared.adder.Sums.{Sums}
use Rattle.gate_plan.specs.Blocks.{in_row, Stand, HasKeys}
use Rattle.gate_plan.specs.Adder.{pair_at, result_at, first_bit, first_sums, next_bit, next_sums, last_bit, bit_at, sums_at, bit_behind, adder, adder_wire, AdderAdds}
use Rattle.gate_plan.proofs.StandLemmas.{piece, stand_front, stand_back, stand_row, length_row}
use Rattle.gate_plan.proofs.ValueLemmas.{sliced_has, xored_has, joined_has, anded_has, has_small}

-- ---- one bit

-- two bits have this sum and this carry
half : (a b : ℕ) → a < 2 → b < 2 → bit_xor a b % 2 ^ 1 + 2 * (bit_and a b % 2 ^ 1) ≡ a + b
half zero zero f g = refl
half zero (suc zero) f g = refl
half (suc zero) zero f g = refl
half (suc zero) (suc zero) f g = refl
half (suc (suc a)) b f g = absurd (omega (arith, f))
half zero (suc (suc b)) f g = absurd (omega (arith, g))
half (suc zero) (suc (suc b)) f g = absurd (omega (arith, g))

-- and two bits and a carry
abbrev own_of : ℕ → ℕ → ℕ → ℕ
own_of a b c = bit_xor (bit_xor a c % 2 ^ 1) b % 2 ^ 1

abbrev carry_of : ℕ → ℕ → ℕ → ℕ
carry_of a b c = bit_xor c (bit_and (bit_xor a c % 2 ^ 1) (bit_xor b c % 2 ^ 1) % 2 ^ 1) % 2 ^ 1

full : (a b c : ℕ) → a < 2 → b < 2 → c < 2 → own_of a b c + 2 * carry_of a b c ≡ a + b + c
full zero zero zero f g h = refl
full zero zero (suc zero) f g h = refl
full zero (suc zero) zero f g h = refl
full zero (suc zero) (suc zero) f g h = refl
full (suc zero) zero zero f g h = refl
full (suc zero) zero (suc zero) f g h = refl
full (suc zero) (suc zero) zero f g h = refl
full (suc zero) (suc zero) (suc zero) f g h = refl
full (suc (suc a)) b c f g h = absurd (omega (arith, f))
full zero (suc (suc b)) c f g h = absurd (omega (arith, g))
full (suc zero) (suc (suc b)) c f g h = absurd (omega (arith, g))
full zero zero (suc (suc c)) f g h = absurd (omega (arith, h))
full zero (suc zero) (suc (suc c)) f g h = absurd (omega (arith, h))
full (suc zero) zero (suc (suc c)) f g h = absurd (omega (arith, h))
full (suc zero) (suc zero) (suc (suc c)) f g h = absurd (omega (arith, h))

-- a number is below two where it is cut to one bit
bit_small : (n : ℕ) → n % 2 ^ 1 < 2
bit_small n = omega arith

-- a number of one bit more
more_bits : (x k : ℕ) → x % 2 ^ (k + 1) ≡ x % 2 ^ k + 2 ^ k * (x / 2 ^ k % 2 ^ 1)
more_bits x k =
    let turned : 1 + k ≡ k + 1 = omega arith in
    sym (ap (λ w. x % 2 ^ w) turned) ∙ (mod-pow-add x 1 k ∙ omega arith)

-- behind one bit more
step : (k x y s c t d : ℕ) → s + 2 ^ k * c ≡ x % 2 ^ k + y % 2 ^ k →
    t + 2 * d ≡ x / 2 ^ k % 2 ^ 1 + y / 2 ^ k % 2 ^ 1 + c →
    s + 2 ^ k * t + 2 ^ (k + 1) * d ≡ x % 2 ^ (k + 1) + y % 2 ^ (k + 1)
step k x y s c t d before bit =
    by (2 ^ k) (2 ^ (k + 1)) (x % 2 ^ k) (y % 2 ^ k) (x / 2 ^ k % 2 ^ 1) (y / 2 ^ k % 2 ^ 1)
    (x % 2 ^ (k + 1)) (y % 2 ^ (k + 1)) (pow-add 2 k 1 ∙ omega arith) (more_bits x k) (more_bits y k) before bit
  where
    by : (p q xl yl xb yb xm ym : ℕ) → q ≡ p * 2 → xm ≡ xl + p * xb → ym ≡ yl + p * yb →
        s + p * c ≡ xl + yl → t + 2 * d ≡ xb + yb + c → s + p * t + q * d ≡ xm + ym
    by p q xl yl xb yb xm ym power first second before bit =
        let times : p * (t + 2 * d) ≡ p * (xb + yb + c) = ap (λ z. p * z) bit in
        let carried : q * d ≡ p * 2 * d = ap (λ z. z * d) power in
        omega arith

module _ (plan : Gates) (valid : IsPlan plan) (outside : Outside) where
  abbrev Has : Wire → ℕ → ℕ → Type 0
  Has a w x = HasKeys plan.gates (plain_numbers plan outside) a w x

  module _ (a b : Wire) (w x y : ℕ) (left : Has a w x) (right : Has b w y) where
    -- the sum and the carry so far, behind bits below k
    record Added (k : ℕ) (sums : Sums) : Type 0 where
      s : ℕ
      c : ℕ
      sum : Has sums.sum k s
      carry : Has sums.carry 1 c
      is : s + 2 ^ k * c ≡ x % 2 ^ k + y % 2 ^ k

    first_has : (n : ℕ) → Stand plan.gates n (first_bit n a b) → Added 1 (first_sums n)
    first_has n stand =
        let x0 : ℕ = x / 2 ^ 0 % 2 ^ 1 in
        let y0 : ℕ = y / 2 ^ 0 % 2 ^ 1 in
        let all = first_bit n a b in
        let xs = sliced_has plan valid outside n 1 a 0 w x (piece plan.gates all n 0 2 n (omega arith) stand) left in
        let ys = sliced_has plan valid outside (n + 2) 1 b 0 w y (piece plan.gates all n 2 2 (n + 2) refl stand) right in
        let x_is : x0 ≡ x % 2 ^ 1 = ap (λ z. z % 2 ^ 1) (div-one x) in
        let y_is : y0 ≡ y % 2 ^ 1 = ap (λ z. z % 2 ^ 1) (div-one y) in
        let sum_is = half x0 y0 (bit_small (x / 2 ^ 0)) (bit_small (y / 2 ^ 0)) in
        record {
          s = bit_xor x0 y0 % 2 ^ 1;
          c = bit_and x0 y0 % 2 ^ 1;
          sum = xored_has plan valid outside (n + 4) 1 (pair_at n) (pair_at (n + 2)) 1 1 x0 y0
              (piece plan.gates all n 4 2 (n + 4) refl stand) xs ys;
          carry = anded_has plan valid outside (n + 6) 1 (pair_at n) (pair_at (n + 2)) 1 1 x0 y0
              (piece plan.gates all n 6 3 (n + 6) refl stand) xs ys;
          is = sum_is ∙ ap₂ (λ p q. p + q) x_is y_is;
        }

    next_has : (n k : ℕ) (t : Sums) → Stand plan.gates n (next_bit n k a b t) → Added k t → Added (k + 1) (next_sums n)
    next_has n k t stand before =
        let xk : ℕ = x / 2 ^ k % 2 ^ 1 in
        let yk : ℕ = y / 2 ^ k % 2 ^ 1 in
        let c : ℕ = before.c in
        let s : ℕ = before.s in
        let all = next_bit n k a b t in
        let carry_small = has_small plan valid outside t.carry 1 c before.carry in
        let xs = sliced_has plan valid outside n 1 a k w x (piece plan.gates all n 0 2 n (omega arith) stand) left in
        let ys = sliced_has plan valid outside (n + 2) 1 b k w y (piece plan.gates all n 2 2 (n + 2) refl stand) right in
        let p = xored_has plan valid outside (n + 4) 1 (pair_at n) t.carry 1 1 xk c
        (piece plan.gates all n 4 2 (n + 4) refl stand) xs before.carry in
        let q = xored_has plan valid outside (n + 6) 1 (pair_at (n + 2)) t.carry 1 1 yk c
        (piece plan.gates all n 6 2 (n + 6) refl stand) ys before.carry in
        let own = xored_has plan valid outside (n + 8) 1 (pair_at (n + 4)) (pair_at (n + 2)) 1 1 (bit_xor xk c % 2 ^ 1) yk
        (piece plan.gates all n 8 2 (n + 8) refl stand) p ys in
        let both = anded_has plan valid outside (n + 10) 1 (pair_at (n + 4)) (pair_at (n + 6)) 1 1
        (bit_xor xk c % 2 ^ 1) (bit_xor yk c % 2 ^ 1)
        (piece plan.gates all n 10 3 (n + 10) refl stand) p q in
        let whole = joined_has plan valid outside (n + 15) (k + 1) t.sum (pair_at (n + 8)) k 1 s (own_of xk yk c)
        (piece plan.gates all n 15 2 (n + 15) refl stand) before.sum own in
        let fits = joined-below k 1 s (own_of xk yk c) (has_small plan valid outside t.sum k s before.sum)
        (bit_small (bit_xor (bit_xor xk c % 2 ^ 1) yk)) in
        record {
          s = s + 2 ^ k * own_of xk yk c;
          c = carry_of xk yk c;
          sum = subst (λ z. Has (pair_at (n + 15)) (k + 1) z) (mod-eq_of_lt fits) whole;
          carry = xored_has plan valid outside (n + 13) 1 t.carry (result_at (n + 10)) 1 1 c
              (bit_and (bit_xor xk c % 2 ^ 1) (bit_xor yk c % 2 ^ 1) % 2 ^ 1)
              (piece plan.gates all n 13 2 (n + 13) refl stand) before.carry both;
          is = step k x y s c (own_of xk yk c) (carry_of xk yk c) before.is
              (full xk yk c (bit_small (x / 2 ^ k)) (bit_small (y / 2 ^ k)) carry_small);
        }

    last_has : (n k : ℕ) (t : Sums) → w ≡ k + 1 → Stand plan.gates n (last_bit n k a b t) → Added k t →
        Has (pair_at (n + 8)) (k + 1) ((x + y) % 2 ^ (k + 1))
    last_has n k t wide stand before =
        let xk : ℕ = x / 2 ^ k % 2 ^ 1 in
        let yk : ℕ = y / 2 ^ k % 2 ^ 1 in
        let c : ℕ = before.c in
        let s : ℕ = before.s in
        let all = last_bit n k a b t in
        let carry_small = has_small plan valid outside t.carry 1 c before.carry in
        let xs = sliced_has plan valid outside n 1 a k w x (piece plan.gates all n 0 2 n (omega arith) stand) left in
        let ys = sliced_has plan valid outside (n + 2) 1 b k w y (piece plan.gates all n 2 2 (n + 2) refl stand) right in
        let p = xored_has plan valid outside (n + 4) 1 (pair_at n) t.carry 1 1 xk c
        (piece plan.gates all n 4 2 (n + 4) refl stand) xs before.carry in
        let own = xored_has plan valid outside (n + 6) 1 (pair_at (n + 4)) (pair_at (n + 2)) 1 1 (bit_xor xk c % 2 ^ 1) yk
        (piece plan.gates all n 6 2 (n + 6) refl stand) p ys in
        let whole = joined_has plan valid outside (n + 8) (k + 1) t.sum (pair_at (n + 6)) k 1 s (own_of xk yk c)
        (piece plan.gates all n 8 2 (n + 8) refl stand) before.sum own in
        let is = step k x y s c (own_of xk yk c) (carry_of xk yk c) before.is
        (full xk yk c (bit_small (x / 2 ^ k)) (bit_small (y / 2 ^ k)) carry_small) in
        let low = has_small plan valid outside a w x left in
        let high = has_small plan valid outside b w y right in
        let P : ℕ → ℕ → Type 0 = λ v z. z < 2 ^ v in
        let x_whole : x % 2 ^ (k + 1) ≡ x = mod-eq_of_lt (subst (λ v. P v x) wide low) in
        let y_whole : y % 2 ^ (k + 1) ≡ y = mod-eq_of_lt (subst (λ v. P v y) wide high) in
        let sum : x + y ≡ s + 2 ^ k * own_of xk yk c + 2 ^ (k + 1) * carry_of xk yk c =
        sym (is ∙ ap₂ (λ p q. p + q) x_whole y_whole) in
        subst (λ z. Has (pair_at (n + 8)) (k + 1) z)
        (sym (ap (λ z. z % 2 ^ (k + 1)) sum
        ∙ add-mul-mod_self_left (s + 2 ^ k * own_of xk yk c) (2 ^ (k + 1)) (carry_of xk yk c))) whole

    -- behind bits 0 to i
    added_to : (n i : ℕ) → Stand plan.gates n (first_bit n a b) →
        ((j : ℕ) → j < i → Stand plan.gates (bit_at n j) (bit_behind n a b j)) → Added (i + 1) (sums_at n i)
    added_to n zero first rows = first_has n first
    added_to n (suc i) first rows =
        let later : i + 1 + 1 ≡ suc i + 1 = omega arith in
        subst (λ k. Added k (next_sums (bit_at n i))) later
        (next_has (bit_at n i) (i + 1) (sums_at n i) (rows i (omega arith))
        (added_to n i first (λ j h. rows j (omega (arith, h)))))

-- ---- the whole adder

pub length_behind : (n : ℕ) (a b : Wire) (i : ℕ) → length (bit_behind n a b i) ≡ 17
length_behind n a b i = refl

pub record StandBits (gates : List Gate) (n i : ℕ) (a b : Wire) : Type 0 where
  pub first : Stand gates n (first_bit n a b)
  pub rows : (j : ℕ) → j < i → Stand gates (bit_at n j) (bit_behind n a b j)
  pub last : Stand gates (bit_at n i) (last_bit (bit_at n i) (i + 1) a b (sums_at n i))

-- its bits stand where it does
pub stand_bits : (gates : List Gate) (n i : ℕ) (a b : Wire) → Stand gates n (adder n i a b) → StandBits gates n i a b
unfolding adder
stand_bits gates n i a b stand =
    let rest = in_row i (bit_behind n a b) in
    let last = last_bit (bit_at n i) (i + 1) a b (sums_at n i) in
    let first = first_bit n a b in
    let behind : Stand gates (n + 9) (rest ++ last) = stand_back gates first (rest ++ last) n (n + 9) refl stand in
    record {
      first = stand_front gates first (rest ++ last) n stand;
      rows = λ j h. stand_row gates (n + 9) 17 i (bit_behind n a b) (length_behind n a b)
          (stand_front gates rest last (n + 9) behind) j h;
      last = stand_back gates rest last (n + 9) (bit_at n i)
          (let size = length_row 17 i (bit_behind n a b) (length_behind n a b) in omega (arith, size)) behind;
    }

pub adder_adds : AdderAdds
adder_adds plan outside n i x y a b valid stand left right =
    let bits = stand_bits plan.gates n i a b stand in
    let wide : i + 1 + 1 ≡ i + 2 = omega arith in
    let own : i + 2 ≡ i + 1 + 1 = omega arith in
    let Q : ℕ → Type 0 = λ k. HasKeys plan.gates (plain_numbers plan outside) (adder_wire n i) k ((x + y) % 2 ^ k) in
    subst Q wide
    (last_has plan valid outside a b (i + 2) x y left right (bit_at n i) (i + 1) (sums_at n i) own bits.last
    (added_to plan valid outside a b (i + 2) x y left right n i bits.first bits.rows))

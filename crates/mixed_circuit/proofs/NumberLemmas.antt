-- Numbers below a power of 2.
use Rattle.std.proofs.Common.{ℕ, ◌≡◌, ◌<◌, ◌≤◌, ◌/◌, ◌^◌, sym, ◌∙◌, arith, inl, inr}
use Rattle.std.specs.Prelude.{nat_lt, nat_le, nat_eq}
use Rattle.std.proofs.lemmas.Bool.{cases_lt, lt-ltb, le-ltb, eq-eqb, ne_eqb, le-leb}
use Rattle.std.proofs.lemmas.Nat.{le-div, pow_pos}
use Rattle.std.proofs.Math.Nat.{div-eq_of_lt}
use Rattle.std.proofs.Math.Pow.{pow_mono}

pub below_high : (n exponent : ℕ) → n < 2 ^ 64 → 64 ≤ exponent → nat_le 64 exponent ≡ nat_lt n (2 ^ exponent)
below_high n exponent low wide = let power = pow_mono {i = 64} {j = exponent} wide in le-leb 64 exponent wide ∙ sym (lt-ltb n (2 ^ exponent) (omega arith))

pub below_shifted : (n exponent : ℕ) → nat_eq (n / 2 ^ exponent) 0 ≡ nat_lt n (2 ^ exponent)
below_shifted n exponent = elim (cases_lt n (2 ^ exponent)) [
  | inl low ↦ eq-eqb (n / 2 ^ exponent) 0 (div-eq_of_lt low) ∙ sym (lt-ltb n (2 ^ exponent) low)
  | inr high ↦ (let some = le-div 1 n (2 ^ exponent) (pow_pos exponent) (omega arith) in ne_eqb (n / 2 ^ exponent) 0 (λ e. absurd (omega arith)) ∙ sym (le-ltb n (2 ^ exponent) high))
]

-- Vectors of a payload.
use Rattle.std.proofs.Common.{◌≡◌, ℕ, suc, ◌+◌, ◌-◌, ◌*◌, ◌/◌, ◌^◌, ◌<◌, ◌≤◌, Bool, true, false, ◌||◌, List, take, drop, eqb, leb, refl, ap, ◌∙◌, arith}
use mathlib.Core.Bool.{not}
use Rattle.std.proofs.lemmas.Bool.Decides.{nat_tests}
use Rattle.std.proofs.Math.Nat.{div-eq_of_lt}
use Rattle.std.proofs.lemmas.Nat.{pow_pos}
use Rattle.std.specs.List.{list_any}
use Rattle.message_demux.specs.Slots.{vectors}

-- a number has a bit at or above a place exactly where what is left of it there is not 0
pub above : (n p : ℕ) → 0 < p → not (eqb (n / p) 0) ≡ leb p n
above n p some = grind (arith, nat_tests, div-eq_of_lt {n = n} {m = p})

pub power : (width : ℕ) → 0 < 2 ^ width
power width = pow_pos width

-- the vectors of bytes are the first and those behind it
step : (p : List ℕ → Bool) (n m size : ℕ) (bytes : List ℕ) → m < n → list_any p (vectors (n - m) size bytes) ≡ (p (take size bytes) || list_any p (vectors (n - (m + 1)) size (drop size bytes)))
step p n m size bytes h =
    let one : n - m ≡ suc (n - (m + 1)) = omega arith in
    rw one refl

pub first_passes : (p : List ℕ → Bool) (n m size : ℕ) (bytes vector : List ℕ) → m < n → vector ≡ take size bytes → p vector ≡ true → list_any p (vectors (n - m) size bytes) ≡ true
first_passes p n m size bytes vector h is passes = step p n m size bytes h ∙ rw (← is, passes) refl

pub first_fails : (p : List ℕ → Bool) (n m size : ℕ) (bytes vector behind : List ℕ) → m < n → vector ≡ take size bytes → behind ≡ drop size bytes → p vector ≡ false → list_any p (vectors (n - m) size bytes) ≡ list_any p (vectors (n - (m + 1)) size behind)
first_fails p n m size bytes vector behind h is rest fails = step p n m size bytes h ∙ rw (← is, ← rest, fails) refl

-- the lengths of what is left
pub left : (n m size rest : ℕ) → m < n → rest ≡ (n - m) * size → size ≤ rest
left n m size rest h is =
    let one : n - m ≡ suc (n - (m + 1)) = omega arith in
    let more : (n - m) * size ≡ suc (n - (m + 1)) * size = ap (λ k. k * size) one in
    omega (arith, is, more)

pub left_then : (n m size rest behind : ℕ) → m < n → rest ≡ (n - m) * size → behind + size ≡ rest → behind ≡ (n - (m + 1)) * size
left_then n m size rest behind h is cut =
    let one : n - m ≡ suc (n - (m + 1)) = omega arith in
    let more : (n - m) * size ≡ suc (n - (m + 1)) * size = ap (λ k. k * size) one in
    omega (arith, is, more)

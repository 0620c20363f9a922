-- Tests that all numbers of a row pass.
use Rattle.std.proofs.Common.{ℕ, ◌≡◌, ◌<◌, ◌≤◌, ◌+◌, Bool, true, false, nat_lt, List, length, get_or, zero, suc, refl, ◌∙◌, ap, arith, inl, inr}
use Rattle.std.specs.List.{list_all, range_with_len}
use Rattle.std.proofs.lemmas.Bool.{and_from, and_left, and_right, cases_eq, ltb-true}
use Rattle.std.proofs.lemmas.List.Sums.{AllPass-from_list_all}

pub all_in_row : (p : ℕ → Bool) (a n : ℕ) → ((w : ℕ) → a ≤ w → w < a + n → p w ≡ true) → list_all p (range_with_len a n) ≡ true
all_in_row p a zero h = refl
all_in_row p a (suc n) h = and_from (p a) _ (h a (omega arith) (omega arith)) (all_in_row p (a + 1) n (λ w low high. h w (omega arith) (omega arith)))

pub one_not_in_row : (p : ℕ → Bool) (a n w : ℕ) → a ≤ w → w < a + n → p w ≡ false → list_all p (range_with_len a n) ≡ false
one_not_in_row p a zero w low high e = absurd (omega arith)
one_not_in_row p a (suc n) w low high e = elim (cases_eq a w) [
  | inl same ↦ and_left (p a) _ (ap p same ∙ e)
  | inr other ↦ and_right (p a) _ (one_not_in_row p (a + 1) n w (omega (arith, other)) (omega arith) e)
]

-- each of some numbers that are below a bound
pub below_at : (bound : ℕ) (ws : List ℕ) (k : ℕ) → list_all (λ w. nat_lt w bound) ws ≡ true → k < length ws → get_or ws k 0 < bound
below_at bound ws k h within = ltb-true _ _ (AllPass-from_list_all (λ w. nat_lt w bound) ws h k 0 within)

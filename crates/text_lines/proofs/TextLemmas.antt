-- Tests of lists, and the first place that passes one.
use Rattle.std.proofs.Common.{ℕ, ◌≡◌, ◌≤◌, Bool, true, false, nat_lt, List, length, map, Some, None, refl, not, cond, arith}
use Rattle.std.specs.Prelude.{position, unwrap_or}
use Rattle.std.specs.List.{list_all, position_or_len}
use Rattle.std.proofs.lemmas.Bool.{ltb-false}
use Rattle.std.proofs.lemmas.List.Sums.{prefix_len-le-length}
use Rattle.std.proofs.lemmas.List.Folds.{list_all-map}

pub list_all_of_map : {X Y : Type 0} (test : Y → Bool) (f : X → Y) (xs : List X) → list_all test (map f xs) ≡ list_all (λ x. test (f x)) xs
list_all_of_map test f xs = list_all-map test f xs

place_step : (n m : ℕ) (b : Bool) → nat_lt n m ≡ b → n ≤ m → unwrap_or (cond b (Some n) None) m ≡ n
place_step n m true e le = refl
place_step n m false e le = let past = ltb-false n m e in omega arith

pub unwrap_or_position : {X : Type 0} (p : X → Bool) (xs : List X) → unwrap_or (position p xs) (length xs) ≡ position_or_len p xs
unwrap_or_position p xs = place_step (position_or_len p xs) (length xs) _ refl (prefix_len-le-length (λ x. not (p x)) xs)

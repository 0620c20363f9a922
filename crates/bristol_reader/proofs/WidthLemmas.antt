-- Widths of values.
use Rattle.std.proofs.Common.{ℕ, ◌≡◌, ◌≤◌, true, List, [], ◌∷◌, length, arith}
use Rattle.std.specs.Prelude.{nat_le, sum}
use Rattle.std.proofs.lemmas.Bool.{and_parts, leb-true}
use Rattle.std.proofs.lemmas.List.Sums.{sum_by-cons}
use Rattle.bristol_reader.specs.Built.{are_positive}

-- there are no more values than wires
pub few_values : (ws : List ℕ) → are_positive ws ≡ true → length ws ≤ sum ws
few_values [] h = omega arith
few_values (w ∷ ws) h =
    let tests = and_parts (nat_le 1 w) (are_positive ws) h in
    let one = leb-true 1 w tests.0 in
    let rest = few_values ws tests.1 in
    let whole = sum_by-cons (λ n. n) w ws in
    omega arith

-- What one ask more, or the asks of two seats together, count.
use Rattle.std.proofs.Common.{◌≡◌, ℕ, ◌+◌, ◌≤◌, Bool, true, false, cond, ◌&&◌, leb, ltb, List, [], ◌∷◌, ◌++◌, refl, arith}
use Rattle.std.proofs.lemmas.Bool.Decides.{nat_tests}
use Rattle.correlation_claims.specs.declared.asks.Ask.{Ask}
use Rattle.correlation_claims.specs.declared.asks.Range.{Range}
use Rattle.correlation_claims.specs.Asks.{range, once, is_granted, covers, count_all, count_refused, refusals_in, grants_in, last_from}

pub covers-append : (x : ℕ) (xs ys : List Ask) → covers x (xs ++ ys) ≡ covers x xs + covers x ys
covers-append x [] ys = omega arith
covers-append x (a ∷ xs) ys = let r = covers-append x xs ys in omega arith

pub count_all-append : (xs ys : List Ask) → count_all (xs ++ ys) ≡ count_all xs + count_all ys
count_all-append [] ys = omega arith
count_all-append (a ∷ xs) ys = let r = count_all-append xs ys in omega arith

pub count_refused-append : (stock : ℕ) (xs ys : List Ask) → count_refused stock (xs ++ ys) ≡ count_refused stock xs + count_refused stock ys
count_refused-append stock [] ys = omega arith
count_refused-append stock (a ∷ xs) ys = let r = count_refused-append stock xs ys in omega arith

pub refusals_in-append : (stock : ℕ) (xs ys : List Ask) → refusals_in stock (xs ++ ys) ≡ refusals_in stock xs + refusals_in stock ys
refusals_in-append stock [] ys = omega arith
refusals_in-append stock (a ∷ xs) ys = let r = refusals_in-append stock xs ys in omega arith

pub grants_in-append : (stock : ℕ) (xs ys : List Ask) → grants_in stock (xs ++ ys) ≡ grants_in stock xs + grants_in stock ys
grants_in-append stock [] ys = omega arith
grants_in-append stock (a ∷ xs) ys = let r = grants_in-append stock xs ys in omega arith

pub last_from-snoc : (stock : ℕ) (r : Range) (xs : List Ask) (a : Ask) → last_from stock r (xs ++ a ∷ []) ≡ cond (is_granted stock a) (range a.before a.count) (last_from stock r xs)
last_from-snoc stock r [] a = refl
last_from-snoc stock r (b ∷ xs) a = last_from-snoc stock (cond (is_granted stock b) (range b.before b.count) r) xs a

-- the places below n + k are those below n and those of an ask of k at n
pub once_more : (x n k : ℕ) → once (ltb x (n + k)) ≡ once (ltb x n) + once (leb n x && ltb x (n + k))
once_more x n k = grind (arith, nat_tests)

pub at_most_one : (b : Bool) → once b ≤ 1
at_most_one true = omega arith
at_most_one false = omega arith

-- Places of lists that are made one after another.
use Rattle.std.proofs.Common.{◌≡◌, ◌≢◌, ℕ, zero, suc, ◌+◌, ◌<◌, ◌≤◌, Bool, true, false, cond, List, [], ◌∷◌, ◌++◌, ◌-◌, length, take, drop, Some, refl, sym, ap, ◌∙◌, subst, arith, ⊎_elim}
use Rattle.std.specs.Prelude.{slice_get}
use Rattle.std.specs.List.{filter}
use Rattle.std.proofs.lemmas.Bool.{cases_eq}
use Rattle.std.proofs.lemmas.List.{append-nil, length-append, drop_at, take_all}
use Rattle.std.proofs.lemmas.List.Elements.{filter-append}
use Rattle.share_types.specs.Sums.{each}
use Rattle.share_types.proofs.Parties.{each_more}

pub at_left : {X : Type 0} (xs ys : List X) (k : ℕ) (x : X) → slice_get xs k ≡ Some x → slice_get (xs ++ ys) k ≡ Some x
at_left [] ys k x there = cc
at_left (y ∷ xs) ys zero x there = there
at_left (y ∷ xs) ys (suc k) x there = at_left xs ys k x there

pub at_right : {X : Type 0} (xs ys : List X) (k : ℕ) (y : X) → slice_get ys k ≡ Some y → slice_get (xs ++ ys) (length xs + k) ≡ Some y
at_right [] ys k y there = let same : 0 + k ≡ k = omega arith in rw same there
at_right (x ∷ xs) ys k y there = let same : suc (length xs) + k ≡ suc (length xs + k) = omega arith in rw same (at_right xs ys k y there)

-- which of the first numbers pass a test
abbrev pub passing : (ℕ → Bool) → ℕ → List ℕ
passing test n = filter test (each n (λ p. p))

pub passing_more : (test : ℕ → Bool) (n : ℕ) → passing test (n + 1) ≡ passing test n ++ cond (test n) (n ∷ []) []
passing_more test n =
    ap (filter test) (each_more n (λ (p : ℕ). p)) ∙ filter-append test (each n (λ p. p)) (n ∷ [])

pub passing_yes : (test : ℕ → Bool) (n : ℕ) → test n ≡ true → passing test (n + 1) ≡ passing test n ++ n ∷ []
passing_yes test n passes = passing_more test n ∙ ap (λ (b : Bool). passing test n ++ cond b (n ∷ []) []) passes

pub passing_no : (test : ℕ → Bool) (n : ℕ) → test n ≡ false → passing test (n + 1) ≡ passing test n
passing_no test n refused =
    passing_more test n ∙ ap (λ (b : Bool). passing test n ++ cond b (n ∷ []) []) refused ∙ append-nil (passing test n)

one_at_most : (b : Bool) (n : ℕ) → length (cond b (n ∷ []) []) ≤ 1
one_at_most true n = omega arith
one_at_most false n = omega arith

pub passing_few : (test : ℕ → Bool) (n : ℕ) → length (passing test n) ≤ n
passing_few test zero = omega arith
passing_few test (suc n) =
    let split = ap length (filter-append test (each n (λ p. p)) (n ∷ [])) ∙ length-append (passing test n) (cond (test n) (n ∷ []) []) in
    omega (arith, split, one_at_most (test n) n, passing_few test n)

-- a number that passes stands behind those below it that pass
pub passing_found : (test : ℕ → Bool) (n p : ℕ) → p < n → test p ≡ true → slice_get (passing test n) (length (passing test p)) ≡ Some p
passing_found test zero p less passes = absurd (omega arith)
passing_found test (suc n) p less passes =
    subst (λ (xs : List ℕ). slice_get xs (length (passing test p)) ≡ Some p) (sym (filter-append test (each n (λ q. q)) (n ∷ [])))
    (⊎_elim
    (λ (same : p ≡ n).
    let yes_n : test n ≡ true = subst (λ (q : ℕ). test q ≡ true) same passes in
    let here : slice_get (cond (test n) (n ∷ []) []) 0 ≡ Some n = rw yes_n refl in
    let found = at_right (passing test n) (cond (test n) (n ∷ []) []) 0 n here in
    let at : length (passing test n) + 0 ≡ length (passing test p) = omega (arith, ap (λ (q : ℕ). length (passing test q)) same) in
    subst (λ (k : ℕ). slice_get (passing test n ++ cond (test n) (n ∷ []) []) k ≡ Some p) at (found ∙ ap Some (sym same)))
    (λ (other : p ≢ n). at_left (passing test n) (cond (test n) (n ∷ []) []) _ p (passing_found test n p (omega (arith, less, other)) passes))
    (cases_eq p n))

-- what was added at the end of a list
pub added : {X : Type 0} (old more new : List X) (n : ℕ) → new ≡ old ++ more → n ≡ length old → take (length new - n) (drop n new) ≡ more
added {X = X} old more new n is long =
    let behind : drop n new ≡ more = ap (λ (xs : List X). drop n xs) is ∙ drop_at old more n (sym long) in
    let whole = ap length is ∙ length-append old more in
    let count : length more ≤ length new - n = omega (arith, whole, long) in
    ap (take (length new - n)) behind ∙ take_all (length new - n) more count

-- How many bytes the messages to a party have: of each gate and round there is at most one message to it.
use Rattle.std.proofs.Common.{◌≡◌, ◌≢◌, ℕ, zero, suc, ◌+◌, ◌*◌, ◌<◌, ◌≤◌, eqb, Bool, true, false, cond, List, [], ◌∷◌, ◌++◌, length, map, filter, refl, sym, ap, ap₂, ◌∙◌, inl, inr, arith}
use Rattle.std.specs.Prelude.{nat_lt}
use Rattle.std.specs.List.{AllByRecursion}
use Rattle.std.proofs.lemmas.Bool.{eqb-true, eqb-false, cases_lt}
use Rattle.std.proofs.lemmas.Bool.Decides.{nat_tests}
use Rattle.std.proofs.lemmas.List.Elements.{filter-append}
use Rattle.share_types.specs.Sums.{each}
use Rattle.gate_tasks.specs.declared.outgoing.Out.{Out}

module _ (weight : Out → ℕ) where
  abbrev pub total : List Out → ℕ
  total [] = 0
  total (x ∷ xs) = weight x + total xs

  -- ---- by a number of each message

  module _ (key : Out → ℕ) where
    abbrev of_key : ℕ → List Out → List Out
    of_key k outs = filter (λ out. eqb (key out) k) outs

    abbrev below_key : ℕ → List Out → List Out
    below_key n outs = filter (λ out. nat_lt (key out) n) outs

    one_key : (n k w a b c : ℕ) → c ≡ a + b → (l m e : Bool) → nat_lt k (suc n) ≡ l → nat_lt k n ≡ m → eqb k n ≡ e →
        cond l (w + c) c ≡ cond m (w + a) a + cond e (w + b) b
    one_key n k w a b c is true true true l m e = let same : k ≡ n = eqb-true k n e in let no : nat_lt k n ≡ false = grind (arith, nat_tests) in absurd (let clash : true ≡ false = sym m ∙ no in cc)
    one_key n k w a b c is true true false l m e = omega (arith, is)
    one_key n k w a b c is true false true l m e = omega (arith, is)
    one_key n k w a b c is true false false l m e = let other : k ≢ n = eqb-false k n e in absurd (let yes : nat_lt k n ≡ true = grind (arith, nat_tests) in let clash : false ≡ true = sym m ∙ yes in cc)
    one_key n k w a b c is false true e' l m e = absurd (let yes : nat_lt k (suc n) ≡ true = grind (arith, nat_tests) in let clash : false ≡ true = sym l ∙ yes in cc)
    one_key n k w a b c is false false true l m e = let same : k ≡ n = eqb-true k n e in absurd (let yes : nat_lt k (suc n) ≡ true = grind (arith, nat_tests) in let clash : false ≡ true = sym l ∙ yes in cc)
    one_key n k w a b c is false false false l m e = is

    pulled : (c : Bool) (x : Out) (xs : List Out) → total (cond c (x ∷ xs) xs) ≡ cond c (weight x + total xs) (total xs)
    pulled true x xs = refl
    pulled false x xs = refl

    next_key : (n : ℕ) (outs : List Out) → total (below_key (suc n) outs) ≡ total (below_key n outs) + total (of_key n outs)
    next_key n [] = refl
    next_key n (x ∷ xs) =
        pulled (nat_lt (key x) (suc n)) x (below_key (suc n) xs)
        ∙ one_key n (key x) (weight x) (total (below_key n xs)) (total (of_key n xs)) (total (below_key (suc n) xs)) (next_key n xs) (nat_lt (key x) (suc n)) (nat_lt (key x) n) (eqb (key x) n) refl refl refl
        ∙ ap₂ (λ a b. a + b) (sym (pulled (nat_lt (key x) n) x (below_key n xs))) (sym (pulled (eqb (key x) n) x (of_key n xs)))

    all_below : (n : ℕ) (outs : List Out) → AllByRecursion (λ out. key out < n) outs → below_key n outs ≡ outs
    all_below n [] all = refl
    all_below n (x ∷ xs) all = let less : key x < n = all.0 in let yes : nat_lt (key x) n ≡ true = grind (arith, nat_tests) in rw yes (ap (λ ys. x ∷ ys) (all_below n xs all.1))

    none_below : (outs : List Out) → below_key 0 outs ≡ []
    none_below [] = refl
    none_below (x ∷ xs) = let no : nat_lt (key x) 0 ≡ false = grind (arith, nat_tests) in rw no (none_below xs)

    few_below : (most n : ℕ) (outs : List Out) → ((k : ℕ) → total (of_key k outs) ≤ most) → total (below_key n outs) ≤ n * most
    few_below most zero outs each_few = let none = ap total (none_below outs) in omega (arith, none)
    few_below most (suc n) outs each_few =
        let rest = few_below most n outs each_few in
        let here = each_few n in
        let next = next_key n outs in
        let more : (suc n) * most ≡ n * most + most = omega arith in
        omega (arith, rest, here, next, more)

    -- where each number has few bytes, n numbers have n times as many
    pub few_of_all : (most n : ℕ) (outs : List Out) → AllByRecursion (λ out. key out < n) outs → ((k : ℕ) → total (of_key k outs) ≤ most) → total outs ≤ n * most
    few_of_all most n outs all each_few =
        let few = few_below most n outs each_few in
        let same = ap total (all_below n outs all) in
        omega (arith, few, same)

  -- ---- by receiver

  total_append : (xs ys : List Out) → total (xs ++ ys) ≡ total xs + total ys
  total_append [] ys = omega arith
  total_append (x ∷ xs) ys = let rest = total_append xs ys in omega (arith, rest)

  map_append : (f : ℕ → Out) (xs ys : List ℕ) → map f (xs ++ ys) ≡ map f xs ++ map f ys
  map_append f [] ys = refl
  map_append f (x ∷ xs) ys = ap (λ zs. f x ∷ zs) (map_append f xs ys)

  module _ (f : ℕ → Out) (test : ℕ → Bool) (q most : ℕ) (few : (k : ℕ) → test k ≡ true → weight (f k) ≤ cond (eqb k q) most 0) where
    last_one : (n : ℕ) (c : Bool) → test n ≡ c → total (map f (filter test (n ∷ []))) ≤ cond (eqb n q) most 0
    last_one n true is = let one = few n is in rw is (omega (arith, one))
    last_one n false is = rw is (omega arith)

    reach : ℕ → Bool
    reach n = nat_lt q n

    once : (n a b : ℕ) → a ≤ cond (nat_lt q n) most 0 → b ≤ cond (eqb n q) most 0 → a + b ≤ cond (nat_lt q (suc n)) most 0
    once n a b first last = by (nat_lt q n) refl (eqb n q) refl first last
      where
        by : (c : Bool) → nat_lt q n ≡ c → (d : Bool) → eqb n q ≡ d → a ≤ cond c most 0 → b ≤ cond d most 0 → a + b ≤ cond (nat_lt q (suc n)) most 0
        by true l true e first last = let same : n ≡ q = eqb-true n q e in let no : nat_lt q n ≡ false = grind (arith, nat_tests) in absurd (let clash : true ≡ false = sym l ∙ no in cc)
        by true l false e first last = let yes : nat_lt q (suc n) ≡ true = grind (arith, nat_tests) in rw yes (omega (arith, first, last))
        by false l true e first last = let same : n ≡ q = eqb-true n q e in let yes : nat_lt q (suc n) ≡ true = grind (arith, nat_tests) in rw yes (omega (arith, first, last))
        by false l false e first last = small (nat_lt q (suc n)) (omega (arith, first, last))
          where
            small : (c : Bool) → a + b ≤ 0 → a + b ≤ cond c most 0
            small true none = omega (arith, none)
            small false none = none

    sums : (n : ℕ) → total (map f (filter test (each n (λ k. k)))) ≤ cond (nat_lt q n) most 0
    sums zero = let no : nat_lt q zero ≡ false = grind (arith, nat_tests) in rw no (omega arith)
    sums (suc n) =
        let parts = ap (λ xs. total (map f xs)) (filter-append test (each n (λ k. k)) (n ∷ []))
        ∙ ap total (map_append f (filter test (each n (λ k. k))) (filter test (n ∷ [])))
        ∙ total_append (map f (filter test (each n (λ k. k)))) (map f (filter test (n ∷ []))) in
        let both = once n (total (map f (filter test (each n (λ k. k))))) (total (map f (filter test (n ∷ [])))) (sums n) (last_one n (test n) refl) in
        omega (arith, parts, both)

    -- of messages to different receivers, those to one
    pub few_to_one : (n : ℕ) → total (map f (filter test (each n (λ k. k)))) ≤ most
    few_to_one n = by (nat_lt q n) (sums n)
      where
        by : (c : Bool) → total (map f (filter test (each n (λ k. k)))) ≤ cond c most 0 → total (map f (filter test (each n (λ k. k)))) ≤ most
        by true h = h
        by false h = omega (arith, h)

-- Lemmas of booleans, options and lists that the crates share.
use Rattle.std.proofs.Common.{◌≡◌, ℕ, zero, suc, ◌+◌, ◌-◌, ◌<◌, ◌≤◌, ◌==◌, ◌&&◌, ◌||◌, Bool, true, false, not, cond, List, [], ◌∷◌, ◌++◌, length, take, drop, map, get_or, slice_get, slice_index, Option, Some, None, is_none, Result, Ok, Err, OnOk, ◌⊎◌, inl, inr, refl, sym, ap, subst, ◌∙◌, length-drop, arith}
use Rattle.std.specs.Prelude.{position}
use Rattle.std.specs.List.{AllByRecursion, list_all}
use Rattle.std.specs.Option.{option_map, option_or}
use Rattle.std.proofs.lemmas.Grind.{common_steps}
use Rattle.std.proofs.lemmas.List.{take_all}

-- ---- tests

-- both of two tests pass
pub both_true : (a b : Bool) → (a && b) ≡ true → (a ≡ true) × (b ≡ true)
both_true true b e = (refl, e)
both_true false b e = cc

pub true_both : (a b : Bool) → a ≡ true → b ≡ true → (a && b) ≡ true
true_both a b e f = ap (λ x. x && b) e ∙ f

-- one of two tests passes
pub either_true : (a b : Bool) → (a || b) ≡ true → (a ≡ true) ⊎ (b ≡ true)
either_true true b e = inl refl
either_true false b e = inr e

pub implied_true : (a b : Bool) → (not a || b) ≡ true → a ≡ true → b ≡ true
implied_true true b e f = e
implied_true false b e f = cc

pub not_true : (b : Bool) → not b ≡ true → b ≡ false
not_true true e = cc
not_true false e = refl

pub and_false : (b : Bool) → (b && false) ≡ false
and_false true = refl
and_false false = refl

pub or_false : (b : Bool) → (b || false) ≡ b
or_false true = refl
or_false false = refl

-- whether two numbers are equal is asked in either order
pub equal_turned : (x y : ℕ) → (x == y) ≡ (y == x)
equal_turned x y = grind (arith, common_steps)

-- ---- options

pub same_some : {X : Type 0} (x y : X) → Some x ≡ Some y → x ≡ y
same_some x y e = cc

pub none_is : {X : Type 0} (o : Option X) → is_none o ≡ true → o ≡ None
none_is None e = refl
none_is (Some x) e = cc

pub never_some : {X : Type 0} (o : Option X) → ((x : X) → o ≡ Some x → ⊥) → o ≡ None
never_some None never = refl
never_some (Some x) never = absurd (never x refl)

pub option_or_none : {X : Type 0} (o : Option X) → option_or o None ≡ o
option_or_none None = refl
option_or_none (Some x) = refl

pub neither_some : {X : Type 0} (a b : Option X) → option_or a b ≡ None → (a ≡ None) × (b ≡ None)
neither_some None b e = (refl, e)
neither_some (Some x) b e = absurd (cc)

pub mapped_some : {X Y : Type 0} (f : X → Y) (o : Option X) (y : Y) → option_map f o ≡ Some y → (x : X) × (o ≡ Some x) × (y ≡ f x)
mapped_some f None y e = cc
mapped_some f (Some x) y e = (x, refl, cc)

pub mapped_none : {X Y : Type 0} (f : X → Y) (o : Option X) → option_map f o ≡ None → o ≡ None
mapped_none f None e = refl
mapped_none f (Some x) e = cc

-- what follows from what an `Ok` says
pub on_ok : {T E : Type 0} {A B : Type 0} (r : Result T E) → (A → B) → OnOk r A → OnOk r B
on_ok (Ok x) f all = f all
on_ok (Err e) f all = tt

-- ---- what stands at a place of a list

-- a place at which something stands is inside
pub inside_of : {X : Type 0} (xs : List X) (i : ℕ) (x : X) → slice_get xs i ≡ Some x → i < length xs
inside_of [] i x e = cc
inside_of (y ∷ xs) zero x e = omega arith
inside_of (y ∷ xs) (suc i) x e = let less = inside_of xs i x e in omega arith

-- something stands at a place inside
pub some_at : {X : Type 0} (xs : List X) (i : ℕ) → i < length xs → (x : X) × (slice_get xs i ≡ Some x)
some_at [] i inside = absurd (omega arith)
some_at (x ∷ xs) zero inside = (x, refl)
some_at (x ∷ xs) (suc i) inside = some_at xs i (omega arith)

-- what was read at a place inside stands there
pub read_at : {X : Type 0} (xs : List X) (i : ℕ) (x : X) → i < length xs → x ≡ get_or xs i x → slice_get xs i ≡ Some x
read_at [] i x inside is = absurd (omega (arith, inside))
read_at {X} (y ∷ xs) zero x inside is = ap (λ (z : X). Some z) (sym is)
read_at (y ∷ xs) (suc i) x inside is = read_at xs i x (omega (arith, inside)) is

-- a number that stands at a place is what is read there
pub index_at : (xs : List ℕ) (i x : ℕ) → slice_get xs i ≡ Some x → slice_index xs i ≡ x
index_at [] i x e = cc
index_at (y ∷ xs) zero x e = same_some y x e
index_at (y ∷ xs) (suc i) x e = index_at xs i x e

-- what stands at a place of images
pub mapped_at : {X Y : Type 0} (f : X → Y) (xs : List X) (i : ℕ) (x : X) → slice_get xs i ≡ Some x → slice_get (map f xs) i ≡ Some (f x)
mapped_at f [] i x e = cc
mapped_at {X} {Y} f (y ∷ xs) zero x e = ap (λ (z : X). Some (f z)) (same_some y x e)
mapped_at f (y ∷ xs) (suc i) x e = mapped_at f xs i x e

-- two lists with an element in front
pub cons_same : {X : Type 0} (x y : X) (xs ys : List X) → x ∷ xs ≡ y ∷ ys → (x ≡ y) × (xs ≡ ys)
cons_same x y xs ys e = ((let first : x ≡ y = cc in first), (let rest : xs ≡ ys = cc in rest))

-- ---- one list behind another

pub nothing_behind : {X : Type 0} (xs : List X) → xs ++ [] ≡ xs
nothing_behind [] = refl
nothing_behind (x ∷ xs) = ap (λ ys. x ∷ ys) (nothing_behind xs)

-- a place of the first list
pub before_at : {X : Type 0} (xs ys : List X) (i : ℕ) → i < length xs → slice_get (xs ++ ys) i ≡ slice_get xs i
before_at [] ys i inside = absurd (omega arith)
before_at (x ∷ xs) ys zero inside = refl
before_at (x ∷ xs) ys (suc i) inside = before_at xs ys i (omega arith)

-- a place of the second list
pub behind_at : {X : Type 0} (xs ys : List X) (i : ℕ) → slice_get (xs ++ ys) (length xs + i) ≡ slice_get ys i
behind_at [] ys i = let e : 0 + i ≡ i = omega arith in ap (slice_get ys) e
behind_at (x ∷ xs) ys i =
    let e : suc (length xs) + i ≡ suc (length xs + i) = omega arith in
    ap (slice_get (x ∷ (xs ++ ys))) e ∙ behind_at xs ys i

-- the place of one more at the end
pub last_at : {X : Type 0} (xs : List X) (x : X) → slice_get (xs ++ x ∷ []) (length xs) ≡ Some x
last_at [] x = refl
last_at (y ∷ ys) x = last_at ys x

-- each place of a list with one more is one of the list, or its end
pub pushed_at : {X : Type 0} (xs : List X) (x y : X) (i : ℕ) → slice_get (xs ++ x ∷ []) i ≡ Some y → (slice_get xs i ≡ Some y) ⊎ ((i ≡ length xs) × (x ≡ y))
pushed_at [] x y zero e = inr (refl, cc)
pushed_at [] x y (suc i) e = cc
pushed_at (z ∷ xs) x y zero e = inl e
pushed_at (z ∷ xs) x y (suc i) e = elim (pushed_at xs x y i e) [ inl p ↦ inl p | inr p ↦ inr (ap suc p.0, p.1) ]

-- what holds at each place, and of one more at its own, holds at each place of both
pub each_pushed : {X : Type 0} (P : ℕ → X → Type 0) (xs : List X) (x : X) →
    ((i : ℕ) (y : X) → slice_get xs i ≡ Some y → P i y) → P (length xs) x →
    (i : ℕ) (y : X) → slice_get (xs ++ x ∷ []) i ≡ Some y → P i y
each_pushed P [] x all one zero y e = subst (P 0) (same_some x y e) one
each_pushed P [] x all one (suc i) y e = cc
each_pushed P (z ∷ xs) x all one zero y e = all 0 y e
each_pushed P (z ∷ xs) x all one (suc i) y e =
    each_pushed (λ n. P (suc n)) xs x (λ n w. all (suc n) w) one i y e

-- ---- the first elements of a list

-- a place of the first elements
pub taken_at : {X : Type 0} (xs : List X) (n i : ℕ) (x : X) → slice_get (take n xs) i ≡ Some x → (i < n) × (slice_get xs i ≡ Some x)
taken_at xs zero i x e = cc
taken_at [] (suc n) i x e = cc
taken_at (y ∷ xs) (suc n) zero x e = (omega arith, e)
taken_at (y ∷ xs) (suc n) (suc i) x e = let rest = taken_at xs n i x e in (let less : i < n = rest.0 in omega arith, rest.1)

take_suc : {X : Type 0} (xs : List X) (n : ℕ) (x : X) → slice_get xs n ≡ Some x → take (suc n) xs ≡ take n xs ++ x ∷ []
take_suc [] n x e = cc
take_suc (y ∷ xs) zero x e = let same : y ≡ x = cc in ap (λ z. z ∷ []) same
take_suc (y ∷ xs) (suc n) x e = ap (λ zs. y ∷ zs) (take_suc xs n x e)

-- one more of the first elements
pub take_next : {X : Type 0} (xs : List X) (n : ℕ) (x : X) → slice_get xs n ≡ Some x → take (n + 1) xs ≡ take n xs ++ x ∷ []
take_next xs n x e = let more : n + 1 ≡ suc n = omega arith in ap (λ k. take k xs) more ∙ take_suc xs n x e

-- all elements, and how many there are of the first ones
pub take_whole : {X : Type 0} (xs : List X) (n : ℕ) → length xs ≤ n → take n xs ≡ xs
take_whole xs n all = take_all n xs all

pub length_taken : {X : Type 0} (xs : List X) (n : ℕ) → n ≤ length xs → length (take n xs) ≡ n
length_taken xs zero inside = refl
length_taken [] (suc n) inside = absurd (omega (arith, inside))
length_taken (x ∷ xs) (suc n) inside = let rest = length_taken xs n (omega (arith, inside)) in omega arith

-- the elements from a place on, as a range up to the end
pub range_to_end : {X : Type 0} (n : ℕ) (xs : List X) → take (length xs - n) (drop n xs) ≡ drop n xs
range_to_end n xs = take_all (length xs - n) (drop n xs) (omega (arith, length-drop n xs))

-- ---- what holds of all elements

pub all_at : {X : Type 0} (P : X → Type 0) (xs : List X) (i : ℕ) (x : X) → AllByRecursion P xs → slice_get xs i ≡ Some x → P x
all_at P [] i x all e = cc
all_at P (y ∷ xs) zero x all e = subst P (same_some y x e) all.0
all_at P (y ∷ xs) (suc i) x all e = all_at P xs i x all.1 e

pub all_append : {X : Type 0} (P : X → Type 0) (xs ys : List X) → AllByRecursion P xs → AllByRecursion P ys → AllByRecursion P (xs ++ ys)
all_append P [] ys all more = more
all_append P (x ∷ xs) ys all more = (all.0, all_append P xs ys all.1 more)

pub all_implied : {X : Type 0} (P Q : X → Type 0) → ((x : X) → P x → Q x) → (xs : List X) → AllByRecursion P xs → AllByRecursion Q xs
all_implied P Q f [] all = tt
all_implied P Q f (x ∷ xs) all = (f x all.0, all_implied P Q f xs all.1)

-- elements that all pass a test pass one that it implies
pub all_pass : {X : Type 0} (p q : X → Bool) → ((x : X) → q x ≡ true → p x ≡ true) → (xs : List X) → list_all q xs ≡ true → list_all p xs ≡ true
all_pass p q f [] e = refl
all_pass p q f (x ∷ xs) e =
    let tests = both_true (q x) (list_all q xs) e in
    true_both _ _ (f x tests.0) (all_pass p q f xs tests.1)

-- ---- the first place at which a test passes

pub position_cons : {X : Type 0} (p : X → Bool) (x : X) (xs : List X) →
    position p (x ∷ xs) ≡ cond (p x) (Some 0) (option_map (λ i. suc i) (position p xs))
position_cons p x xs = grind (arith, common_steps)

none_of_both : (first : Bool) (rest : Option ℕ) → cond first (Some 0) (option_map (λ i. suc i) rest) ≡ None → (first ≡ false) × (rest ≡ None)
none_of_both true rest none = absurd (let wrong = none in cc)
none_of_both false None none = (refl, refl)
none_of_both false (Some i) none = absurd (let wrong = none in cc)

-- a test that passes nowhere passes neither at the first element nor behind it
pub nowhere_cons : {X : Type 0} (p : X → Bool) (x : X) (xs : List X) → position p (x ∷ xs) ≡ None → (p x ≡ false) × (position p xs ≡ None)
nowhere_cons p x xs none = none_of_both (p x) (position p xs) (rw (position_cons p x xs) at none)

-- and nowhere in the list
pub nowhere_at : {X : Type 0} (p : X → Bool) (xs : List X) (d : X) → position p xs ≡ None → (i : ℕ) → i < length xs → p (get_or xs i d) ≡ false
nowhere_at p [] d none i inside = absurd (omega arith)
nowhere_at p (x ∷ xs) d none zero inside = (nowhere_cons p x xs none).0
nowhere_at p (x ∷ xs) d none (suc i) inside = nowhere_at p xs d (nowhere_cons p x xs none).1 i (omega arith)

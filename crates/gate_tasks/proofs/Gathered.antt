-- What is found of the messages of a round, one sender after another.
use Rattle.std.proofs.Common.{ℕ, zero, suc, ◌≡◌, ◌<◌, ◌+◌, Bool, true, false, cond, List, [], ◌∷◌, ◌++◌, length, filter, Option, Some, None, inl, inr, refl, sym, ◌∙◌, ap, ap₂, subst, arith}
use Rattle.std.specs.Prelude.{option_map, is_none, is_some, slice_get}
use Rattle.std.specs.List.{find, flat_map}
use Rattle.std.specs.Option.{option_or, option_copied}
use Rattle.std.proofs.Common.{Bor, not}
use Rattle.std.proofs.lemmas.List.Folds.{find-append}
use Rattle.std.proofs.lemmas.Grind.{flat_map-append}
use Rattle.std.proofs.lemmas.Bool.{cases_lt}
use Rattle.share_types.specs.Sums.{each}
use Rattle.std.specs.FinMap as map
use Rattle.std.specs.Prelude.{IfSome}
use Rattle.message_demux.specs.Fit.{Fits}
use Rattle.message_demux.specs.Kept.{InboxContents}
use Rattle.plan_gates.specs.Plan.{Gates}
use Rattle.plan_gates.specs.Messages.{message}
use Rattle.gate_tasks.specs.Task.{option_list, KeptFit, slot_from}
use Rattle.gate_tasks.proofs.Hearing.{filter_next}
use Rattle.mot_base.proofs.Lists.{nothing_behind as nothing_more, same_some as some_is}

pub none_more : {X : Type 0} (o : Option X) → is_none o ≡ true → is_some o ≡ false
none_more None e = refl
none_more (Some x) e = cc

pub some_more : {X : Type 0} (o : Option X) → is_none o ≡ false → is_some o ≡ true
some_more None e = cc
some_more (Some x) e = refl

-- those of the first parties that pass a test, with one party more
pub one_not : (q : ℕ → Bool) (n : ℕ) → q n ≡ false → filter q (each (n + 1) (λ k. k)) ≡ filter q (each n (λ k. k))
one_not q n e =
    let next : n + 1 ≡ suc n = omega arith in
    ap (λ m. filter q (each m (λ k. k))) next
    ∙ (filter_next q n ∙ (ap (λ b. filter q (each n (λ k. k)) ++ cond b (n ∷ []) []) e ∙ nothing_more (filter q (each n (λ k. k)))))

pub one_more : (q : ℕ → Bool) (n : ℕ) → q n ≡ true → filter q (each (n + 1) (λ k. k)) ≡ filter q (each n (λ k. k)) ++ n ∷ []
one_more q n e =
    let next : n + 1 ≡ suc n = omega arith in
    ap (λ m. filter q (each m (λ k. k))) next
    ∙ (filter_next q n ∙ ap (λ b. filter q (each n (λ k. k)) ++ cond b (n ∷ []) []) e)

find_one : (p : ℕ → Bool) (n : ℕ) (b : Bool) → p n ≡ b → find p (n ∷ []) ≡ cond b (Some n) None
find_one p n true e = rw e refl
find_one p n false e = rw e refl

-- none is found so far
pub found_not : (p q : ℕ → Bool) (n : ℕ) → q n ≡ false → find p (filter q (each n (λ k. k))) ≡ None →
    find p (filter q (each (n + 1) (λ k. k))) ≡ None
found_not p q n e before = ap (find p) (one_not q n e) ∙ before

pub found_none : (p q : ℕ → Bool) (n : ℕ) → q n ≡ true → p n ≡ false → find p (filter q (each n (λ k. k))) ≡ None →
    find p (filter q (each (n + 1) (λ k. k))) ≡ None
found_none p q n e f before =
    ap (find p) (one_more q n e)
    ∙ (find-append p (filter q (each n (λ k. k))) (n ∷ []) ∙ ap₂ option_or before (find_one p n false f))

-- the first one is found
pub found_first : (p q : ℕ → Bool) (n at : ℕ) → at < n → q at ≡ true → p at ≡ true → find p (filter q (each at (λ k. k))) ≡ None →
    find p (filter q (each n (λ k. k))) ≡ Some at
found_first p q zero at h e f before = absurd (omega (arith, h))
found_first p q (suc n) at h e f before =
    ap (find p) (filter_next q n)
    ∙ (find-append p (filter q (each n (λ k. k))) (cond (q n) (n ∷ []) [])
    ∙ elim (cases_lt at n) as (λ _. option_or (find p (filter q (each n (λ k. k)))) (find p (cond (q n) (n ∷ []) [])) ≡ Some at) [
      | inl small ↦ ap (λ o. option_or o (find p (cond (q n) (n ∷ []) []))) (found_first p q n at small e f before)
      | inr large ↦
          (let here : n ≡ at = omega (arith, h, large) in
          ap₂ option_or (ap (λ m. find p (filter q (each m (λ k. k)))) here ∙ before)
          (ap (λ b. find p (cond b (n ∷ []) [])) (ap q here ∙ e) ∙ (find_one p n true (ap p here ∙ f) ∙ ap (λ m. Some m) here)))
    ])

pub gathered_more : {X : Type 0} (f : ℕ → List X) (q : ℕ → Bool) (n : ℕ) → q n ≡ true →
    flat_map f (filter q (each (n + 1) (λ k. k))) ≡ flat_map f (filter q (each n (λ k. k))) ++ f n
gathered_more f q n e =
    ap (flat_map f) (one_more q n e)
    ∙ (flat_map-append f (filter q (each n (λ k. k))) (n ∷ []) ∙ ap (λ xs. flat_map f (filter q (each n (λ k. k))) ++ xs) (nothing_more (f n)))

pub gathered_none : {X : Type 0} (f : ℕ → List X) (q : ℕ → Bool) (n : ℕ) → q n ≡ false →
    flat_map f (filter q (each (n + 1) (λ k. k))) ≡ flat_map f (filter q (each n (λ k. k)))
gathered_none f q n e = ap (flat_map f) (one_not q n e)

pub mapped_some : {X Y : Type 0} (f : X → Y) (o : Option X) → is_some (option_map f o) ≡ is_some o
mapped_some f None = refl
mapped_some f (Some x) = refl

pub copied_some : {X : Type 0} (o : Option (Bor X)) → is_some (option_copied o) ≡ is_some o
copied_some None = refl
copied_some (Some x) = refl

pub not_some : {X : Type 0} (o : Option X) (b : Bool) → is_some o ≡ b → is_none o ≡ not b
not_some None b e = ap not e
not_some (Some x) b e = ap not e

-- ---- what is found of all

-- none is lacking of some
pub record AllFound {X : Type 0} (f : ℕ → Option X) (xs : List ℕ) (found : List X) : Type 0 where
  pub count : length found ≡ length xs
  pub each_found : (i x : ℕ) (v : X) → slice_get xs i ≡ Some x → slice_get found i ≡ Some v → f x ≡ Some v

found_more : {X : Type 0} (f : ℕ → Option X) (x : ℕ) (v : X) (xs : List ℕ) (found : List X) → f x ≡ Some v → AllFound f xs found →
    AllFound f (x ∷ xs) (v ∷ found)
found_more f x v xs found here rest = record {
  count = let long = rest.count in omega (arith, long);
  each_found = at;
}
  where
    at : (i y : ℕ) (w : _) → slice_get (x ∷ xs) i ≡ Some y → slice_get (v ∷ found) i ≡ Some w → f y ≡ Some w
    at zero y w a b = ap f (some_is y x (sym a)) ∙ (here ∙ b)
    at (suc i) y w a b = rest.each_found i y w a b

pub all_found : {X : Type 0} (f : ℕ → Option X) (xs : List ℕ) → find (λ x. is_none (f x)) xs ≡ None →
    AllFound f xs (flat_map (λ x. option_list (f x)) xs)
all_found f [] e = record { count = refl; each_found = λ i x v a b. cc }
all_found {X = X} f (x ∷ xs) e = by (f x) refl (all_found f xs)
  where
    by : (o : Option X) → f x ≡ o → (find (λ y. is_none (f y)) xs ≡ None → AllFound f xs (flat_map (λ y. option_list (f y)) xs)) →
        AllFound f (x ∷ xs) (flat_map (λ y. option_list (f y)) (x ∷ xs))
    by None g rest = let found : find (λ y. is_none (f y)) (x ∷ xs) ≡ Some x = rw g refl in let contrary = sym found ∙ e in cc
    by (Some v) g rest =
        let later : find (λ y. is_none (f y)) xs ≡ find (λ y. is_none (f y)) (x ∷ xs) = rw g refl in
        let list : v ∷ flat_map (λ y. option_list (f y)) xs ≡ flat_map (λ y. option_list (f y)) (x ∷ xs) = rw g refl in
        subst (AllFound f (x ∷ xs)) list (found_more f x v xs (flat_map (λ y. option_list (f y)) xs) g (rest (later ∙ e)))

pub neither : {X Y Z : Type 0} (f : X → Z) (h : Y → Z) (a : Option X) (b : Option Y) → option_or (option_map f a) (option_map h b) ≡ None →
    (a ≡ None) × (b ≡ None)
neither f h None None e = (refl, refl)
neither f h None (Some y) e = cc
neither f h (Some x) b e = cc

pub fit_more : (plan : Gates) (me : ℕ) (inbox : InboxContents) (g round n : ℕ) → KeptFit plan me inbox g round n →
    IfSome (map.get inbox.kept (slot_from g round n)) (Fits inbox.slots (slot_from g round n)) → KeptFit plan me inbox g round (n + 1)
fit_more plan me inbox g round n before here from h sent = elim (cases_lt from n) as (λ _. IfSome (map.get inbox.kept (slot_from g round from)) (Fits inbox.slots (slot_from g round from))) [
  | inl small ↦ before from small sent
  | inr large ↦
      (let last : n ≡ from = omega (arith, h, large) in
      subst (λ k. IfSome (map.get inbox.kept (slot_from g round k)) (Fits inbox.slots (slot_from g round k))) last here)
]

pub fit_none : (plan : Gates) (me : ℕ) (inbox : InboxContents) (g round n : ℕ) → KeptFit plan me inbox g round n →
    is_some (message plan n me g round) ≡ false → KeptFit plan me inbox g round (n + 1)
fit_none plan me inbox g round n before none from h sent = elim (cases_lt from n) as (λ _. IfSome (map.get inbox.kept (slot_from g round from)) (Fits inbox.slots (slot_from g round from))) [
  | inl small ↦ before from small sent
  | inr large ↦
      (let last : n ≡ from = omega (arith, h, large) in
      absurd (never (is_some (message plan from me g round)) sent (ap (λ k. is_some (message plan k me g round)) (sym last) ∙ none)))
]
  where
    never : (b : Bool) → b ≡ true → b ≡ false → ⊥
    never true e f = cc
    never false e f = cc

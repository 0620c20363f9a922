-- A value is taken from under a number, or put there.
use Rattle.std.proofs.Common.{◌≡◌, ◌≢◌, ℕ, zero, suc, ◌<◌, ◌≤◌, List, [], ◌∷◌, length, get_or, set, map, replicate, Option, Some, None, refl, sym, ap, ap₂, ◌∙◌, subst, arith, ⊎_elim}
use Rattle.std.proofs.lemmas.Bool.{cases_eq, cases_lt}
use Rattle.std.proofs.lemmas.List.{length-map, length-set, get_or-set_same, get_or-set_other}
use Rattle.std.proofs.lemmas.Option.{none-some}
use Rattle.slab.specs.Slab.{Slab, Updates, get}
use Rattle.task_pool.specs.declared.shelf.TheConstants.{NOWHERE}
use Rattle.task_pool.specs.Shelves.{on_shelf, AreKeys}

-- ---- lists

map-same : {E : Type 0} (f g : ℕ → Option E) (ks : List ℕ) → ((j : ℕ) → j < length ks → g (get_or ks j 0) ≡ f (get_or ks j 0)) → map g ks ≡ map f ks
map-same f g [] same = refl
map-same f g (k ∷ ks) same =
    ap₂ (λ x xs. x ∷ xs) (same 0 (omega arith)) (map-same f g ks (λ j within. same (suc j) (omega arith)))

-- one key is another, and what the others lead to stays
map-set : {E : Type 0} (f g : ℕ → Option E) (ks : List ℕ) (i k : ℕ) (o : Option E) → g k ≡ o → ((j : ℕ) → j < length ks → j ≢ i → g (get_or ks j 0) ≡ f (get_or ks j 0)) → map g (set ks i k) ≡ set (map f ks) i o
map-set f g [] i k o here same = refl
map-set f g (l ∷ ks) zero k o here same =
    ap₂ (λ x xs. x ∷ xs) here (map-same f g ks (λ j within. same (suc j) (omega arith) (λ e. absurd (omega (arith, e)))))
map-set f g (l ∷ ks) (suc i) k o here same =
    ap₂ (λ x xs. x ∷ xs) (same 0 (omega arith) (λ e. absurd (omega (arith, e))))
    (map-set f g ks i k o here (λ j within other. same (suc j) (omega arith) (λ e. other (omega (arith, e)))))

pub set-set : {X : Type 0} (xs : List X) (i : ℕ) (x y : X) → set (set xs i x) i y ≡ set xs i y
set-set [] i x y = refl
set-set (z ∷ xs) zero x y = refl
set-set (z ∷ xs) (suc i) x y = ap (λ rest. z ∷ rest) (set-set xs i x y)

-- ---- nothing is there

pub none_there : {E : Type 0} (values : Slab E) (n : ℕ) → values.slots ≡ [] → on_shelf values (replicate n NOWHERE) ≡ replicate n None
none_there values zero none = refl
none_there values (suc n) none = ap₂ (λ x xs. x ∷ xs) (ap (λ slots. get (record values { slots = slots }) NOWHERE) none) (none_there values n none)

-- ---- keys

pub inside : {E : Type 0} (values : Slab E) (keys : List ℕ) (seen : List (Option E)) (i : ℕ) → on_shelf values keys ≡ seen → i < length seen → i < length keys
inside values keys seen i same within = omega (arith, within, ap length same, length-map keys (get values))

-- a key of two numbers is none
twice : {E : Type 0} (values : Slab E) (keys : List ℕ) (i j : ℕ) → AreKeys values keys → i < length keys → j < length keys → j ≢ i → get_or keys j 0 ≡ get_or keys i 0 → get_or keys j 0 ≡ NOWHERE
twice values keys i j are here there other same =
    ⊎_elim
    (λ (less : i < j). same ∙ are.apart i j less there (sym same))
    (λ (more : j ≤ i). are.apart j i (omega (arith, more, other)) here same)
    (cases_lt i j)

-- ---- taking

module _ {E : Type 0} (values new : Slab E) (keys : List ℕ) (i : ℕ) (are : AreKeys values keys) (within : i < length keys) (updates : Updates values new (get_or keys i 0) None) where
  taken_nowhere : get new NOWHERE ≡ None
  taken_nowhere =
      ⊎_elim
      (λ (same : NOWHERE ≡ get_or keys i 0). ap (get new) same ∙ updates.changed)
      (λ (other : NOWHERE ≢ get_or keys i 0). updates.others NOWHERE other ∙ are.nowhere)
      (cases_eq NOWHERE (get_or keys i 0))

  taken_others : (j : ℕ) → j < length keys → j ≢ i → get new (get_or keys j 0) ≡ get values (get_or keys j 0)
  taken_others j inside other =
      ⊎_elim
      (λ (same : get_or keys j 0 ≡ get_or keys i 0).
      let none = twice values keys i j are within inside other same in
      ap (get new) none ∙ taken_nowhere ∙ sym are.nowhere ∙ ap (get values) (sym none))
      (λ (apart : get_or keys j 0 ≢ get_or keys i 0). updates.others (get_or keys j 0) apart)
      (cases_eq (get_or keys j 0) (get_or keys i 0))

  pub taken_view : on_shelf new (set keys i NOWHERE) ≡ set (on_shelf values keys) i None
  taken_view = map-set (get values) (get new) keys i NOWHERE None taken_nowhere taken_others

  pub taken_keys : AreKeys new (set keys i NOWHERE)
  taken_keys = record {
    nowhere = taken_nowhere;
    full = λ j inside key.
        let short : j < length keys = omega (arith, inside, length-set keys i NOWHERE) in
        let other : j ≢ i = λ same. key (ap (λ (n : ℕ). get_or (set keys i NOWHERE) n 0) same ∙ get_or-set_same keys i NOWHERE 0 within) in
        let stays = get_or-set_other keys i j NOWHERE 0 other in
        subst (λ (k : ℕ). get new k ≢ None) (sym stays)
        (λ none. are.full j short (λ same. key (stays ∙ same)) (sym (taken_others j short other) ∙ none));
    apart = λ j k less inside same.
        let long = length-set keys i NOWHERE in
        ⊎_elim
        (λ (first : j ≡ i). ap (λ (n : ℕ). get_or (set keys i NOWHERE) n 0) first ∙ get_or-set_same keys i NOWHERE 0 within)
        (λ (other : j ≢ i).
        ⊎_elim
        (λ (second : k ≡ i). same ∙ ap (λ (n : ℕ). get_or (set keys i NOWHERE) n 0) second ∙ get_or-set_same keys i NOWHERE 0 within)
        (λ (apart : k ≢ i).
        let left = get_or-set_other keys i j NOWHERE 0 other in
        let right = get_or-set_other keys i k NOWHERE 0 apart in
        left ∙ are.apart j k less (omega (arith, inside, long)) (sym left ∙ same ∙ right))
        (cases_eq k i))
        (cases_eq j i);
  }

-- ---- putting

module _ {E : Type 0} (values new : Slab E) (keys : List ℕ) (i key : ℕ) (value : E) (are : AreKeys values keys) (within : i < length keys) (vacant : get values key ≡ None) (somewhere : key ≢ NOWHERE) (updates : Updates values new key (Some value)) where
  -- no number has that key
  unused : (j : ℕ) → j < length keys → get_or keys j 0 ≢ key
  unused j inside same = are.full j inside (λ none. somewhere (sym same ∙ none)) (ap (get values) same ∙ vacant)

  put_others : (j : ℕ) → j < length keys → j ≢ i → get new (get_or keys j 0) ≡ get values (get_or keys j 0)
  put_others j inside other = updates.others (get_or keys j 0) (unused j inside)

  pub put_view : on_shelf new (set keys i key) ≡ set (on_shelf values keys) i (Some value)
  put_view = map-set (get values) (get new) keys i key (Some value) updates.changed put_others

  pub put_keys : AreKeys new (set keys i key)
  put_keys = record {
    nowhere = updates.others NOWHERE (λ same. somewhere (sym same)) ∙ are.nowhere;
    full = λ j inside there.
        let short : j < length keys = omega (arith, inside, length-set keys i key) in
        ⊎_elim
        (λ (same : j ≡ i).
        let here = ap (λ (n : ℕ). get_or (set keys i key) n 0) same ∙ get_or-set_same keys i key 0 within in
        λ none. none-some value (sym none ∙ ap (get new) here ∙ updates.changed))
        (λ (other : j ≢ i).
        let stays = get_or-set_other keys i j key 0 other in
        λ none. are.full j short (λ same. there (stays ∙ same)) (sym (put_others j short other) ∙ ap (get new) (sym stays) ∙ none))
        (cases_eq j i);
    apart = λ j k less inside same.
        let long = length-set keys i key in
        let second_short : k < length keys = omega (arith, inside, long) in
        let first_short : j < length keys = omega (arith, less, second_short) in
        ⊎_elim
        (λ (first : j ≡ i).
        let here = ap (λ (n : ℕ). get_or (set keys i key) n 0) first ∙ get_or-set_same keys i key 0 within in
        let right = get_or-set_other keys i k key 0 (omega (arith, less, first)) in
        absurd (unused k second_short (sym right ∙ sym same ∙ here)))
        (λ (other : j ≢ i).
        let left = get_or-set_other keys i j key 0 other in
        ⊎_elim
        (λ (second : k ≡ i).
        let here = ap (λ (n : ℕ). get_or (set keys i key) n 0) second ∙ get_or-set_same keys i key 0 within in
        absurd (unused j first_short (sym left ∙ same ∙ here)))
        (λ (apart : k ≢ i).
        let right = get_or-set_other keys i k key 0 apart in
        left ∙ are.apart j k less second_short (sym left ∙ same ∙ right))
        (cases_eq k i))
        (cases_eq j i);
  }

-- Values that are taken out of slots and put into them.
use Rattle.std.proofs.Common.{◌≡◌, ◌≢◌, ℕ, zero, suc, ◌+◌, ◌<◌, ◌≤◌, List, [], ◌∷◌, ◌++◌, length, get_or, set, take, drop, map, Option, Some, None, refl, sym, ap, ap₂, ◌∙◌, subst, arith}
use Rattle.std.proofs.lemmas.List.{append-nil, nil_from_length, append_assoc, length-set, length-take-le, get_or-set_same, get_or-set_other, get_or-take, map-append, take_more, take_all, length_push, length-append}
use Rattle.task_pool.specs.Meanings.{AreMeanings}
use Rattle.task_pool.specs.Held.{HasMeaning, in_slots, AreDistinct, AreBelow, OthersStay}

-- ---- lists and meanings

head_is : {X : Type 0} (x y : Option X) (xs ys : List (Option X)) → x ∷ xs ≡ y ∷ ys → x ≡ y
head_is {X = X} x y xs ys e = ap (λ (zs : List (Option X)). get_or zs 0 None) e

tail_is : {X : Type 0} (x y : Option X) (xs ys : List (Option X)) → x ∷ xs ≡ y ∷ ys → xs ≡ ys
tail_is {X = X} x y xs ys e = ap (λ (zs : List (Option X)). drop 1 zs) e

-- values that were taken out of slots with meanings
pub meanings-from : {E : Type 0} (means : ℕ → E → Type 0) (slots : List (Option E)) (es : List ℕ) (vs : List E) → in_slots slots es ≡ map Some vs → ((i : ℕ) → i < length es → HasMeaning means (get_or es i 0) (get_or slots (get_or es i 0) None)) → AreMeanings means es vs
meanings-from means slots [] [] same has = tt
meanings-from means slots [] (v ∷ vs) same has = cc
meanings-from means slots (e ∷ es) [] same has = cc
meanings-from means slots (e ∷ es) (v ∷ vs) same has =
    let here = head_is (get_or slots e None) (Some v) (in_slots slots es) (map Some vs) same in
    let rest = tail_is (get_or slots e None) (Some v) (in_slots slots es) (map Some vs) same in
    (subst (λ o. HasMeaning means e o) here (has 0 (omega arith)), meanings-from means slots es vs rest (λ i within. has (suc i) (omega arith)))

-- meanings that were put into slots
pub meanings-to : {E : Type 0} (means : ℕ → E → Type 0) (slots : List (Option E)) (es : List ℕ) (vs : List E) → in_slots slots es ≡ map Some vs → AreMeanings means es vs → (i : ℕ) → i < length es → HasMeaning means (get_or es i 0) (get_or slots (get_or es i 0) None)
meanings-to means slots [] vs same are i within = absurd (omega arith)
meanings-to means slots (e ∷ es) [] same are i within = absurd are
meanings-to means slots (e ∷ es) (v ∷ vs) same are zero within =
    let here = head_is (get_or slots e None) (Some v) (in_slots slots es) (map Some vs) same in
    subst (λ o. HasMeaning means e o) (sym here) are.0
meanings-to means slots (e ∷ es) (v ∷ vs) same are (suc i) within =
    let rest = tail_is (get_or slots e None) (Some v) (in_slots slots es) (map Some vs) same in
    meanings-to means slots es vs rest are.1 i (omega arith)

pub as_many : {E : Type 0} (means : ℕ → E → Type 0) (es : List ℕ) (vs : List E) → AreMeanings means es vs → length vs ≡ length es
as_many means [] [] are = refl
as_many means [] (v ∷ vs) are = absurd are
as_many means (e ∷ es) [] are = absurd are
as_many means (e ∷ es) (v ∷ vs) are = let rest = as_many means es vs are.1 in omega (arith, rest)

in_slots-same : {E : Type 0} (old new : List (Option E)) (es : List ℕ) → ((i : ℕ) → i < length es → get_or new (get_or es i 0) None ≡ get_or old (get_or es i 0) None) → in_slots new es ≡ in_slots old es
in_slots-same old new [] same = refl
in_slots-same old new (e ∷ es) same =
    ap₂ (λ x xs. x ∷ xs) (same 0 (omega arith)) (in_slots-same old new es (λ i within. same (suc i) (omega arith)))

in_slots-more : {E : Type 0} (slots : List (Option E)) (es : List ℕ) (at : ℕ) → at < length es → in_slots slots (take (at + 1) es) ≡ in_slots slots (take at es) ++ get_or slots (get_or es at 0) None ∷ []
in_slots-more slots es at within =
    rw (take_more es at 0 within, map-append (λ (e : ℕ). get_or slots e None) (take at es) (get_or es at 0 ∷ [])) refl

-- ---- taking

-- what was taken out of the slots of the first edges of a list
pub record Takes {E : Type 0} (es : List ℕ) (at : ℕ) (old new : List (Option E)) (values : List E) : Type 0 where
  pub many : length new ≡ length old
  pub taken : in_slots old (take at es) ≡ map Some values
  pub others : (k : ℕ) → ((i : ℕ) → i < at → get_or es i 0 ≢ k) → get_or new k None ≡ get_or old k None

pub takes-none : {E : Type 0} (es : List ℕ) (old : List (Option E)) → Takes es 0 old old []
takes-none es old = record { many = refl; taken = refl; others = λ k apart. refl }

-- the slot of the next edge is as it was
pub next_as_it_was : {E : Type 0} (es : List ℕ) (at : ℕ) (old new : List (Option E)) (values : List E) → AreDistinct es → at < length es → Takes es at old new values → get_or new (get_or es at 0) None ≡ get_or old (get_or es at 0) None
next_as_it_was es at old new values distinct within t = t.others (get_or es at 0) (λ i less. distinct i at less within)

pub takes-more : {E : Type 0} (es : List ℕ) (at : ℕ) (old new : List (Option E)) (values : List E) (v : E) → AreDistinct es → at < length es → Takes es at old new values → get_or new (get_or es at 0) None ≡ Some v → Takes es (at + 1) old (set new (get_or es at 0) None) (values ++ v ∷ [])
takes-more {E = E} es at old new values v distinct within t here = record {
  many = length-set new (get_or es at 0) None ∙ t.many;
  taken =
      let as_it_was = next_as_it_was es at old new values distinct within t in
      in_slots-more old es at within
      ∙ ap₂ (λ (xs ys : List (Option E)). xs ++ ys) t.taken (ap (λ (o : Option E). o ∷ []) (sym as_it_was ∙ here))
      ∙ sym (map-append Some values (v ∷ []));
  others = λ k apart.
      get_or-set_other new (get_or es at 0) k None None (λ same. apart at (omega arith) (sym same))
      ∙ t.others k (λ i less. apart i (omega arith));
}

pub all_taken : {E : Type 0} (es : List ℕ) (at : ℕ) (old new : List (Option E)) (values : List E) → length es ≤ at → Takes es at old new values → in_slots old es ≡ map Some values
all_taken {E = E} es at old new values whole t = subst (λ (xs : List ℕ). in_slots old xs ≡ map Some values) (take_all at es whole) t.taken

pub takes-others : {E : Type 0} (es : List ℕ) (at : ℕ) (old new : List (Option E)) (values : List E) → at ≤ length es → Takes es at old new values → OthersStay es old new
takes-others es at old new values within t k apart = t.others k (λ i less. apart i (omega (arith, less, within)))

-- ---- putting

-- what was put into the slots of the first edges of a list
pub record Puts {E : Type 0} (es : List ℕ) (at : ℕ) (old new : List (Option E)) (values : List E) : Type 0 where
  pub many : length new ≡ length old
  pub count : length values ≡ at
  pub put : in_slots new (take at es) ≡ map Some values
  pub others : (k : ℕ) → ((i : ℕ) → i < at → get_or es i 0 ≢ k) → get_or new k None ≡ get_or old k None

pub puts-none : {E : Type 0} (es : List ℕ) (old : List (Option E)) → Puts es 0 old old []
puts-none es old = record { many = refl; count = refl; put = refl; others = λ k apart. refl }

pub puts-more : {E : Type 0} (es : List ℕ) (at : ℕ) (old new : List (Option E)) (values : List E) (v : E) → AreDistinct es → AreBelow (length old) es → at < length es → Puts es at old new values → Puts es (at + 1) old (set new (get_or es at 0) (Some v)) (values ++ v ∷ [])
puts-more {E = E} es at old new values v distinct below within p = record {
  many = length-set new (get_or es at 0) (Some v) ∙ p.many;
  count = length_push values v ∙ ap (λ (n : ℕ). n + 1) p.count;
  put =
      let after : List (Option E) = set new (get_or es at 0) (Some v) in
      let short : length (take at es) ≡ at = length-take-le at es (omega arith) in
      let stays : in_slots after (take at es) ≡ in_slots new (take at es) =
      in_slots-same new after (take at es) (λ i less.
      let low : i < at = omega (arith, less, short) in
      let apart : get_or (take at es) i 0 ≢ get_or es at 0 = λ same. distinct i at low within (sym (get_or-take at es i 0 low) ∙ same) in
      get_or-set_other new (get_or es at 0) (get_or (take at es) i 0) (Some v) None apart) in
      let here : get_or after (get_or es at 0) None ≡ Some v =
      get_or-set_same new (get_or es at 0) (Some v) None (omega (arith, p.many, below at within)) in
      in_slots-more after es at within
      ∙ ap₂ (λ (xs ys : List (Option E)). xs ++ ys) (stays ∙ p.put) (ap (λ (o : Option E). o ∷ []) here)
      ∙ sym (map-append Some values (v ∷ []));
  others = λ k apart.
      get_or-set_other new (get_or es at 0) k (Some v) None (λ same. apart at (omega arith) (sym same))
      ∙ p.others k (λ i less. apart i (omega arith));
}

pub all_put : {E : Type 0} (es : List ℕ) (at : ℕ) (old new : List (Option E)) (values : List E) → length es ≤ at → Puts es at old new values → in_slots new es ≡ map Some values
all_put {E = E} es at old new values whole p = subst (λ (xs : List ℕ). in_slots new xs ≡ map Some values) (take_all at es whole) p.put

pub puts-others : {E : Type 0} (es : List ℕ) (at : ℕ) (old new : List (Option E)) (values : List E) → at ≤ length es → Puts es at old new values → OthersStay es old new
puts-others es at old new values within p k apart = p.others k (λ i less. apart i (omega (arith, less, within)))

-- one turn of the loop that takes, in the words of its calls
pub takes-next : {E : Type 0} (es : List ℕ) (at : ℕ) (old mid new : List (Option E)) (values pushed : List E) (v : E) (taken : Option E) → AreDistinct es → at < length es → Takes es at old mid values → taken ≡ get_or mid (get_or es at 0) None → taken ≡ Some v → new ≡ set mid (get_or es at 0) None → pushed ≡ values ++ v ∷ [] → Takes es (at + 1) old new pushed
takes-next {E = E} es at old mid new values pushed v taken distinct within t taken_is some after push =
    let step = takes-more es at old mid values v distinct within t (sym taken_is ∙ some) in
    let one = subst (λ (slots : List (Option E)). Takes es (at + 1) old slots (values ++ v ∷ [])) (sym after) step in
    subst (λ (vs : List E). Takes es (at + 1) old new vs) (sym push) one

-- one turn of the loop that puts
pub puts-next : {E : Type 0} (es : List ℕ) (at : ℕ) (old mid new : List (Option E)) (values yielded rest left : List E) (v : E) → AreDistinct es → AreBelow (length old) es → length values ≡ length es → Puts es at old mid yielded → yielded ++ rest ≡ values → rest ≡ v ∷ left → new ≡ set mid (get_or es at 0) (Some v) → Puts es (at + 1) old new (yielded ++ v ∷ []) × (yielded ++ v ∷ [] ++ left ≡ values)
puts-next {E = E} es at old mid new values yielded rest left v distinct below many p whole next after =
    let split : yielded ++ (v ∷ left) ≡ values = ap (λ (xs : List E). yielded ++ xs) (sym next) ∙ whole in
    let long = ap length (sym split) ∙ length-append yielded (v ∷ left) in
    let step = puts-more es at old mid yielded v distinct below (omega (arith, long, many, p.count)) p in
    (subst (λ (slots : List (Option E)). Puts es (at + 1) old slots (yielded ++ v ∷ [])) (sym after) step, append_assoc yielded (v ∷ []) left ∙ split)

-- where nothing is left, all was put
pub puts-end : {E : Type 0} (es : List ℕ) (at : ℕ) (values yielded rest : List E) → length values ≡ length es → length yielded ≡ at → yielded ++ rest ≡ values → length rest ≡ 0 → at ≡ length es
puts-end es at values yielded rest many count whole none =
    let long = ap length (sym whole) ∙ length-append yielded rest in
    omega (arith, long, many, count, none)

-- where something is left, not all was put
pub puts-within : {E : Type 0} (es : List ℕ) (at : ℕ) (values yielded rest left : List E) (v : E) → length values ≡ length es → length yielded ≡ at → yielded ++ rest ≡ values → rest ≡ v ∷ left → at < length es
puts-within es at values yielded rest left v many count whole next =
    let long = ap length (sym whole) ∙ length-append yielded rest in
    let more = ap length next in
    omega (arith, long, many, count, more)

-- and all the values were gone through
pub puts-whole : {E : Type 0} (values yielded rest : List E) → yielded ++ rest ≡ values → length rest ≡ 0 → yielded ≡ values
puts-whole {E = E} values yielded rest whole none =
    sym (append-nil yielded) ∙ ap (λ (xs : List E). yielded ++ xs) (sym (nil_from_length rest none)) ∙ whole

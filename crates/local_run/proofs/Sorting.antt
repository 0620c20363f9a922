-- What flows into an item is sorted by kind.
use Rattle.std.proofs.Common.{◌≡◌, ℕ, ◌+◌, ◌<◌, ◌≤◌, length, get_or, set, take, drop, arith, List, [], ◌∷◌, ◌++◌, Option, Some, None, refl, sym, ap, ◌∙◌, subst}
use Rattle.std.specs.List.{flat_map}
use Rattle.std.proofs.lemmas.List.{append-nil, append_assoc, flat_map_more, length-set, length-append, take-append-drop, get_or-set_other, take_more}
use Rattle.std.proofs.lemmas.Grind.{flat_map-append}
use Rattle.gate_tasks.specs.declared.value.Value.{Value as ValueInMemory}
use Rattle.local_run.specs.declared.cargo.Cargo.{Cargo}
use Rattle.local_run.specs.declared.cargo.Cargo.TheVariants.{Value, Kept, Message}
use Rattle.local_run.specs.Cargo.{values_of, payloads_of, kept_after}

-- what was gone through and what is left
pub rest_next : {X : Type 0} (all yielded rest left : List X) (x : X) → yielded ++ rest ≡ all → rest ≡ x ∷ left → yielded ++ x ∷ [] ++ left ≡ all
rest_next {X = X} all yielded rest left x whole next =
    append_assoc yielded (x ∷ []) left ∙ ap (λ (xs : List X). yielded ++ xs) (sym next) ∙ whole

-- one more that has something, and one more that has nothing
one_more : {X : Type 0} (f : Cargo → List X) (old new : List X) (yielded : List Cargo) (x : Cargo) → old ≡ flat_map f yielded → new ≡ old ++ f x → new ≡ flat_map f (yielded ++ x ∷ [])
one_more {X = X} f old new yielded x before more =
    more ∙ ap (λ (xs : List X). xs ++ f x) before ∙ flat_map_more f [] yielded x

none_more : {X : Type 0} (f : Cargo → List X) (old : List X) (yielded : List Cargo) (x : Cargo) → old ≡ flat_map f yielded → f x ≡ [] → old ≡ flat_map f (yielded ++ x ∷ [])
none_more {X = X} f old yielded x before none =
    one_more f old old yielded x before (sym (append-nil old) ∙ ap (λ (xs : List X). old ++ xs) (sym none))

-- what one more carries
abbrev kept_by : Option (List (List ℕ)) → Cargo → Option (List (List ℕ))
kept_by before x = kept_after before (x ∷ [])

kept_more : (before : Option (List (List ℕ))) (yielded : List Cargo) (x : Cargo) → kept_after before (yielded ++ x ∷ []) ≡ kept_by (kept_after before yielded) x
kept_more before [] x = refl
kept_more before (Value v ∷ yielded) x = kept_more before yielded x
kept_more before (Kept k ∷ yielded) x = kept_more (Some k) yielded x
kept_more before (Message bytes ∷ yielded) x = kept_more before yielded x

kept_next : (old new : Option (List (List ℕ))) (yielded : List Cargo) (x : Cargo) → old ≡ kept_after None yielded → new ≡ kept_by old x → new ≡ kept_after None (yielded ++ x ∷ [])
kept_next old new yielded x before next =
    next ∙ ap (λ (o : Option (List (List ℕ))). kept_by o x) before ∙ sym (kept_more None yielded x)

-- what was sorted so far
pub record IsSorted (wires : List ValueInMemory) (carried : Option (List (List ℕ))) (payloads : List (List ℕ)) (yielded : List Cargo) : Type 0 where
  pub wires_are : wires ≡ flat_map values_of yielded
  pub carried_is : carried ≡ kept_after None yielded
  pub payloads_are : payloads ≡ flat_map payloads_of yielded

pub sorted_none : IsSorted [] None [] []
sorted_none = record { wires_are = refl; carried_is = refl; payloads_are = refl }

pub sorted_value : (wires new : List ValueInMemory) (carried : Option (List (List ℕ))) (payloads : List (List ℕ)) (yielded : List Cargo) (x : Cargo) (v : ValueInMemory) → IsSorted wires carried payloads yielded → x ≡ Value v → new ≡ wires ++ v ∷ [] → IsSorted new carried payloads (yielded ++ x ∷ [])
sorted_value wires new carried payloads yielded x v s is more =
    subst (λ (y : Cargo). IsSorted new carried payloads (yielded ++ y ∷ [])) (sym is) (record {
      wires_are = one_more values_of wires new yielded (Value v) s.wires_are more;
      carried_is = kept_next carried carried yielded (Value v) s.carried_is refl;
      payloads_are = none_more payloads_of payloads yielded (Value v) s.payloads_are refl;
    })

pub sorted_kept : (wires : List ValueInMemory) (carried : Option (List (List ℕ))) (payloads : List (List ℕ)) (yielded : List Cargo) (x : Cargo) (k : List (List ℕ)) → IsSorted wires carried payloads yielded → x ≡ Kept k → IsSorted wires (Some k) payloads (yielded ++ x ∷ [])
sorted_kept wires carried payloads yielded x k s is =
    subst (λ (y : Cargo). IsSorted wires (Some k) payloads (yielded ++ y ∷ [])) (sym is) (record {
      wires_are = none_more values_of wires yielded (Kept k) s.wires_are refl;
      carried_is = kept_next carried (Some k) yielded (Kept k) s.carried_is refl;
      payloads_are = none_more payloads_of payloads yielded (Kept k) s.payloads_are refl;
    })

pub sorted_message : (wires : List ValueInMemory) (carried : Option (List (List ℕ))) (payloads new : List (List ℕ)) (yielded : List Cargo) (x : Cargo) (bytes : List ℕ) → IsSorted wires carried payloads yielded → x ≡ Message bytes → new ≡ payloads ++ bytes ∷ [] → IsSorted wires carried new (yielded ++ x ∷ [])
sorted_message wires carried payloads new yielded x bytes s is more =
    subst (λ (y : Cargo). IsSorted wires carried new (yielded ++ y ∷ [])) (sym is) (record {
      wires_are = none_more values_of wires yielded (Message bytes) s.wires_are refl;
      carried_is = kept_next carried carried yielded (Message bytes) s.carried_is refl;
      payloads_are = one_more payloads_of payloads new yielded (Message bytes) s.payloads_are more;
    })

-- what is left from a place on is what was there
pub record AreLeft (at : ℕ) (old new : List Cargo) : Type 0 where
  pub as_many : length new ≡ length old
  pub same : (j : ℕ) (d : Cargo) → at ≤ j → j < length old → get_or new j d ≡ get_or old j d

pub all_left : (cs : List Cargo) → AreLeft 0 cs cs
all_left cs = record { as_many = refl; same = λ j d more within. refl }

pub left_next : (at : ℕ) (old mid : List Cargo) (c : Cargo) → AreLeft at old mid → AreLeft (at + 1) old (set mid at c)
left_next at old mid c left = record {
  as_many = length-set mid at c ∙ left.as_many;
  same = λ j d more within.
      get_or-set_other mid at j c d (λ same. absurd (omega (arith, same, more)))
      ∙ left.same j d (omega (arith, more)) within;
}

-- the next one is what was there
pub next_left : (at : ℕ) (old mid : List Cargo) (c d : Cargo) → AreLeft at old mid → at < length old → c ≡ get_or mid at c → take (at + 1) old ≡ take at old ++ c ∷ []
next_left at old mid c d left within read =
    take_more old at c within ∙ ap (λ (x : Cargo). take at old ++ x ∷ []) (sym (read ∙ left.same at c (omega arith) within))

-- where one more is a value, there were fewer before it than in all
pub few_so_far : (old : List Cargo) (at n : ℕ) (x : Cargo) (v : ValueInMemory) → take (at + 1) old ≡ take at old ++ x ∷ [] → x ≡ Value v → length (flat_map values_of old) ≤ n → length (flat_map values_of (take at old)) < n
few_so_far old at n x v next is few =
    let count : List Cargo → ℕ = λ cs. length (flat_map values_of cs) in
    let grown : count (take (at + 1) old) ≡ count (take at old) + 1 =
    ap count next ∙ ap length (sym (flat_map_more values_of [] (take at old) x))
    ∙ length-append (flat_map values_of (take at old)) (values_of x)
    ∙ ap (λ (y : Cargo). count (take at old) + length (values_of y)) is in
    let split : count old ≡ count (take (at + 1) old) + count (drop (at + 1) old) =
    ap count (sym (take-append-drop (at + 1) old))
    ∙ ap length (flat_map-append values_of (take (at + 1) old) (drop (at + 1) old))
    ∙ length-append (flat_map values_of (take (at + 1) old)) (flat_map values_of (drop (at + 1) old)) in
    omega (arith, grown, split, few)

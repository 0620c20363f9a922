-- Where the inputs that are asked for stand, by their names.
use Rattle.std.proofs.Common.{ℕ, ◌≡◌, ◌<◌, ◌+◌, Bool, true, false, ◌&&◌, List, [], ◌∷◌, ◌++◌, length, take, Some, None, Option, suc, zero, add-one, refl, sym, ◌∙◌, ap, subst, cond, arith}
use Rattle.std.specs.Prelude.{slice_get, option_map, IfSome}
use Rattle.std.specs.Option.{option_or}
use Rattle.std.specs.Str.{bytes_eq}
use Rattle.std.proofs.lemmas.List.{length-take-le}
use Rattle.std.proofs.lemmas.Slice.Eq.{bytes_eq-Decides}
use Rattle.mot_base.specs.declared.Party.{Party}
use Rattle.circuit_tables.specs.Table.{Input, AreNamedApart}
use Rattle.circuit_values.specs.Values.{place_asked}
use Rattle.circuit_tables.specs.Values.{is_owned}
use Rattle.text_lines.specs.Text.{Text}
use Rattle.mot_base.proofs.Lists.{inside_of as within, both_true, taken_at, take_next}

-- the input at the place of a name
pub record IsAskedAt (owner : Option Party) (xs : List Input) (name : Text) (at : ℕ) : Type 0 where
  pub x : Input
  pub there : slice_get xs at ≡ Some x
  pub owned : is_owned owner x.party ≡ true
  pub named : x.name ≡ name

later_at : (owner : Option Party) (x : Input) (xs : List Input) (name : Text) (at : ℕ) (o : Option ℕ) → ((i : ℕ) → o ≡ Some i → IsAskedAt owner xs name i) → option_map (λ i. i + 1) o ≡ Some at → IsAskedAt owner (x ∷ xs) name at
later_at owner x xs name at None more h = cc
later_at owner x xs name at (Some i) more h =
    let rest = more i refl in
    let next : suc i ≡ at = sym (add-one i) ∙ (let e : i + 1 ≡ at = cc in e) in
    let P : ℕ → Type 0 = λ k. slice_get (x ∷ xs) k ≡ Some rest.x in
    record { x = rest.x; there = subst P next rest.there; owned = rest.owned; named = rest.named }

first_at : (owner : Option Party) (x : Input) (xs : List Input) (name : Text) (at : ℕ) (b : Bool) → (is_owned owner x.party && bytes_eq x.name name) ≡ b → ((i : ℕ) → place_asked owner xs name ≡ Some i → IsAskedAt owner xs name i) → cond b (Some 0) (option_map (λ i. i + 1) (place_asked owner xs name)) ≡ Some at → IsAskedAt owner (x ∷ xs) name at
first_at owner x xs name at true e more h =
    let parts = both_true (is_owned owner x.party) (bytes_eq x.name name) e in
    let P : ℕ → Type 0 = λ k. slice_get (x ∷ xs) k ≡ Some x in
    let first : 0 ≡ at = cc in
    record { x = x; there = subst P first refl; owned = parts.0; named = (bytes_eq-Decides x.name name).0 parts.1 }
first_at owner x xs name at false e more h = later_at owner x xs name at (place_asked owner xs name) more h

pub place_asked-at : (owner : Option Party) (xs : List Input) (name : Text) (at : ℕ) → place_asked owner xs name ≡ Some at → IsAskedAt owner xs name at
place_asked-at owner [] name at h = cc
place_asked-at owner (x ∷ xs) name at h = first_at owner x xs name at (is_owned owner x.party && bytes_eq x.name name) refl (place_asked-at owner xs name) h

pub place_within : (owner : Option Party) (xs : List Input) (name : Text) (o : Option ℕ) → o ≡ place_asked owner xs name → IfSome o (λ at. at < length xs)
place_within owner xs name None h = tt
place_within owner xs name (Some at) h = let found = place_asked-at owner xs name at (sym h) in within xs at found.x found.there

push_step : (b : Bool) (xs : List Input) (o p : Option ℕ) (here : Bool) → p ≡ option_or o (cond here (Some (length xs)) None) → cond b (Some 0) (option_map (λ i. i + 1) p) ≡ option_or (cond b (Some 0) (option_map (λ i. i + 1) o)) (cond here (Some (suc (length xs))) None)
push_step true xs o p here e = refl
push_step false xs (Some i) p here e = ap (option_map (λ i. i + 1)) e
push_step false xs None p true e = ap (option_map (λ i. i + 1)) e ∙ ap Some (add-one (length xs))
push_step false xs None p false e = ap (option_map (λ i. i + 1)) e

-- a name of one input more is found behind the names before it
place_asked-push : (owner : Option Party) (xs : List Input) (x : Input) (name : Text) → place_asked owner (xs ++ x ∷ []) name ≡ option_or (place_asked owner xs name) (cond (is_owned owner x.party && bytes_eq x.name name) (Some (length xs)) None)
place_asked-push owner [] x name = refl
place_asked-push owner (y ∷ xs) x name = push_step (is_owned owner y.party && bytes_eq y.name name) xs (place_asked owner xs name) (place_asked owner (xs ++ x ∷ []) name) (is_owned owner x.party && bytes_eq x.name name) (place_asked-push owner xs x name)

or_none : (o : Option ℕ) → option_or o None ≡ o
or_none None = refl
or_none (Some at) = refl

-- an input that is not asked for changes no place
pub place_passed : (owner : Option Party) (xs : List Input) (x : Input) (name : Text) → is_owned owner x.party ≡ false → place_asked owner (xs ++ x ∷ []) name ≡ place_asked owner xs name
place_passed owner xs x name e = place_asked-push owner xs x name ∙ ap (λ b. option_or (place_asked owner xs name) (cond (b && bytes_eq x.name name) (Some (length xs)) None)) e ∙ or_none (place_asked owner xs name)

new_step : (owner : Option Party) (xs : List Input) (name other : Text) (b : Bool) → bytes_eq name other ≡ b → place_asked owner xs name ≡ None → option_or (place_asked owner xs other) (cond b (Some (length xs)) None) ≡ cond b (Some (length xs)) (place_asked owner xs other)
new_step owner xs name other true e new = ap (λ (o : Option ℕ). option_or o (Some (length xs))) (ap (place_asked owner xs) (sym ((bytes_eq-Decides name other).0 e)) ∙ new)
new_step owner xs name other false e new = or_none (place_asked owner xs other)

-- and one that is asked for, of a new name, no other place
pub place_added : (owner : Option Party) (xs : List Input) (x : Input) (other : Text) → is_owned owner x.party ≡ true → place_asked owner xs x.name ≡ None → place_asked owner (xs ++ x ∷ []) other ≡ cond (bytes_eq x.name other) (Some (length xs)) (place_asked owner xs other)
place_added owner xs x other e new = place_asked-push owner xs x other ∙ ap (λ b. option_or (place_asked owner xs other) (cond (b && bytes_eq x.name other) (Some (length xs)) None)) e ∙ new_step owner xs x.name other (bytes_eq x.name other) refl new

none_of : (o : Option ℕ) → ((at : ℕ) → o ≡ Some at → ⊥) → o ≡ None
none_of None never = refl
none_of (Some at) never = absurd (never at refl)

-- an input's name is new among those before it
pub new_name : (owner : Option Party) (xs : List Input) (at : ℕ) (x : Input) → AreNamedApart xs → slice_get xs at ≡ Some x → place_asked owner (take at xs) x.name ≡ None
new_name owner xs at x apart h = none_of _ (λ i e.
    let found = place_asked-at owner (take at xs) x.name i e in
    let there = taken_at xs at i found.x found.there in
    let less : i < at = there.0 in
    let same = apart.apart i at found.x x there.1 h found.named in
    absurd (omega arith))

take_suc : {X : Type 0} (xs : List X) (k : ℕ) (x : X) → slice_get xs k ≡ Some x → take (suc k) xs ≡ take k xs ++ x ∷ []
take_suc [] k x h = cc
take_suc (y ∷ xs) zero x h = let same : y ≡ x = cc in ap (λ z. z ∷ []) same
take_suc (y ∷ xs) (suc k) x h = ap (λ zs. y ∷ zs) (take_suc xs k x h)

-- an input by what getters tell of it
told_input : (o : Option Input) (party : Party) (name : Text) → option_map (λ (x : Input). x.party) o ≡ Some party → option_map (λ (x : Input). x.name) o ≡ Some name → (x : Input) × (o ≡ Some x) × (x.party ≡ party) × (x.name ≡ name)
told_input None party name h g = cc
told_input (Some x) party name h g = (x, refl, (let e : x.party ≡ party = cc in e), (let e : x.name ≡ name = cc in e))

told_party : (o : Option Input) (party : Party) → option_map (λ (x : Input). x.party) o ≡ Some party → (x : Input) × (o ≡ Some x) × (x.party ≡ party)
told_party None party h = cc
told_party (Some x) party h = (x, refl, (let e : x.party ≡ party = cc in e))

-- the places behind one input more
pub places_added : (owner : Option Party) (xs : List Input) (at : ℕ) (party : Party) (name : Text) → AreNamedApart xs → option_map (λ (x : Input). x.party) (slice_get xs at) ≡ Some party → option_map (λ (x : Input). x.name) (slice_get xs at) ≡ Some name → is_owned owner party ≡ true → (before after : Text → Option ℕ) → ((other : Text) → before other ≡ place_asked owner (take at xs) other) → ((other : Text) → after other ≡ cond (bytes_eq name other) (Some at) (before other)) → (other : Text) → after other ≡ place_asked owner (take (at + 1) xs) other
places_added owner xs at party name apart p n owned before after old new other =
    let x = told_input (slice_get xs at) party name p n in
    let count : length (take at xs) ≡ at = length-take-le at xs (let lt = within xs at x.0 x.1 in omega arith) in
    let mine = ap (is_owned owner) x.2 ∙ owned in
    let fresh = new_name owner xs at x.0 apart x.1 in
    new other
    ∙ ap (λ (o : Option ℕ). cond (bytes_eq name other) (Some at) o) (old other)
    ∙ ap (λ k. cond (bytes_eq name other) (Some k) (place_asked owner (take at xs) other)) (sym count)
    ∙ ap (λ (t : Text). cond (bytes_eq t other) (Some (length (take at xs))) (place_asked owner (take at xs) other)) (sym x.3)
    ∙ sym (ap (λ (ys : List Input). place_asked owner ys other) (take_next xs at x.0 x.1) ∙ place_added owner (take at xs) x.0 other mine fresh)

pub places_passed : (owner : Option Party) (xs : List Input) (at : ℕ) (party : Party) → option_map (λ (x : Input). x.party) (slice_get xs at) ≡ Some party → is_owned owner party ≡ false → (before : Text → Option ℕ) → ((other : Text) → before other ≡ place_asked owner (take at xs) other) → (other : Text) → before other ≡ place_asked owner (take (at + 1) xs) other
places_passed owner xs at party p owned before old other =
    let x = told_party (slice_get xs at) party p in
    old other ∙ sym (ap (λ (ys : List Input). place_asked owner ys other) (take_next xs at x.0 x.1) ∙ place_passed owner (take at xs) x.0 other (ap (is_owned owner) x.2 ∙ owned))

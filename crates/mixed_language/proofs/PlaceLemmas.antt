-- Where the names of values stand.
use Rattle.std.proofs.Common.{ℕ, ◌≡◌, ◌<◌, ◌+◌, Bool, true, false, ◌&&◌, List, [], ◌∷◌, ◌++◌, length, Some, None, Option, suc, add-one, refl, sym, ◌∙◌, ap, subst, cond}
use Rattle.std.specs.Prelude.{slice_get, option_map, is_some}
use Rattle.std.specs.Option.{option_or}
use Rattle.std.specs.Str.{bytes_eq}
use Rattle.std.proofs.lemmas.Option.{slice_get_within}
use Rattle.std.proofs.lemmas.Slice.Eq.{bytes_eq-Decides}
use Rattle.mot_base.proofs.Lists.{both_true}
use Rattle.mot_base.specs.Names.{Name}
use Rattle.share_types.specs.declared.sharing.WireType.{WireType}
use Rattle.mixed_language.specs.Circuit.{Statement, place_of}

-- the statement at the place of a name has a value of that name
pub record IsValueNamed (ss : List Statement) (name : Name) (at : ℕ) : Type 0 where
  pub s : Statement
  pub there : slice_get ss at ≡ Some s
  pub value : is_some s.wire ≡ true
  pub named : s.name ≡ name

named_later : (s : Statement) (ss : List Statement) (name : Name) (at : ℕ) (o : Option ℕ) → ((i : ℕ) → o ≡ Some i → IsValueNamed ss name i) → option_map (λ i. i + 1) o ≡ Some at → IsValueNamed (s ∷ ss) name at
named_later s ss name at None more h = cc
named_later s ss name at (Some i) more h =
    let rest = more i refl in
    let next : i + 1 ≡ at = cc in
    let P : ℕ → Type 0 = λ k. slice_get (s ∷ ss) k ≡ Some rest.s in
    record { s = rest.s; there = subst P next (later s ss i rest.s rest.there); value = rest.value; named = rest.named }
  where
    later : (s : Statement) (ss : List Statement) (i : ℕ) (t : Statement) → slice_get ss i ≡ Some t → slice_get (s ∷ ss) (i + 1) ≡ Some t
    later s ss i t h = rw add-one h

named_step : (s : Statement) (ss : List Statement) (name : Name) (at : ℕ) (b : Bool) → (is_some s.wire && bytes_eq s.name name) ≡ b → ((i : ℕ) → place_of ss name ≡ Some i → IsValueNamed ss name i) → cond b (Some 0) (option_map (λ i. i + 1) (place_of ss name)) ≡ Some at → IsValueNamed (s ∷ ss) name at
named_step s ss name at true e more h =
    let parts = both_true (is_some s.wire) (bytes_eq s.name name) e in
    let P : ℕ → Type 0 = λ k. slice_get (s ∷ ss) k ≡ Some s in
    let first : 0 ≡ at = cc in
    record { s = s; there = subst P first refl; value = parts.0; named = (bytes_eq-Decides s.name name).0 parts.1 }
named_step s ss name at false e more h = named_later s ss name at (place_of ss name) more h

pub place_of-named : (ss : List Statement) (name : Name) (at : ℕ) → place_of ss name ≡ Some at → IsValueNamed ss name at
place_of-named [] name at h = cc
place_of-named (s ∷ ss) name at h = named_step s ss name at (is_some s.wire && bytes_eq s.name name) refl (place_of-named ss name) h

push_step : (b : Bool) (ss : List Statement) (o p : Option ℕ) (here : Bool) → p ≡ option_or o (cond here (Some (length ss)) None) → cond b (Some 0) (option_map (λ i. i + 1) p) ≡ option_or (cond b (Some 0) (option_map (λ i. i + 1) o)) (cond here (Some (suc (length ss))) None)
push_step true ss o p here e = refl
push_step false ss (Some i) p here e = ap (option_map (λ i. i + 1)) e
push_step false ss None p true e = ap (option_map (λ i. i + 1)) e ∙ ap Some (add-one (length ss))
push_step false ss None p false e = ap (option_map (λ i. i + 1)) e

-- a name of a statement more is found behind the names before it
pub place_of-push : (ss : List Statement) (s : Statement) (name : Name) → place_of (ss ++ s ∷ []) name ≡ option_or (place_of ss name) (cond (is_some s.wire && bytes_eq s.name name) (Some (length ss)) None)
place_of-push [] s name = refl
place_of-push (t ∷ ss) s name = push_step (is_some t.wire && bytes_eq t.name name) ss (place_of ss name) (place_of (ss ++ s ∷ []) name) (is_some s.wire && bytes_eq s.name name) (place_of-push ss s name)

pub place_of-within : (ss : List Statement) (name : Name) (at : ℕ) → place_of ss name ≡ Some at → at < length ss
place_of-within ss name at h = let found = place_of-named ss name at h in slice_get_within ss at found.s found.there

option_or-none : (o : Option ℕ) → option_or o None ≡ o
option_or-none None = refl
option_or-none (Some at) = refl

-- a statement of no value changes no place
pub place_of-output : (ss : List Statement) (s : Statement) (name : Name) → s.wire ≡ None → place_of (ss ++ s ∷ []) name ≡ place_of ss name
place_of-output ss s name e = place_of-push ss s name ∙ ap (λ (w : Option WireType). option_or (place_of ss name) (cond (is_some w && bytes_eq s.name name) (Some (length ss)) None)) e ∙ option_or-none (place_of ss name)

value_step : (ss : List Statement) (name other : Name) (b : Bool) → bytes_eq name other ≡ b → place_of ss name ≡ None → option_or (place_of ss other) (cond b (Some (length ss)) None) ≡ cond b (Some (length ss)) (place_of ss other)
value_step ss name other true e new = ap (λ (o : Option ℕ). option_or o (Some (length ss))) (ap (place_of ss) (sym ((bytes_eq-Decides name other).0 e)) ∙ new)
value_step ss name other false e new = option_or-none (place_of ss other)

-- a value stands behind those before it, and changes no other place
pub place_of-value : (ss : List Statement) (s : Statement) (other : Name) → is_some s.wire ≡ true → place_of ss s.name ≡ None → place_of (ss ++ s ∷ []) other ≡ cond (bytes_eq s.name other) (Some (length ss)) (place_of ss other)
place_of-value ss s other value new = place_of-push ss s other ∙ ap (λ (b : Bool). option_or (place_of ss other) (cond (b && bytes_eq s.name other) (Some (length ss)) None)) value ∙ value_step ss s.name other (bytes_eq s.name other) refl new

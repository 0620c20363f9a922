-- What names hold once a content stands under a name.
use Rattle.std.proofs.Common.{◌≡◌, ◌≢◌, ℕ, suc, Bool, true, false, cond, List, [], ◌∷◌, length, Option, Some, None, refl, sym, ap, ◌∙◌, arith}
use Rattle.std.specs.Prelude.{slice_get, position}
use Rattle.std.specs.Option.{option_and_then, option_map}
use Rattle.std.specs.Str.{bytes_eq}
use Rattle.std.proofs.lemmas.Slice.Eq.{bytes_eq-Decides}
use Rattle.mot_base.proofs.Lists.{position_cons}
use Rattle.mot_base.specs.Memory.{names_with, contents_with}

-- what a name holds among names and contents that stand side by side
abbrev found : List (List ℕ) → List (List ℕ) → List ℕ → Option (List ℕ)
found names contents name = option_and_then (slice_get contents) (position (bytes_eq name) names)

shifted : {X : Type 0} (y : X) (ys : List X) (place : Option ℕ) →
    option_and_then (slice_get (y ∷ ys)) (option_map (λ i. suc i) place) ≡ option_and_then (slice_get ys) place
shifted y ys (Some i) = refl
shifted y ys None = refl

found_more : (x y : List ℕ) (names contents : List (List ℕ)) (name : List ℕ) →
    found (x ∷ names) (y ∷ contents) name ≡ cond (bytes_eq name x) (Some y) (found names contents name)
found_more x y names contents name =
    let place = position_cons (bytes_eq name) x names in
    let rest = shifted y contents (position (bytes_eq name) names) in
    rw place (elim (bytes_eq name x) as (λ b. option_and_then (slice_get (y ∷ contents)) (cond b (Some 0) (option_map (λ i. suc i) (position (bytes_eq name) names))) ≡ cond b (Some y) (found names contents name)) [ true ↦ refl | false ↦ rest ])

-- the names and the contents once the content stands under the name
abbrev names_after : List (List ℕ) → List ℕ → List (List ℕ)
names_after names name = names_with names (position (bytes_eq name) names) name

abbrev contents_after : List (List ℕ) → List (List ℕ) → List ℕ → List ℕ → List (List ℕ)
contents_after names contents name content = contents_with contents (position (bytes_eq name) names) content

names_shifted : (x : List ℕ) (names : List (List ℕ)) (name : List ℕ) (place : Option ℕ) →
    names_with (x ∷ names) (option_map (λ i. suc i) place) name ≡ x ∷ names_with names place name
names_shifted x names name (Some i) = refl
names_shifted x names name None = refl

contents_shifted : (y : List ℕ) (contents : List (List ℕ)) (content : List ℕ) (place : Option ℕ) →
    contents_with (y ∷ contents) (option_map (λ i. suc i) place) content ≡ y ∷ contents_with contents place content
contents_shifted y contents content (Some i) = refl
contents_shifted y contents content None = refl

-- what a name holds then, by whether the first name is the one under which the content stands
after_more : (x y : List ℕ) (names contents : List (List ℕ)) (name content other : List ℕ) (same : Bool) →
    bytes_eq name x ≡ same →
    found (names_after (x ∷ names) name) (contents_after (x ∷ names) (y ∷ contents) name content) other
    ≡ cond same (found (x ∷ names) (content ∷ contents) other)
    (cond (bytes_eq other x) (Some y) (found (names_after names name) (contents_after names contents name content) other))
after_more x y names contents name content other true e = rw (position_cons (bytes_eq name) x names, e) refl
after_more x y names contents name content other false e =
    rw (
      position_cons (bytes_eq name) x names,
      e,
      names_shifted x names name (position (bytes_eq name) names),
      contents_shifted y contents content (position (bytes_eq name) names),
    ) (found_more x y (names_after names name) (contents_after names contents name content) other)

is_same : (name : List ℕ) → bytes_eq name name ≡ true
is_same name = (bytes_eq-Decides name name).1 refl

is_other : (name other : List ℕ) → other ≢ name → bytes_eq other name ≡ false
is_other name other differs = grind (arith, bytes_eq-Decides other name, differs)

stored_step : (x y : List ℕ) (names contents : List (List ℕ)) (name content : List ℕ) (same : Bool) →
    bytes_eq name x ≡ same →
    found (names_after names name) (contents_after names contents name content) name ≡ Some content →
    found (names_after (x ∷ names) name) (contents_after (x ∷ names) (y ∷ contents) name content) name ≡ Some content
stored_step x y names contents name content true e rest =
    after_more x y names contents name content name true e ∙ (found_more x content names contents name ∙ rw e refl)
stored_step x y names contents name content false e rest =
    after_more x y names contents name content name false e ∙ rw e rest

pub stored_held : (names contents : List (List ℕ)) (name content : List ℕ) → length names ≡ length contents →
    found (names_after names name) (contents_after names contents name content) name ≡ Some content
stored_held [] [] name content paired = found_more name content [] [] name ∙ rw (is_same name) refl
stored_held [] (y ∷ ys) name content paired = absurd (omega arith)
stored_held (x ∷ xs) [] name content paired = absurd (omega arith)
stored_held (x ∷ xs) (y ∷ ys) name content paired =
    stored_step x y xs ys name content (bytes_eq name x) refl (stored_held xs ys name content (omega arith))

others_step : (x y : List ℕ) (names contents : List (List ℕ)) (name content other : List ℕ) (same : Bool) →
    bytes_eq name x ≡ same → other ≢ name →
    found (names_after names name) (contents_after names contents name content) other ≡ found names contents other →
    found (names_after (x ∷ names) name) (contents_after (x ∷ names) (y ∷ contents) name content) other
    ≡ found (x ∷ names) (y ∷ contents) other
others_step x y names contents name content other true e differs rest =
    let first : name ≡ x = (bytes_eq-Decides name x).0 e in
    let another = is_other x other (λ same. differs (same ∙ sym first)) in
    after_more x y names contents name content other true e
    ∙ (found_more x content names contents other ∙ (rw another refl ∙ sym (found_more x y names contents other)))
others_step x y names contents name content other false e differs rest =
    after_more x y names contents name content other false e
    ∙ (ap (cond (bytes_eq other x) (Some y)) rest ∙ sym (found_more x y names contents other))

pub others_held : (names contents : List (List ℕ)) (name content other : List ℕ) →
    length names ≡ length contents → other ≢ name →
    found (names_after names name) (contents_after names contents name content) other ≡ found names contents other
others_held [] [] name content other paired differs = found_more name content [] [] other ∙ rw (is_other name other differs) refl
others_held [] (y ∷ ys) name content other paired differs = absurd (omega arith)
others_held (x ∷ xs) [] name content other paired differs = absurd (omega arith)
others_held (x ∷ xs) (y ∷ ys) name content other paired differs =
    others_step x y xs ys name content other (bytes_eq name x) refl differs
    (others_held xs ys name content other (omega arith) differs)

-- Names and contents, as they are kept.
use Rattle.std.proofs.Common.{◌≡◌, ℕ, Bool, List, [], ◌∷◌, map, refl, Some, None}
use Rattle.std.proofs.lemmas.List.{length-map}
use Rattle.std.proofs.lemmas.Option.{slice_get-map}
use Rattle.std.specs.List.{position, position_or_len, slice_get}
use Rattle.std.specs.Option.{option_and_then}

-- the first place at which a test passes for the images
pub position_or_len-map : {X Y : Type 0} (p : Y → Bool) (f : X → Y) → (xs : List X) → position_or_len p (map f xs) ≡ position_or_len (λ x. p (f x)) xs
position_or_len-map p f [] = refl
position_or_len-map p f (x ∷ xs) = rw (position_or_len-map p f xs) refl

-- the same, where there is one
pub position-map : {X Y : Type 0} (p : Y → Bool) (f : X → Y) → (xs : List X) → position p (map f xs) ≡ position (λ x. p (f x)) xs
position-map p f xs = rw (position_or_len-map p f xs, length-map xs f) refl

-- a name that is nowhere holds nothing
pub absent : {X Y : Type 0} (p : List ℕ → Bool) (f : X → List ℕ) (g : Y → List ℕ) (names : List X) (contents : List Y) → position (λ x. p (f x)) names ≡ None → option_and_then (slice_get (map g contents)) (position p (map f names)) ≡ None
absent p f g names contents nowhere = rw (position-map p f names, nowhere) refl

-- a name holds the content that stands at its place
pub present : {X Y : Type 0} (p : List ℕ → Bool) (f : X → List ℕ) (g : Y → List ℕ) (names : List X) (contents : List Y) (place : ℕ) (content : Y) → position (λ x. p (f x)) names ≡ Some place → slice_get contents place ≡ Some content → option_and_then (slice_get (map g contents)) (position p (map f names)) ≡ Some (g content)
present p f g names contents place content here there = rw (position-map p f names, here, slice_get-map g contents place, there) refl

-- a place behind the last content holds nothing
pub beyond : {X Y : Type 0} (p : List ℕ → Bool) (f : X → List ℕ) (g : Y → List ℕ) (names : List X) (contents : List Y) (place : ℕ) → position (λ x. p (f x)) names ≡ Some place → slice_get contents place ≡ None → option_and_then (slice_get (map g contents)) (position p (map f names)) ≡ None
beyond p f g names contents place here past = rw (position-map p f names, here, slice_get-map g contents place, past) refl

-- The numbers of values, one after another.
use Rattle.std.proofs.Common.{ℕ, ◌≡◌, ◌<◌, ◌+◌, List, [], ◌∷◌, ◌++◌, length, map, take, get_or, sym, ◌∙◌, ap, subst, arith}
use Rattle.std.specs.Prelude.{All}
use Rattle.std.proofs.lemmas.List.{take_more, length-map, get_or-map, map-append}

-- what stands at a place, seen by f
item_there : {X Y : Type 0} (f : X → Y) (ys : List X) (i : ℕ) (item : X) → item ≡ get_or ys i item → i < length ys →
    get_or (map f ys) i (f item) ≡ f item
item_there f ys i item is h = get_or-map f ys i item (f item) h ∙ ap f (sym is)

pub seen_all : {X Y : Type 0} (f : X → Y) (P : Y → Type 0) (ys : List X) (seen : List Y) (i : ℕ) (item : X) → map f ys ≡ seen →
    All P seen → item ≡ get_or ys i item → i < length ys → P (f item)
seen_all f P ys seen i item view all is h =
    let there : i < length seen = (let e = sym (ap length view) ∙ length-map ys f in omega arith) in
    let e : get_or seen i (f item) ≡ f item = ap (λ xs. get_or xs i (f item)) (sym view) ∙ item_there f ys i item is h in
    subst P e (all i (f item) there)

pub seen_more : {X Y Z : Type 0} (f : X → Y) (g : Y → Z) (ys : List X) (seen : List Y) (i : ℕ) (item : X) → map f ys ≡ seen →
    item ≡ get_or ys i item → i < length ys → map g (take (i + 1) seen) ≡ map g (take i seen) ++ g (f item) ∷ []
seen_more f g ys seen i item view is h =
    let there : i < length seen = (let e = sym (ap length view) ∙ length-map ys f in omega arith) in
    let e : get_or seen i (f item) ≡ f item = ap (λ xs. get_or xs i (f item)) (sym view) ∙ item_there f ys i item is h in
    ap (map g) (take_more seen i (f item) there ∙ ap (λ y. take i seen ++ y ∷ []) e) ∙ map-append g (take i seen) (f item ∷ [])

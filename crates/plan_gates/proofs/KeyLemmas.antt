-- Plans that have no gate of keys, and those that have none of a conversion.
use Rattle.std.proofs.Common.{ℕ, zero, suc, ◌≡◌, ◌+◌, Bool, true, false, ◌||◌, List, [], ◌∷◌, take, Some, refl, sym, ◌∙◌, ap, ap₂}
use Rattle.std.specs.Prelude.{slice_get}
use Rattle.std.specs.List.{list_any}
use Rattle.std.proofs.lemmas.Bool.{or_parts}
use Rattle.std.proofs.lemmas.List.Folds.{list_any-append}
use Rattle.mot_base.proofs.Lists.{same_some, take_next}
use Rattle.plan_gates.specs.Gate.{Gate, is_of_keys, is_conversion}
use Rattle.plan_gates.specs.Plan.{Gates, has_keys, has_conversions}

-- ---- tests of a list, one place after another

pub none_next : {X : Type 0} (test : X → Bool) (xs : List X) (n : ℕ) (x : X) → slice_get xs n ≡ Some x →
    list_any test (take n xs) ≡ false → test x ≡ false → list_any test (take (n + 1) xs) ≡ false
none_next test xs n x there none e =
    ap (list_any test) (take_next xs n x there)
    ∙ (list_any-append test (take n xs) (x ∷ []) ∙ ap₂ (λ a b. a || (b || false)) none e)

pub some_there : {X : Type 0} (test : X → Bool) (xs : List X) (n : ℕ) (x : X) → slice_get xs n ≡ Some x →
    test x ≡ true → list_any test xs ≡ true
some_there test [] n x there e = cc
some_there test (y ∷ ys) zero x there e = ap (λ b. b || list_any test ys) (ap test (same_some y x there) ∙ e)
some_there test (y ∷ ys) (suc n) x there e = ap (λ b. test y || b) (some_there test ys n x there e) ∙ or_true (test y)
  where
    or_true : (b : Bool) → (b || true) ≡ true
    or_true true = refl
    or_true false = refl

none_there : {X : Type 0} (test : X → Bool) (xs : List X) (n : ℕ) (x : X) → list_any test xs ≡ false →
    slice_get xs n ≡ Some x → test x ≡ false
none_there test [] n x none there = cc
none_there test (y ∷ ys) zero x none there =
    ap test (sym (same_some y x there)) ∙ (or_parts (test y) (list_any test ys) none).0
none_there test (y ∷ ys) (suc n) x none there =
    none_there test ys n x (or_parts (test y) (list_any test ys) none).1 there

-- ---- no gate of a plan without keys is one of keys

pub unkeyed_at : (plan : Gates) (g : ℕ) (gate : Gate) → has_keys plan ≡ false → slice_get plan.gates g ≡ Some gate →
    is_of_keys gate.kind ≡ false
unkeyed_at plan g gate none there = none_there (λ (gate : Gate). is_of_keys gate.kind) plan.gates g gate none there

pub unconverted_at : (plan : Gates) (g : ℕ) (gate : Gate) → has_conversions plan ≡ false →
    slice_get plan.gates g ≡ Some gate → is_conversion gate.kind ≡ false
unconverted_at plan g gate none there = none_there (λ (gate : Gate). is_conversion gate.kind) plan.gates g gate none there

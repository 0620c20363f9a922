-- What holds in each row of the language holds of every operation.
use Rattle.std.proofs.Common.{ℕ, zero, suc, ◌≡◌, Bool, true, false, not, ◌||◌, List, [], ◌∷◌, Some, refl, subst}
use Rattle.std.specs.Prelude.{slice_get}
use Rattle.std.specs.List.{list_all}
use Rattle.mot_base.proofs.Lists.{same_some, both_true, implied_true as implied}
use Rattle.mixed_language.specs.declared.language.Operation.{Operation}
use Rattle.mixed_language.specs.declared.language.Operation.TheVariants.{InputWord, InputBits, ConstWord, ConstBits, Add, Sub, Mul, AddConst, MulConst, Xor, And, Not, Slice, Join, A2Y, A2B, B2Y, Y2B, B2A, Y2A, Output}
use Rattle.mixed_language.specs.Language.{operations}

-- each operation has a row
pub row_of : (o : Operation) → (i : ℕ) × (slice_get operations i ≡ Some o)
row_of InputWord = (0, refl)
row_of InputBits = (1, refl)
row_of ConstWord = (2, refl)
row_of ConstBits = (3, refl)
row_of Add = (4, refl)
row_of Sub = (5, refl)
row_of Mul = (6, refl)
row_of AddConst = (7, refl)
row_of MulConst = (8, refl)
row_of Xor = (9, refl)
row_of And = (10, refl)
row_of Not = (11, refl)
row_of Slice = (12, refl)
row_of Join = (13, refl)
row_of A2Y = (14, refl)
row_of A2B = (15, refl)
row_of B2Y = (16, refl)
row_of Y2B = (17, refl)
row_of B2A = (18, refl)
row_of Y2A = (19, refl)
row_of Output = (20, refl)

at_row : (test : Operation → Bool) (all : List Operation) (i : ℕ) (o : Operation) → list_all test all ≡ true →
    slice_get all i ≡ Some o → test o ≡ true
at_row test [] i o h there = cc
at_row test (x ∷ all) zero o h there =
    let P : Operation → Type 0 = λ y. test y ≡ true in
    subst P (same_some _ _ there) (both_true (test x) (list_all test all) h).0
at_row test (x ∷ all) (suc i) o h there = at_row test all i o (both_true (test x) (list_all test all) h).1 there

pub each_operation : (test : Operation → Bool) → list_all test operations ≡ true → (o : Operation) → test o ≡ true
each_operation test h o = let row = row_of o in at_row test operations row.0 o h row.1

-- The numbers of a plan's gates.
use Rattle.std.proofs.Common.{ℕ, zero, suc, ◌≡◌, List, [], ◌∷◌, length, refl, ◌∙◌, arith}
use Rattle.std.specs.Prelude.{slice_get}
use Rattle.std.proofs.lemmas.List.{length-append}
use Rattle.plan_gates.specs.Gate.{Gate}
use Rattle.plan_gates.specs.Plain.{Outside, number_at, plain_before}

-- there is a number for each gate
pub length_plain : (gates : List Gate) (outside : Outside) (n : ℕ) → length (plain_before gates outside n) ≡ n
length_plain gates outside zero = refl
length_plain gates outside (suc n) =
    let before = length_plain gates outside n in
    length-append (plain_before gates outside n)
    (number_at gates outside (plain_before gates outside n) (slice_get gates n) ∷ [])
    ∙ omega arith

-- Steps that may give nothing.
use Rattle.std.proofs.Common.{◌≡◌, Some, None, Option, option_map, option_and_then, refl, sym, ◌∙◌, ap}
use Rattle.std.specs.Prelude.{Result, Ok, Err, IsErrOf}
use Rattle.std.specs.Result.{IsErrAnd}

pub mapped : {X Y : Type 0} (f : X → Y) (o : Option X) (y : Y) → option_map f o ≡ Some y → (x : X) × ((o ≡ Some x) × (y ≡ f x))
mapped f None y h = cc
mapped f (Some x) y h = (x, (refl, cc))

pub chained : {X Y : Type 0} (f : X → Option Y) (o : Option X) (y : Y) → option_and_then f o ≡ Some y → (x : X) × ((o ≡ Some x) × (f x ≡ Some y))
chained f None y h = cc
chained f (Some x) y h = (x, (refl, h))

abbrev pub error_of : {E : Type 0} (U : Type 0) → E → Result U E
error_of U e = Err e

-- the error that a `?` hands on is the one that it met
pub handed_on : {T U E : Type 0} (r : Result T E) (e f : E) → IsErrAnd r (λ y. y ≡ f) → IsErrOf r e → IsErrOf (error_of U f) e
handed_on {T} {U} {E} (Ok x) e f h u = cc
handed_on {T} {U} {E} (Err y) e f h u =
    let same : y ≡ e = cc in
    ap (error_of U) (sym h ∙ same)

-- Steps of which the first may show a cause, and what is known where none does.
use Rattle.std.proofs.Common.{◌≡◌, Bool, true, false, Option, Some, None, Result, Ok, Err, refl}
use Rattle.text_lines.specs.Chain.{◌>>=◌, or_cause, unless}

-- the first step gives something, and the rest goes on from that
pub ok_then : {X Z C : Type 0} (r : Result X C) (f : X → Result Z C) (z : Z) → (r >>= f) ≡ Ok z → (x : X) × (r ≡ Ok x) × (f x ≡ Ok z)
ok_then (Ok x) f z h = (x, refl, h)
ok_then (Err cause) f z h = cc

pub or_some : {X C : Type 0} (cause : C) (o : Option X) (x : X) → or_cause cause o ≡ Ok x → o ≡ Some x
or_some cause (Some y) x h = cc
or_some cause None x h = cc

pub unless_true : {C : Type 0} (cause : C) (b : Bool) (u : Unit {0}) → unless cause b ≡ Ok u → b ≡ true
unless_true cause true u h = refl
unless_true cause false u h = cc

-- One step after another, of which the first may show a cause.
use Rattle.std.specs.Prelude.{Bool, true, false, Option, Some, None, Result, Ok, Err}

infixl 10 ◌>>=◌
abbrev pub ◌>>=◌ : {X Z C : Type 0} → Result X C → (X → Result Z C) → Result Z C
(Ok x) >>= f = f x
(Err cause) >>= f = Err cause

-- what is there, or a cause
abbrev pub or_cause : {X C : Type 0} → C → Option X → Result X C
or_cause cause (Some x) = Ok x
or_cause cause None = Err cause

-- a cause, unless a test passes
abbrev pub unless : {C : Type 0} → C → Bool → Result (Unit {0}) C
unless cause true = Ok tt
unless cause false = Err cause

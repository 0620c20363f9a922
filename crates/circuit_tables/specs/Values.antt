-- The values of a table's inputs, as lists of bits.
use Rattle.std.specs.Prelude.{ℕ, ◌≡◌, ◌==◌, Bool, true, List, [], ◌∷◌, length, slice_get, Option, Some, None, if◌then◌else◌}
use Rattle.mot_base.specs.declared.Party.{Party}
use Rattle.circuit_tables.specs.Table.{Input}

-- whether the inputs of a party are asked for: without an owner all are
abbrev pub is_owned : Option Party → Party → Bool
is_owned None party = true
is_owned (Some owner) party = owner.0 == party.0

-- an input that is asked for has as many bits as its width, and any other none
pub record HaveWidths (owner : Option Party) (inputs : List Input) (v : List (List Bool)) : Type 0 where
  pub count : length v ≡ length inputs
  pub each : (at : ℕ) (x : Input) (value : List Bool) →
      slice_get inputs at ≡ Some x → slice_get v at ≡ Some value →
      length value ≡ (if is_owned owner x.party then x.width else 0)

-- values of which only those that are wanted have bits
abbrev pub kept_of : List Bool → List (List Bool) → List (List Bool)
kept_of [] v = []
kept_of (wanted ∷ flags) [] = []
kept_of (wanted ∷ flags) (value ∷ v) = (if wanted then value else []) ∷ kept_of flags v

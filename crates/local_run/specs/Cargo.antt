-- What flows into an item, by kind.
use Rattle.std.specs.Prelude.{ℕ, List, [], ◌∷◌, Option, Some}
use Rattle.gate_tasks.specs.declared.value.Value.{Value as ValueInMemory}
use Rattle.local_run.specs.declared.cargo.Cargo.{Cargo}
use Rattle.local_run.specs.declared.cargo.Cargo.TheVariants.{Value, Kept, Message}

-- the value on an edge that carries one, and the payload on one that carries that
abbrev pub values_of : Cargo → List ValueInMemory
values_of (Value v) = v ∷ []
values_of _ = []

abbrev pub payloads_of : Cargo → List (List ℕ)
payloads_of (Message bytes) = bytes ∷ []
payloads_of _ = []

-- the last that was carried, if anything was, and otherwise what there was before
abbrev pub kept_after : Option (List (List ℕ)) → List Cargo → Option (List (List ℕ))
kept_after before [] = before
kept_after before (Kept k ∷ rest) = kept_after (Some k) rest
kept_after before (Value v ∷ rest) = kept_after before rest
kept_after before (Message bytes ∷ rest) = kept_after before rest

-- Tables of a circuit's inputs and outputs, and what of the outputs a party is told.
use Rattle.std.specs.Prelude.{ℕ, ◌≡◌, ◌+◌, Bool, true, List, [], ◌∷◌, slice_get, length, map, filter, flat_map, Option, Some, None}
use Rattle.mot_base.specs.declared.Party.{Party}
use Rattle.mot_base.specs.Names.{Name}
use Rattle.share_types.specs.declared.bits.Bits.{Bits}
use Rattle.share_types.specs.Bits as vector
use Rattle.share_types.specs.declared.receiver.Receiver.{Receiver}
use Rattle.share_types.specs.Wires.{includes}

-- an input: its name, the party whose value it is, and how many bits the value has
pub record Input : Type 0 where
  pub name : Name
  pub party : Party
  pub width : ℕ

-- no two inputs have the same name
pub record AreNamedApart (inputs : List Input) : Type 0 where
  pub apart : (i j : ℕ) (x y : Input) → slice_get inputs i ≡ Some x → slice_get inputs j ≡ Some y →
      x.name ≡ y.name → i ≡ j

-- an output: its name, who is told it, and how many bits it has
pub record Output : Type 0 where
  pub name : Name
  pub to : Receiver
  pub width : ℕ

-- an output with its bits, the least first
pub record Told : Type 0 where
  pub name : Name
  pub to : Receiver
  pub bits : List Bool

-- whether a party is told an output; without a party, any output is asked for
abbrev pub is_asked : Option Party → Output → Bool
is_asked None output = true
is_asked (Some party) output = includes output.to party.0

-- the outputs of a table that a party is told, in their order
abbrev pub asked : Option Party → List Output → List Output
asked party outputs = filter (is_asked party) outputs

-- the bits of several vectors, joined in order
abbrev pub joined_bits : List Bits → List Bool
joined_bits vectors = flat_map (λ v. vector.bits v.width v.word) vectors

-- bits are cut into outputs: one for each that is asked for, with its name, receiver and number of bits,
-- and joined in order they are all bits
pub record AreCut (outputs : List Output) (bits : List Bool) (cut : List Told) : Type 0 where
  pub names : map (λ t. t.name) cut ≡ map (λ o. o.name) outputs
  pub receivers : map (λ t. t.to) cut ≡ map (λ o. o.to) outputs
  pub widths : map (λ t. length t.bits) cut ≡ map (λ o. o.width) outputs
  pub joined : flat_map (λ t. t.bits) cut ≡ bits

-- the bits of all outputs together
abbrev pub total_width : List Output → ℕ
total_width [] = 0
total_width (o ∷ more) = o.width + total_width more

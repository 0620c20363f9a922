-- What the words of a line state, as the code keeps it.
use Rattle.std.specs.Prelude.{ℕ, ◌≡◌, ◌<◌, ◌≤◌, ◌-◌, ◌^◌, true, false, [], ◌∷◌, length, map, take, Option, Some, None, option_map, IsSome, if◌then◌else◌}
use Rattle.mot_base.specs.Limits.{most_width}
use Rattle.std.specs.List.{list_all}
use Rattle.share_types.specs.declared.sharing.Sharing.{Sharing}
use Rattle.mixed_circuit.specs.declared.raw.Raw.{Raw}
use Rattle.mixed_language.specs.Language.{gives, states, is_name_slot, is_letter_slot, is_owner_slot, is_party_slot, is_width_slot, is_place_slot, is_constant_slot, arity_of}
use Rattle.mixed_language.specs.Circuit.{Shape}
use Rattle.mixed_circuit.specs.Line.{Parts, is_letter_of}
use Rattle.text_lines.specs.Text.{Text}
use Rattle.mot_base.specs.Names.{is_name}

-- the parts, without where their words lie in memory
abbrev pub stated : Raw → Parts
stated raw = record {
  operation = raw.operation;
  name = option_map (λ name. name.now) raw.name;
  letter = raw.letter;
  operands = map (λ word. word.now) raw.operands.items;
  party = raw.party;
  width = raw.width;
  place = raw.place;
  constant = raw.constant;
}

-- a name is stated
abbrev pub IsSomeName : Option Text → Type 0
IsSomeName None = ⊥
IsSomeName (Some name) = is_name name ≡ true

-- parts that some line states: what the operation's row has is there, all else is as in a line that states
-- nothing
pub record AreWhole (parts : Parts) : Type 0 where
  pub named : states is_name_slot parts.operation ≡ true → IsSomeName parts.name
  pub unnamed : states is_name_slot parts.operation ≡ false → parts.name ≡ None
  pub letter : states is_letter_slot parts.operation ≡ true → is_letter_of parts.operation parts.letter ≡ true
  pub no_letter : states is_letter_slot parts.operation ≡ false → parts.letter ≡ None
  pub owner : states is_owner_slot parts.operation ≡ true → IsSome parts.party
  pub no_party : states is_party_slot parts.operation ≡ false → parts.party ≡ None
  pub no_width : states is_width_slot parts.operation ≡ false → parts.width ≡ most_width
  pub no_place : states is_place_slot parts.operation ≡ false → parts.place ≡ 0
  pub no_constant : states is_constant_slot parts.operation ≡ false → parts.constant ≡ 0
  pub arity : length parts.operands ≡ arity_of parts.operation
  pub operands : list_all is_name parts.operands ≡ true
  pub some_width : 1 ≤ parts.width
  pub in_most : parts.width ≤ most_width
  pub most_place : parts.place ≤ most_width - 1
  pub fits : parts.constant < 2 ^ parts.width

-- the shape that parts have with the operands at two places, of which as many count as the operation has
abbrev pub shape_stated : Parts → Sharing → ℕ → ℕ → Shape
shape_stated parts sharing x y = record {
  operation = parts.operation;
  sharing = if states is_name_slot parts.operation then Some (gives parts.operation sharing) else None;
  operands = take (arity_of parts.operation) (x ∷ y ∷ []);
  party = if states is_party_slot parts.operation then parts.party else None;
  width = if states is_width_slot parts.operation then parts.width else most_width;
  place = if states is_place_slot parts.operation then parts.place else 0;
  constant = if states is_constant_slot parts.operation then parts.constant else 0;
}

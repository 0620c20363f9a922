-- What a circuit is: of which statements it may be made.
use Rattle.std.specs.Prelude.{ℕ, ◌≡◌, ◌<◌, ◌≤◌, ◌-◌, ◌^◌, true, false, List, [], ◌∷◌, length, map, take, slice_get, Some, None, IsSome, IfSome, if◌then◌else◌}
use Rattle.mot_base.specs.Limits.{least_parties, most_parties, most_statements, most_width}
use Rattle.mot_base.specs.Names.{Name, is_name}
use Rattle.share_types.specs.declared.sharing.Sharing.{Sharing}
use Rattle.share_types.specs.Wires.{is_shared, wire_type}
use Rattle.mixed_language.specs.Circuit.{Circuit, Statement, Shape, wire_at, place_of}
use Rattle.mixed_language.specs.Language.{domain_of, widths_of, is_in, gives, arity_of, states, is_name_slot, is_owner_slot, is_party_slot, is_width_slot, is_place_slot, is_constant_slot}
use Rattle.mixed_language.specs.Operands.{width_by}
use Rattle.mixed_language.specs.declared.operand.Operand.{Operand}

-- a name that no earlier value has
pub record IsNewName (before : List Statement) (name : Name) : Type 0 where
  pub named : is_name name ≡ true
  pub new : place_of before name ≡ None

-- operands are earlier values that are shared so
pub record AreOperands (before : List Statement) (sharing : Sharing) (operands : List Operand) : Type 0 where
  pub found : (i : ℕ) (x : Operand) → slice_get operands i ≡ Some x → wire_at before x.at ≡ Some x.wire
  pub shared : (i : ℕ) (x : Operand) → slice_get operands i ≡ Some x → is_shared sharing x.wire ≡ true

-- the numbers of a shape are as its operation has them: what it does not state is as in a bare shape
pub record AreNumbers (parties : ℕ) (shape : Shape) : Type 0 where
  pub owner : states is_owner_slot shape.operation ≡ true → IsSome shape.party
  pub no_party : states is_party_slot shape.operation ≡ false → shape.party ≡ None
  pub party : IfSome shape.party (λ party. party < parties)
  pub no_width : states is_width_slot shape.operation ≡ false → shape.width ≡ most_width
  pub some_width : 1 ≤ shape.width
  pub in_width : shape.width ≤ most_width
  pub no_place : states is_place_slot shape.operation ≡ false → shape.place ≡ 0
  pub in_place : shape.place ≤ most_width - 1
  pub no_constant : states is_constant_slot shape.operation ≡ false → shape.constant ≡ 0
  pub fits : shape.constant < 2 ^ shape.width

-- A statement that may stand behind some statements: its operands are earlier values, as many as its operation
-- takes and shared as it takes them; their widths fit; its own value, if it has one, is shared and as wide as the
-- operation gives it, and has a new name
pub record IsStatement (parties : ℕ) (before : List Statement) (s : Statement) : Type 0 where
  pub sharing : Sharing
  pub operands : List Operand
  pub width : ℕ
  pub places : s.shape.operands ≡ map (λ x. x.at) operands
  pub arity : length operands ≡ arity_of s.shape.operation
  pub domain : is_in (domain_of s.shape.operation) sharing ≡ true
  pub uses : AreOperands before sharing operands
  pub wide : width_by (widths_of s.shape.operation) s.shape.width s.shape.place operands ≡ Some width
  pub wire : s.wire ≡
      (if states is_name_slot s.shape.operation then Some (wire_type (gives s.shape.operation sharing) width) else None)
  pub given : s.shape.sharing ≡
      (if states is_name_slot s.shape.operation then Some (gives s.shape.operation sharing) else None)
  pub name : states is_name_slot s.shape.operation ≡ true → IsNewName before s.name
  pub no_name : states is_name_slot s.shape.operation ≡ false → s.name ≡ []
  pub numbers : AreNumbers parties s.shape

-- a circuit of 2 to 8 parties, each statement of which may stand behind those before it
pub record IsCircuit (c : Circuit) : Type 0 where
  pub some_parties : least_parties ≤ c.parties
  pub most_parties : c.parties ≤ most_parties
  pub few : length c.statements ≤ most_statements
  pub each : (at : ℕ) (s : Statement) → slice_get c.statements at ≡ Some s →
      IsStatement c.parties (take at c.statements) s

-- the operands of a statement at a place are earlier statements
abbrev pub AreEarlier : ℕ → List ℕ → Type 0
AreEarlier at [] = Unit {0}
AreEarlier at (x ∷ more) = (x < at) × AreEarlier at more

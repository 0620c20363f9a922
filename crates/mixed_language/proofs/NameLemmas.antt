-- The names of values in a circuit.
use Rattle.std.proofs.Common.{◌≡◌, ℕ, Bool, true, false, not, ◌||◌, List, Some, None, Option, refl, sym, ◌∙◌, ap, cond}
use Rattle.std.specs.Prelude.{is_some}
use Rattle.share_types.specs.declared.sharing.WireType.{WireType}
use Rattle.share_types.specs.Wires.{wire_type}
use Rattle.mixed_language.specs.declared.language.Operation.{Operation}
use Rattle.mixed_language.specs.Language.{gives, states, is_name_slot, is_owner_slot}
use Rattle.mixed_language.specs.Circuit.{Statement}
use Rattle.mixed_language.specs.Table.{owner_of}
use Rattle.mixed_language.specs.Valid.{IsStatement, IsNewName}
use Rattle.mixed_language.proofs.RowLemmas.{each_operation}
use Rattle.mot_base.proofs.Lists.{implied_true as implied}

value_named : (b : Bool) (o : Option WireType) (w : WireType) → o ≡ cond b (Some w) None → is_some o ≡ true → b ≡ true
value_named true o w e h = refl
value_named false o w e h = let none = sym (ap (λ (p : Option WireType). is_some p) e) ∙ h in cc

-- a value has a new name
pub named_new : (parties : ℕ) (before : List Statement) (s : Statement) → IsStatement parties before s →
    is_some s.wire ≡ true → IsNewName before s.name
named_new parties before s is value =
    is.name (value_named (states is_name_slot s.shape.operation) s.wire
    (wire_type (gives s.shape.operation is.sharing) is.width) is.wire value)

-- an input has a name: so it is in each row of the language
abbrev has_name_where_owner : Operation → Bool
has_name_where_owner operation = not (states is_owner_slot operation) || states is_name_slot operation

owner_there : (b : Bool) (o : Option ℕ) → is_some (cond b o None) ≡ true → b ≡ true
owner_there true o h = refl
owner_there false o h = cc

pub input_value : (parties : ℕ) (before : List Statement) (s : Statement) → IsStatement parties before s →
    is_some (owner_of s.shape) ≡ true → is_some s.wire ≡ true
input_value parties before s is owner =
    let stated = owner_there (states is_owner_slot s.shape.operation) s.shape.party owner in
    let named =
    implied (states is_owner_slot s.shape.operation) (states is_name_slot s.shape.operation)
    (each_operation has_name_where_owner refl s.shape.operation) stated in
    let given = wire_type (gives s.shape.operation is.sharing) is.width in
    ap (λ (p : Option WireType). is_some p) (is.wire ∙ ap (λ (b : Bool). cond b (Some given) None) named)

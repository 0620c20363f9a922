-- The value that a statement handles: its own, or the one that it tells.
use Rattle.std.proofs.Common.{ℕ, ◌≡◌, Bool, true, false, List, take, Option, Some, None, refl, sym, ◌∙◌}
use Rattle.std.specs.Prelude.{slice_get, IfSome, option_map, option_and_then}
use Rattle.share_types.specs.declared.sharing.WireType.{WireType}
use Rattle.mixed_language.specs.Language.{states, is_name_slot}
use Rattle.mixed_language.specs.Circuit.{Circuit, Statement, wire_at}
use Rattle.mixed_language.specs.Valid.{IsStatement, IsCircuit}
use Rattle.mixed_language.specs.Table.{told_value}
use Rattle.mixed_language.specs.Wide.{IsWide, AllWide}
use Rattle.mot_base.proofs.Lists.{same_some}
use Rattle.gate_plan.specs.Lowering.{wire_handled}
use Rattle.gate_plan.proofs.OperationLemmas.{own_handled}

pub wide_wire : (all : List Statement) (place : ℕ) (wire : Option WireType) → AllWide all →
    option_map (λ s. s.wire) (slice_get all place) ≡ Some wire → IfSome wire (λ w. IsWide w)
wide_wire all place None wide e = tt
wide_wire all place (Some w) wide e = wide place w (flat (slice_get all place) e)
  where
    flat : (o : Option Statement) → option_map (λ (s : Statement). s.wire) o ≡ Some (Some w) →
        option_and_then (λ (s : Statement). s.wire) o ≡ Some w
    flat None e = cc
    flat (Some s) e = same_some s.wire (Some w) e

-- a value is what its own statement handles
pub handled_own : (c : Circuit) (at : ℕ) (s : Statement) (w : WireType) → IsCircuit c →
    slice_get c.statements at ≡ Some s → s.wire ≡ Some w →
    (wire_handled c.statements s ≡ Some w) × (states is_name_slot s.shape.operation ≡ true)
handled_own c at s w circuit there own = by_name (states is_name_slot s.shape.operation) refl
  where
    row : IsStatement c.parties (take at c.statements) s
    row = circuit.each at s there

    by_name : (b : Bool) → states is_name_slot s.shape.operation ≡ b →
        (wire_handled c.statements s ≡ Some w) × (states is_name_slot s.shape.operation ≡ true)
    by_name true e = (own_handled s.shape.operation (wire_at c.statements (told_value s)) s.wire e ∙ own, e)
    by_name false e =
        let none : s.wire ≡ None = row.wire ∙ rw e refl in
        let contrary = sym own ∙ none in
        cc

-- the statement of a value
pub statement_of : (o : Option Statement) (w : WireType) → option_and_then (λ s. s.wire) o ≡ Some w →
    (s : Statement) × (o ≡ Some s) × (s.wire ≡ Some w)
statement_of None w e = cc
statement_of (Some s) w e = (s, refl, e)

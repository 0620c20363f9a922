use Rattle.std.proofs.Common.{◌≡◌, ◌++◌, ◌∷◌, [], ◌+◌, sym, ◌∙◌, ap, subst}
use Rattle.std.specs.Prelude.{slice_get}
use Rattle.mot_base.proofs.Lists.{some_at, on_ok}
use Rattle.share_types.specs.Wires.{width_of}
use Rattle.mixed_language.specs.declared.language.Operation.TheVariants.{ConstBits}
use Rattle.mixed_language.specs.Circuit.{Shape, shape_of}
use Rattle.mixed_language.specs.Eval.{operand_width}
use Rattle.mixed_language.proofs.EvalLemmas.{of_statement}
use Rattle.gate_plan.specs.Lowering.{wire_handled, operand_wire, lowered_to}
use Rattle.gate_plan.proofs.StatementLemmas.{if_ok, handled, constant_width, code_block, room, draft_next, wires_next, shape_here}
use Rattle.gate_plan.proofs.lower.push_statement.Goals as goal

pub push_block-requires-clause-constant : goal.push_block-requires-clause-constant
push_block-requires-clause-constant c =
    let circuit = c.args.circuit.now in
    let here = some_at circuit.statements c.args.at c.requires.at in
    let same =
    shape_here circuit.statements c.args.at here.0
    (shape_of c.form-form.result) here.1 c.form-form.ensures.value in
    let wired =
    of_statement _ (λ s. c.wire_handled.result ≡ wire_handled circuit.statements s) here.0 here.1
    c.wire_handled.ensures.value in
    subst (λ (sh : Shape). sh.operation ≡ ConstBits → sh.width ≡ width_of c.in-Some.wire) same
    (constant_width circuit c.requires.circuit c.args.at here.0 here.1 c.in-Some.wire
    (sym c.in-Some.is ∙ wired))

pub push_block-requires-clause-room : goal.push_block-requires-clause-room
push_block-requires-clause-room c =
    let circuit = c.args.circuit.now in
    let here = some_at circuit.statements c.args.at c.requires.at in
    let same =
    shape_here circuit.statements c.args.at here.0
    (shape_of c.form-form.result) here.1 c.form-form.ensures.value in
    let wired =
    of_statement _ (λ s. c.wire_handled.result ≡ wire_handled circuit.statements s) here.0 here.1
    c.wire_handled.ensures.value in
    let first = c.operand_wire.ensures ∙ ap (operand_wire c.args.wires.now) c.operands_of-first.ensures.first
    ∙ ap (λ ws. operand_wire ws (slice_get (shape_of c.form-form.result).operands 0)) c.requires.wires in
    let second = c.operand_wire-2.ensures ∙ ap (operand_wire c.args.wires.now) c.operands_of-first.ensures.second
    ∙ ap (λ ws. operand_wire ws (slice_get (shape_of c.form-form.result).operands 1)) c.requires.wires in
    let low = c.operand_width.ensures ∙ ap (operand_width circuit.statements) c.operands_of-first.ensures.first in
    let is = code_block circuit c.requires.circuit c.args.at here.0 here.1 c.form-form.result _ c.in-Some.wire
    c.args.draft.now same c.parties.ensures.value first second c.requires.inputs low (sym c.in-Some.is ∙ wired)
    c.requires.before in
    room circuit c.requires.circuit c.args.at here.0 here.1 c.args.draft.now _
    c.requires.few c.requires.before is

pub unreachable-requires : goal.unreachable-requires
unreachable-requires c =
    let circuit = c.args.circuit.now in
    let here = some_at circuit.statements c.args.at c.requires.at in
    let same =
    shape_here circuit.statements c.args.at here.0
    (shape_of c.form-form.result) here.1 c.form-form.ensures.value in
    let wired =
    of_statement _ (λ s. c.wire_handled.result ≡ wire_handled circuit.statements s) here.0 here.1
    c.wire_handled.ensures.value in
    let h = handled circuit c.requires.circuit c.args.at here.0 here.1 in
    let contrary = sym c.in-None.is ∙ (wired ∙ h.1) in
    cc

pub returns-clause-next : goal.returns-clause-next
returns-clause-next c =
    let circuit = c.args.circuit.now in
    let here = some_at circuit.statements c.args.at c.requires.at in
    let same =
    shape_here circuit.statements c.args.at here.0
    (shape_of c.form-form.result) here.1 c.form-form.ensures.value in
    let wired =
    of_statement _ (λ s. c.wire_handled.result ≡ wire_handled circuit.statements s) here.0 here.1
    c.wire_handled.ensures.value in
    let first = c.operand_wire.ensures ∙ ap (operand_wire c.args.wires.now) c.operands_of-first.ensures.first
    ∙ ap (λ ws. operand_wire ws (slice_get (shape_of c.form-form.result).operands 0)) c.requires.wires in
    let second = c.operand_wire-2.ensures ∙ ap (operand_wire c.args.wires.now) c.operands_of-first.ensures.second
    ∙ ap (λ ws. operand_wire ws (slice_get (shape_of c.form-form.result).operands 1)) c.requires.wires in
    let low = c.operand_width.ensures ∙ ap (operand_width circuit.statements) c.operands_of-first.ensures.first in
    let is = code_block circuit c.requires.circuit c.args.at here.0 here.1 c.form-form.result _ c.in-Some.wire
    c.args.draft.now same c.parties.ensures.value first second c.requires.inputs low (sym c.in-Some.is ∙ wired)
    c.requires.before in
    on_ok c.push_block.result
    (λ more. draft_next circuit c.requires.circuit c.args.at here.0 here.1 c.args.draft.now
    c.push_block.new.draft _ c.requires.before is more)
    c.push_block.ensures.next

pub returns-clause-given : goal.returns-clause-given
returns-clause-given c =
    let circuit = c.args.circuit.now in
    let here = some_at circuit.statements c.args.at c.requires.at in
    let same =
    shape_here circuit.statements c.args.at here.0
    (shape_of c.form-form.result) here.1 c.form-form.ensures.value in
    let wired =
    of_statement _ (λ s. c.wire_handled.result ≡ wire_handled circuit.statements s) here.0 here.1
    c.wire_handled.ensures.value in
    let first = c.operand_wire.ensures ∙ ap (operand_wire c.args.wires.now) c.operands_of-first.ensures.first
    ∙ ap (λ ws. operand_wire ws (slice_get (shape_of c.form-form.result).operands 0)) c.requires.wires in
    let second = c.operand_wire-2.ensures ∙ ap (operand_wire c.args.wires.now) c.operands_of-first.ensures.second
    ∙ ap (λ ws. operand_wire ws (slice_get (shape_of c.form-form.result).operands 1)) c.requires.wires in
    let low = c.operand_width.ensures ∙ ap (operand_width circuit.statements) c.operands_of-first.ensures.first in
    let is = code_block circuit c.requires.circuit c.args.at here.0 here.1 c.form-form.result _ c.in-Some.wire
    c.args.draft.now same c.parties.ensures.value first second c.requires.inputs low (sym c.in-Some.is ∙ wired)
    c.requires.before in
    if_ok c.push_block.result (λ wire. wire ≡ _)
    (λ wire. c.args.wires.now ++ wire ∷ [] ≡ (lowered_to circuit (c.args.at + 1)).wires)
    (λ wire own. wires_next circuit c.requires.circuit c.args.at here.0 here.1
    c.args.wires.now wire _ c.requires.wires is own)
    c.push_block.ensures.given

use Rattle.std.proofs.Common.{arith}
use Rattle.bristol_reader.proofs.EvalLemmas.{gate_parts}
use Rattle.gate_plan.proofs.BristolValidLemmas.{constant_small}
use Rattle.gate_plan.proofs.BristolCodeLemmas.{fits, range, room, few_numbers, draft_next, wires_next}
use Rattle.gate_plan.proofs.expand.push_gate.Goals as goal

pub push_kind-requires-clause-constant : goal.push_kind-requires-clause-constant
push_kind-requires-clause-constant c =
    let circuit = c.args.circuit.now in
    let there =
    gate_parts circuit.gates c.args.at c.kind-kind.result c.ins-ins.result.now c.outs-outs.result.now
    c.kind-kind.ensures c.ins-ins.ensures c.outs-outs.ensures in
    constant_small circuit c.args.at _
    (fits c.args.keys c.args.draft.now.parties circuit c.args.at c.args.draft.now c.args.wires.now _
    c.requires.circuit c.requires.few there c.requires.before c.requires.wires)

pub push_kind-requires-clause-room : goal.push_kind-requires-clause-room
push_kind-requires-clause-room c =
    let circuit = c.args.circuit.now in
    let there =
    gate_parts circuit.gates c.args.at c.kind-kind.result c.ins-ins.result.now c.outs-outs.result.now
    c.kind-kind.ensures c.ins-ins.ensures c.outs-outs.ensures in
    room c.args.keys c.args.draft.now.parties circuit c.args.at c.args.draft.now c.args.wires.now _ c.requires.circuit
    c.requires.few there c.requires.before c.requires.wires

pub rewire-requires-clause-range : goal.rewire-requires-clause-range
rewire-requires-clause-range c =
    let circuit = c.args.circuit.now in
    let there =
    gate_parts circuit.gates c.args.at c.kind-kind.result c.ins-ins.result.now c.outs-outs.result.now
    c.kind-kind.ensures c.ins-ins.ensures c.outs-outs.ensures in
    range c.args.keys c.args.draft.now.parties circuit c.args.at c.args.draft.now c.args.wires.now _ c.requires.circuit
    c.requires.few there c.requires.before c.requires.wires

pub rewire-requires-clause-few : goal.rewire-requires-clause-few
rewire-requires-clause-few c =
    let circuit = c.args.circuit.now in
    let there =
    gate_parts circuit.gates c.args.at c.kind-kind.result c.ins-ins.result.now c.outs-outs.result.now
    c.kind-kind.ensures c.ins-ins.ensures c.outs-outs.ensures in
    let few =
    few_numbers c.args.keys c.args.draft.now.parties circuit c.args.at c.args.draft.now c.args.wires.now _
    c.requires.circuit c.requires.few there c.requires.before c.requires.wires in
    let first = c.gates-first.ensures.value in
    omega arith

pub returns-clause-next : goal.returns-clause-next
returns-clause-next c =
    let circuit = c.args.circuit.now in
    let there =
    gate_parts circuit.gates c.args.at c.kind-kind.result c.ins-ins.result.now c.outs-outs.result.now
    c.kind-kind.ensures c.ins-ins.ensures c.outs-outs.ensures in
    draft_next c.args.keys c.args.draft.now.parties circuit c.args.at c.args.draft.now c.args.wires.now _
    c.requires.circuit c.requires.few there c.requires.before c.requires.wires c.push_kind.new.draft
    c.in_ok-push_kind.ensures

pub returns-clause-given : goal.returns-clause-given
returns-clause-given c =
    let circuit = c.args.circuit.now in
    let there =
    gate_parts circuit.gates c.args.at c.kind-kind.result c.ins-ins.result.now c.outs-outs.result.now
    c.kind-kind.ensures c.ins-ins.ensures c.outs-outs.ensures in
    wires_next c.args.keys c.args.draft.now.parties circuit c.args.at c.args.draft.now c.args.wires.now _
    c.requires.circuit c.requires.few there c.requires.before c.requires.wires c.rewire.new.wires
    c.input_wire-x.result c.gates-first.result c.input_wire-x.ensures c.gates-first.ensures.value
    c.rewire.ensures

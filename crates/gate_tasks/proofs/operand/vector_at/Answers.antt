use Rattle.gate_tasks.proofs.Operands.{vector_there, vector_width, vector_same, found_there, inside_at}
use Rattle.plan_gates.specs.Gate.{Vector}
use Rattle.gate_tasks.proofs.operand.vector_at.Goals as goal

pub unreachable-requires : goal.unreachable-requires
unreachable-requires c =
    vector_there c.args.env.now.plan.now c.args.env.now.gate c.args.wires.now c.requires.plan c.requires.operands c.args.at _
    c.requires.vector c.in_default.not-B

pub returns-clause-width : goal.returns-clause-width
returns-clause-width c =
    let plan = c.args.env.now.plan.now in
    let g = c.args.env.now.gate in
    let wires = c.args.wires.now in
    let found = found_there plan g wires c.requires.plan c.requires.operands c.args.at Vector _ _ c.requires.vector c.in-B.is in
    λ x operand. vector_width plan g wires c.requires.plan c.requires.operands c.args.at x c.in-B.vector found operand

pub returns-clause-same_width : goal.returns-clause-same_width
returns-clause-same_width c =
    let plan = c.args.env.now.plan.now in
    let g = c.args.env.now.gate in
    let wires = c.args.wires.now in
    let found = found_there plan g wires c.requires.plan c.requires.operands c.args.at Vector _ _ c.requires.vector c.in-B.is in
    λ keeps. vector_same plan g wires c.requires.plan c.requires.operands c.args.at c.in-B.vector found keeps (inside_at plan g wires c.requires.plan c.requires.operands c.args.at Vector c.requires.vector)

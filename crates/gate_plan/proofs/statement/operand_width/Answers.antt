use Rattle.gate_plan.proofs.HandledLemmas.{wide_wire}
use Rattle.gate_plan.proofs.statement.operand_width.Goals as goal

pub width_of-requires : goal.width_of-requires
width_of-requires c =
    wide_wire c.args.circuit.now.statements c.in-Some.at c.wire.result c.wire.ensures.wide c.wire.ensures.value

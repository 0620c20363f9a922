use Rattle.gate_plan.proofs.HandledLemmas.{wide_wire}
use Rattle.gate_plan.proofs.statement.wire_handled.Goals as goal

pub returns-clause-wide : goal.returns-clause-wide
returns-clause-wide c =
    wide_wire c.args.circuit.now.statements c.place_handled.result c.wire.result c.wire.ensures.wide
    c.wire.ensures.value

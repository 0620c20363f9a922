use Rattle.gate_tasks.proofs.Operands.{word_there}
use Rattle.gate_tasks.proofs.operand.word_at.Goals as goal

pub unreachable-requires : goal.unreachable-requires
unreachable-requires c =
    word_there c.args.env.now.plan.now c.args.env.now.gate c.args.wires.now c.requires.plan c.requires.operands c.args.at _
    c.requires.word c.in_default.not-A

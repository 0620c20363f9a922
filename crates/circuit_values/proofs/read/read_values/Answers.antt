use Rattle.circuit_values.proofs.WidthLemmas.{if_read}
use Rattle.circuit_values.proofs.read.read_values.Goals as goal

pub returns-clause-widths : goal.returns-clause-widths
returns-clause-widths c = if_read c.args.inputs.now c.args.owner c.args.bytes.now c.read_for.result c.read_for.ensures.ok

use Rattle.bristol_reader.proofs.LastLemmas.{line_done}
use Rattle.bristol_reader.proofs.read.circuit_behind.Goals as goal

pub finished-requires : goal.finished-requires
finished-requires c = line_done c.args.stage c.in-Ok.done c.args.line.now c.in-Ok.ensures

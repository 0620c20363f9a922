use Rattle.std.proofs.Common.{arith}
use Rattle.frames.proofs.Spelling.{end_again}
use Rattle.frames.proofs.cut.frame_of.Goals as goal

pub returns-in_default : goal.returns-in_default
returns-in_default c = end_again c.args.body.now c.requires.some c.requires.kind (λ e. omega arith) (λ e. omega arith)

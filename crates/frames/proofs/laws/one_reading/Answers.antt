use Rattle.frames.proofs.Unique.{unique}
use Rattle.frames.proofs.laws.one_reading.Goals as goal

pub returns : goal.returns
returns c = unique

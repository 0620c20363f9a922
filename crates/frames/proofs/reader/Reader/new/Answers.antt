use Rattle.std.proofs.Common.{[]}
use Rattle.frames.proofs.Cuts.{stand_none}
use Rattle.frames.proofs.Heads.{partial_none}
use Rattle.frames.proofs.reader.Reader.new.Goals as goal

pub invariant_of-result : goal.invariant_of-result
invariant_of-result c = rw c.new.ensures.items partial_none

pub returns-clause-reads : goal.returns-clause-reads
returns-clause-reads c = rw c.new.ensures.items (stand_none [], partial_none)

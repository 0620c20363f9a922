use Rattle.std.proofs.Common.{arith}
use Rattle.frames.proofs.Heads.{held_small}
use Rattle.frames.proofs.reader.Reader.pending.Goals as goal

pub returns-clause-small : goal.returns-clause-small
returns-clause-small c = omega (arith, held_small c.self.inside.phase c.self.inside.held.items c.self.invariant)

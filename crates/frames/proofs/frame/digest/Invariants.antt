use Rattle.std.proofs.Common.{take}
use Rattle.sha2.specs.Hashers.{Holds256}
use Rattle.frames.specs.Bytes.{joined}
use Rattle.frames.proofs.frame.digest.Given as goal

abbrev pub invariant-loop-message : goal.invariant-loop-message
invariant-loop-message l = Holds256 l.hasher (joined (take l.message-index l.messages))

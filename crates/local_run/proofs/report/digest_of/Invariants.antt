use Rattle.std.proofs.Common.{take}
use Rattle.sha2.specs.Hashers.{Holds256}
use Rattle.frames.specs.Bytes.{joined}
use Rattle.local_run.specs.Report.{frames_of}
use Rattle.local_run.proofs.report.digest_of.Given as goal

abbrev pub invariant-loop-at : goal.invariant-loop-at
invariant-loop-at l = Holds256 l.hasher (joined (frames_of (take l.at l.loads) (take l.at l.sent)))

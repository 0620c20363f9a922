use Rattle.sha2.specs.Hashers.{Holds256}
use Rattle.frames.specs.Bytes.{joined}
use Rattle.party_engine.specs.Reporting.{frames_said}
use Rattle.party_engine.proofs.report.digest_of.Given as goal

abbrev pub invariant-loop-gate : goal.invariant-loop-gate
invariant-loop-gate l = Holds256 l.hasher (joined (frames_said l.brought.plan l.stages.said l.gate))

use Rattle.std.proofs.Common.{ℕ, List, ◌++◌}
use Rattle.sha2.specs.Hashers.{Holds256}
use Rattle.frames.specs.Bytes.{joined}
use Rattle.party_engine.specs.Reporting.{frames_at}
use Rattle.party_engine.proofs.report.add_gate.Given as goal

abbrev pub invariant-loop-round : goal.invariant-loop-round
invariant-loop-round l = (bytes : List ℕ) → Holds256 l.initial.hasher bytes → Holds256 l.hasher (bytes ++ joined (frames_at l.round l.outs))

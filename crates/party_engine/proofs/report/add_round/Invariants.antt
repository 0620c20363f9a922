use Rattle.std.proofs.Common.{ℕ, List, ◌++◌, take}
use Rattle.sha2.specs.Hashers.{Holds256}
use Rattle.frames.specs.Bytes.{joined}
use Rattle.party_engine.specs.Reporting.{frames_in}
use Rattle.party_engine.proofs.report.add_round.Given as goal

abbrev pub invariant-loop-out : goal.invariant-loop-out
invariant-loop-out l = (bytes : List ℕ) → Holds256 l.initial.hasher bytes → Holds256 l.hasher (bytes ++ joined (frames_in l.round (take l.out-index l.outs)))

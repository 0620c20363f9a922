use Rattle.std.proofs.Common.{◌≤◌, ◌+◌, length}
use Rattle.mot_base.specs.Limits.{most_file_bytes}
use Rattle.mixed_circuit.proofs.ReadLemmas.{ReadTo}
use Rattle.mixed_circuit.proofs.read.read_mixed.Given as goal

abbrev pub invariant-loop-line : goal.invariant-loop-line
invariant-loop-line l = ReadTo l.bytes l.stage l.number l.lines × (l.number + length l.lines ≤ most_file_bytes + 1)

abbrev pub decreases-loop-line : goal.decreases-loop-line
decreases-loop-line l = length l.lines

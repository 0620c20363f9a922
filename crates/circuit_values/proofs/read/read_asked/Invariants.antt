use Rattle.std.proofs.Common.{◌≡◌, ◌≤◌, ◌+◌, length}
use Rattle.mot_base.specs.Limits.{most_file_bytes}
use Rattle.circuit_values.proofs.ReadLemmas.{ReadTo}
use Rattle.circuit_values.proofs.read.read_asked.Given as goal

abbrev pub invariant-loop-line : goal.invariant-loop-line
invariant-loop-line l = ReadTo l.asked.inputs l.asked.owner l.bytes l.given l.number l.lines × (l.number + length l.lines ≤ most_file_bytes + 1) × (length l.given ≡ length l.asked.inputs)

abbrev pub decreases-loop-line : goal.decreases-loop-line
decreases-loop-line l = length l.lines

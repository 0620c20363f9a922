use Rattle.std.proofs.Common.{◌≤◌, ◌+◌, length}
use Rattle.bristol_reader.proofs.ReadLemmas.{ReadTo}
use Rattle.bristol_reader.proofs.read.read_bristol.Given as goal

abbrev pub invariant-loop-next : goal.invariant-loop-next
invariant-loop-next l = record {
  read : ReadTo l.bytes l.stage l.before l.line l.lines;
  few : l.before + length l.lines ≤ 67108864;
}

abbrev pub decreases-loop-next : goal.decreases-loop-next
decreases-loop-next l = length l.lines

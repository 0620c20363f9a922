use Rattle.std.proofs.Common.{◌≡◌, ◌++◌, [], take, slice_index_or}
use Rattle.bristol_reader.proofs.evaluate.push_value.Given as goal

abbrev pub invariant-loop-at : goal.invariant-loop-at
invariant-loop-at l = l.bits.items ≡ l.initial.bits.items ++ take l.at (slice_index_or l.values l.input [])

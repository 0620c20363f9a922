use Rattle.std.proofs.Common.{◌≡◌, ◌++◌, take}
use Rattle.bristol_reader.proofs.gates.push_all.Given as goal

abbrev pub invariant-loop-wire : goal.invariant-loop-wire
invariant-loop-wire l = l.row.items ≡ l.initial.row.items ++ take l.wire-index l.wires

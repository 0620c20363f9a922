use Rattle.std.proofs.Common.{◌≡◌, true, take}
use Rattle.std.specs.List.{list_all}
use Rattle.bristol_reader.specs.Circuit.{is_set}
use Rattle.bristol_reader.proofs.line.are_all_set.Given as goal

abbrev pub invariant-loop-wire : goal.invariant-loop-wire
invariant-loop-wire l = list_all (is_set l.builder.circuit) (take l.wire-index l.wires) ≡ true

use Rattle.std.proofs.Common.{◌≡◌, ◌≤◌, take}
use Rattle.std.specs.Prelude.{sum}
use Rattle.bristol_reader.proofs.widths.Widths.within.Given as goal

abbrev pub invariant-loop-number : goal.invariant-loop-number
invariant-loop-number l = record {
  kept : l.list.items ≡ take l.number-index l.numbers;
  total : l.total ≡ sum (take l.number-index l.numbers);
  few : l.total ≤ l.wires;
}

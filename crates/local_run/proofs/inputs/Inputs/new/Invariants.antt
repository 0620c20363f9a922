use Rattle.std.proofs.Common.{take}
use Rattle.local_run.proofs.Sorting.{IsSorted, AreLeft}
use Rattle.local_run.proofs.inputs.Inputs.new.Given as goal

abbrev pub invariant-loop-at : goal.invariant-loop-at
invariant-loop-at l =
    IsSorted l.wires l.carried l.payloads.items (take l.at l.fn.inputs.items)
    × AreLeft l.at l.fn.inputs.items l.inputs.items

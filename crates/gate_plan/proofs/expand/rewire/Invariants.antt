use Rattle.std.proofs.Common.{◌≡◌, length, take}
use Rattle.gate_plan.specs.Bristol.{output_wire, rewired}
use Rattle.gate_plan.proofs.expand.rewire.Given as goal

abbrev pub invariant-loop-out : goal.invariant-loop-out
invariant-loop-out l =
    (l.place ≡ l.out-index)
    × (length l.wires ≡ length l.initial.wires)
    × (l.wires ≡ rewired l.initial.wires (take l.out-index l.outs) (output_wire l.keys l.kind l.x l.first) 0)

use Rattle.library_bench.proofs.Rising.{AreBelow}
use Rattle.library_bench.proofs.messages.expected.Given as goal

abbrev pub invariant-loop-gate : goal.invariant-loop-gate
invariant-loop-gate l = AreBelow l.gate l.slots.items

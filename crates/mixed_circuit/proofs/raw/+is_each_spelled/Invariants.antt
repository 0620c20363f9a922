use Rattle.std.proofs.Common.{length}
use Rattle.mixed_circuit.proofs.raw.+is_each_spelled.Given as goal

abbrev pub decreases-is_each_spelled : goal.decreases-is_each_spelled
decreases-is_each_spelled l = length l.slots.now

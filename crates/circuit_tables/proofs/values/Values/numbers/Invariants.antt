use Rattle.std.proofs.Common.{◌≡◌, map, take}
use Rattle.share_types.specs.Bits as vector
use Rattle.circuit_tables.proofs.values.Values.numbers.Given as goal

abbrev pub invariant-loop-bits : goal.invariant-loop-bits
invariant-loop-bits l = l.numbers.items ≡ map vector.number (take l.bits-index l.self)

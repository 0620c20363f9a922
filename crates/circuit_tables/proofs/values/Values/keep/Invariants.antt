use Rattle.std.proofs.Common.{◌≡◌, take, map}
use Rattle.circuit_tables.specs.Values.{kept_of}
use Rattle.circuit_tables.proofs.values.Values.keep.Given as goal

abbrev pub invariant-loop-at : goal.invariant-loop-at
invariant-loop-at l = map (λ bits. bits.items) l.values.items ≡ kept_of (take l.at l.wanted) (take l.at l.self)

use Rattle.std.proofs.Common.{◌-◌}
use Rattle.std.specs.Prelude.{sum}
use Rattle.bristol_reader.proofs.TableLemmas.{ToldTo}
use Rattle.bristol_reader.proofs.telling.told.Given as goal

abbrev pub invariant-loop-at : goal.invariant-loop-at
invariant-loop-at l = ToldTo l.circuit.outputs l.bits (l.circuit.wires - sum l.circuit.outputs) l.outputs l.at-counter l.from

use Rattle.std.proofs.Common.{subst}
use Rattle.mixed_language.specs.Valid.{IsCircuit}
use Rattle.mixed_language.proofs.WidthLemmas.{inputs_narrow}
use Rattle.mixed_language.proofs.circuit.Mixed.input_numbers.Goals as goal

pub numbers-requires : goal.numbers-requires
numbers-requires c = inputs_narrow c.args.self.now (subst IsCircuit c.self.view_is c.self.invariant) c.args.values.now c.requires

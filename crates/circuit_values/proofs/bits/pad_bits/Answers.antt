use Rattle.std.proofs.Common.{◌∙◌, ap, arith}
use Rattle.share_types.specs.Bits.{number}
use Rattle.circuit_tables.proofs.BitLists.{number_zero, bits_of_all}
use Rattle.circuit_values.proofs.bits.pad_bits.Goals as goal

pub loop-bits-preserved : goal.loop-bits-preserved
loop-bits-preserved c = (ap number c.in_ok-push.ensures.items ∙ number_zero _ ∙ c.loop-bits.invariant.0, let count = c.in_ok-push.ensures.len in omega arith)

pub returns : goal.returns
returns c = bits_of_all _ _ _ (omega arith) c.loop-bits.invariant.0

use Rattle.share_types.proofs.BitsLemmas.{number-bits, bits-number, number-below}
use Rattle.share_types.proofs.laws.bits_are_numbers.Goals as goal

pub returns-clause-number : goal.returns-clause-number
returns-clause-number c = number-bits

pub returns-clause-bits : goal.returns-clause-bits
returns-clause-bits c = bits-number

pub returns-clause-below : goal.returns-clause-below
returns-clause-below c = number-below

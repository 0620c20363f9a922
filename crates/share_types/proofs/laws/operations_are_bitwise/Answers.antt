use Rattle.share_types.proofs.BitsLemmas.{number-xor, number-and, number-not, number-cut, number-append}
use Rattle.share_types.proofs.laws.operations_are_bitwise.Goals as goal

pub returns-clause-xor : goal.returns-clause-xor
returns-clause-xor c = number-xor

pub returns-clause-and : goal.returns-clause-and
returns-clause-and c = number-and

pub returns-clause-not : goal.returns-clause-not
returns-clause-not c = number-not

pub returns-clause-slice : goal.returns-clause-slice
returns-clause-slice c = number-cut

pub returns-clause-join : goal.returns-clause-join
returns-clause-join c = number-append

use Rattle.share_types.proofs.Parties.{total-each, xor_total-each}
use Rattle.share_types.proofs.laws.sums_are_by_party.Goals as goal

pub returns-clause-total : goal.returns-clause-total
returns-clause-total c = total-each

pub returns-clause-xor_total : goal.returns-clause-xor_total
returns-clause-xor_total c = xor_total-each

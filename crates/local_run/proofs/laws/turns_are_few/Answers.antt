use Rattle.std.proofs.Common.{length, arith}
use Rattle.local_run.proofs.Turning.{a_party_has_few_items, items_are_those_of_parties, turns_are_few}
use Rattle.local_run.proofs.Numbers.{few_items}
use Rattle.local_run.proofs.laws.turns_are_few.Goals as goal

pub returns-clause-party : goal.returns-clause-party
returns-clause-party c = a_party_has_few_items

pub returns-clause-all : goal.returns-clause-all
returns-clause-all c = items_are_those_of_parties

pub returns-clause-few : goal.returns-clause-few
returns-clause-few c = turns_are_few

pub returns-clause-limits : goal.returns-clause-limits
returns-clause-limits c = λ plan is. few_items plan (length plan.gates) is (omega arith)

use Rattle.std.proofs.Common.{rules}
use Rattle.base_tests.proofs.links.first_event.Goals as goal

pub take-requires-clause-open : goal.take-requires-clause-open
take-requires-clause-open c = (1, search rules, search rules)

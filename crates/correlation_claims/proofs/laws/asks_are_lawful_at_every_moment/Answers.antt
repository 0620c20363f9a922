use Rattle.correlation_claims.proofs.Apart.{rule_is_lawful, views_do_not_meet}
use Rattle.correlation_claims.proofs.laws.asks_are_lawful_at_every_moment.Goals as goal

pub returns-clause-lawful : goal.returns-clause-lawful
returns-clause-lawful c = rule_is_lawful

pub returns-clause-apart : goal.returns-clause-apart
returns-clause-apart c = views_do_not_meet

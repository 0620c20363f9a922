use Rattle.correlation_claims.proofs.Apart.{asks_do_not_meet, seats_do_not_meet}
use Rattle.correlation_claims.proofs.laws.lawful_asks_do_not_meet.Goals as goal

pub returns-clause-asks : goal.returns-clause-asks
returns-clause-asks c = asks_do_not_meet

pub returns-clause-seats : goal.returns-clause-seats
returns-clause-seats c = seats_do_not_meet

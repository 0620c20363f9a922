use Rattle.std.proofs.Common.{rules}
use Rattle.correlation_claims.proofs.Keeps.{joins}
use Rattle.correlation_claims.proofs.counter.Counter.take_in.Goals as goal

pub join_seat-requires : goal.join_seat-requires
join_seat-requires c = (search rules, search rules, search rules, search rules, joins _ _ _ _ _ c.requires.parts)

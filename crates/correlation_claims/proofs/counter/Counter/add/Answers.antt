use Rattle.std.proofs.Common.{rules}
use Rattle.correlation_claims.proofs.Keeps.{claims}
use Rattle.correlation_claims.proofs.counter.Counter.add.Goals as goal

pub fetch_add-requires : goal.fetch_add-requires
fetch_add-requires g c = (search rules, search rules, claims _ _ _ c.args.seat.now.me g.J.Asking.job c.from.result c.requires.parts c.requires.open (search rules) (search rules))

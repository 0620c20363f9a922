use Rattle.std.proofs.Common.{rules}
use Rattle.correlation_claims.proofs.Keeps.{splits}
use Rattle.correlation_claims.proofs.counter.Counter.part.Goals as goal

pub split_seat-requires : goal.split_seat-requires
split_seat-requires c = (search rules, search rules, splits _ _ _ c.requires.parts c.requires.chair.has_asks)

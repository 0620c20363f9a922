use Rattle.std.proofs.Common.{arith}
use Rattle.correlation_claims.proofs.Keeps.{closes}
use Rattle.correlation_claims.proofs.counter.Counter.close.Goals as goal

pub returns-then-word-from-clause-lawful : goal.returns-then-word-from-clause-lawful
returns-then-word-from-clause-lawful c = (closes _ _ _ _ _ _ c.close_with-closed.ensures.values.2 c.requires.has_parts c.word-word.ensures).0

pub returns-then-word-from-clause-count : goal.returns-then-word-from-clause-count
returns-then-word-from-clause-count c =
    let r = closes _ _ _ _ _ _ c.close_with-closed.ensures.values.2 c.requires.has_parts c.word-word.ensures in omega (arith, r.1)

pub returns-else-word-from-clause-lawful : goal.returns-else-word-from-clause-lawful
returns-else-word-from-clause-lawful c = (closes _ _ _ _ _ _ c.close_with-closed.ensures.values.2 c.requires.has_parts c.word-word.ensures).0

pub returns-else-word-from-clause-count : goal.returns-else-word-from-clause-count
returns-else-word-from-clause-count c =
    let r = closes _ _ _ _ _ _ c.close_with-closed.ensures.values.2 c.requires.has_parts c.word-word.ensures in omega (arith, r.1)

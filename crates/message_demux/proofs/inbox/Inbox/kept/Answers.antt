use Rattle.std.proofs.Common.{arith}
use Rattle.message_demux.proofs.Totals.{kept_most}
use Rattle.message_demux.proofs.inbox.Inbox.kept.Goals as goal

pub returns-clause-most : goal.returns-clause-most
returns-clause-most c =
    let most = kept_most c.self.inside.specs.items c.self.inside.payloads.items c.self.invariant.fit in
    rw (← c.self.view_is) (omega (arith, most, c.self.invariant.bytes))

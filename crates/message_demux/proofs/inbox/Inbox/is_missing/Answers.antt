use Rattle.std.proofs.Common.{◌≡◌, rules, ◌∙◌, is_none}
use Rattle.message_demux.proofs.Found.{missing_at}
use Rattle.message_demux.proofs.inbox.Inbox.is_missing.Goals as goal

pub returns-then-eq : goal.returns-then-eq
returns-then-eq c = λ d.
    let none : c.is_none-is_empty.result ≡ is_none c.index.result.now = search rules in
    none ∙ rw (← c.self.view_is) (missing_at c.self.inside.specs.items c.self.inside.payloads.items c.self.inside.bytes c.self.invariant c.args.place (rw (← c.self.view_is) at c.requires) c.args.peer.0 d c.index-2.result.now c.index.result.now c.index-2.ensures c.index.ensures (search rules))

use Rattle.std.proofs.Common.{sym, ◌∙◌}
use Rattle.message_demux.proofs.Keeping.{kept_absent}
use Rattle.message_demux.proofs.Found.{held, got_fits}
use Rattle.message_demux.proofs.inbox.Inbox.get.Goals as goal

pub returns-in_err-place-clause-is : goal.returns-in_err-place-clause-is
returns-in_err-place-clause-is c =
    let none = rw c.deref.ensures.value at c.in_err-place.ensures in
    rw (c.from_residual.ensures, ← c.self.view_is) (sym (kept_absent c.self.inside.specs.items c.self.inside.payloads.items c.args.slot none))

pub returns-clause-is : goal.returns-clause-is
returns-clause-is c =
    let at = rw c.deref.ensures.value at c.in_ok-place.ensures in
    let is = held c.self.inside.specs.items c.self.inside.payloads.items c.self.inside.bytes c.self.invariant c.args.slot c.in_ok-place.place at.0 at.1 c.index.result.now c.index.ensures in
    rw (← c.self.view_is) (c.as_ref.ensures.value ∙ sym is)

pub returns-clause-fits : goal.returns-clause-fits
returns-clause-fits c =
    let at = rw c.deref.ensures.value at c.in_ok-place.ensures in
    rw (← c.self.view_is) (got_fits c.self.inside.specs.items c.self.inside.payloads.items c.self.inside.bytes c.self.invariant c.args.slot c.in_ok-place.place at.0 at.1 c.index.result.now c.index.ensures c.as_ref.result c.as_ref.ensures.value)

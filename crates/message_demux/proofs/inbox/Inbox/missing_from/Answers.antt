use Rattle.std.proofs.Common.{◌∙◌, sym}
use Rattle.message_demux.specs.Inbox.{is_missing}
use Rattle.message_demux.proofs.Found.{missing_more}
use Rattle.message_demux.proofs.inbox.Inbox.missing_from.Goals as goal

pub loop-place-preserved : goal.loop-place-preserved
loop-place-preserved c = (
  c.loop-place.invariant.0,
  c.loop-place.invariant.1
      ∙ missing_more (is_missing c.args.self.now c.args.peer.0) c.args.self.now.slots c.loop-place.place (rw c.loop-place.invariant.0 at c.loop-place-test.true) (λ d. sym (c.is_missing.ensures d) ∙ c.if-is_missing.false),
)

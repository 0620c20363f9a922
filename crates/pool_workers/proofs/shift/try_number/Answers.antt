use Rattle.std.proofs.Common.{subst}
use Rattle.pool_workers.specs.Steps.{Tried}
use Rattle.pool_workers.proofs.Pools.{did_ran, did_more}
use Rattle.pool_workers.proofs.shift.try_number.Goals as goal

pub returns-in_ok-push-clause-ran : goal.returns-in_ok-push-clause-ran
returns-in_ok-push-clause-ran g c =
    let tried = subst (λ b. Tried b c.args.item c.args.worker.now.me.0 c.try_item.new.worker.me.0) c.if-did.true c.in_ok-did.ensures.took in
    did_ran c.args.item c.args.worker.now.me.0 c.try_item.new.worker.me.0 c.args.ran.now.items c.push.new.self.items tried c.in_ok-push.ensures.items

pub returns-in_ok-push-clause-more : goal.returns-in_ok-push-clause-more
returns-in_ok-push-clause-more g c = did_more c.in_ok-did.did c.args.item c.args.worker.now.me.0 c.try_item.new.worker.me.0 c.in_ok-did.ensures.took

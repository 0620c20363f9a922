use Rattle.std.proofs.Common.{subst}
use Rattle.gate_tasks.specs.Stage.{AreAwaited}
use Rattle.gate_tasks.proofs.Running.{not_keyed, last_silent, last_hears}
use Rattle.gate_tasks.proofs.stage.last_value.Goals as goal

pub own_value-requires-clause-silent : goal.own_value-requires-clause-silent
own_value-requires-clause-silent c =
    let env = c.args.env.now in
    last_silent env.plan.now env.own.now.me.0 env.gate c.requires.plan c.requires.serves.unkeyed c.requires.serves.there c.requires.me c.args.stage c.requires.last c.if-stage-eq0.true

pub own_value-requires-clause-unkeyed : goal.own_value-requires-clause-unkeyed
own_value-requires-clause-unkeyed c =
    let env = c.args.env.now in
    not_keyed env.plan.now env.gate c.requires.serves.unkeyed

pub heard_value-requires-clause-hears : goal.heard_value-requires-clause-hears
heard_value-requires-clause-hears c =
    let env = c.args.env.now in
    (last_hears env.plan.now env.own.now.me.0 env.gate c.requires.plan c.requires.serves.unkeyed c.requires.serves.there c.requires.me c.args.stage c.requires.last c.if-stage-eq0.false).0

pub heard_value-requires-clause-payloads : goal.heard_value-requires-clause-payloads
heard_value-requires-clause-payloads c =
    let env = c.args.env.now in
    let waits = last_hears env.plan.now env.own.now.me.0 env.gate c.requires.plan c.requires.serves.unkeyed c.requires.serves.there c.requires.me c.args.stage c.requires.last c.if-stage-eq0.false in
    subst (λ o. AreAwaited env.plan.now env.own.now.me.0 env.gate o c.args.payloads.now) waits.1 c.requires.payloads

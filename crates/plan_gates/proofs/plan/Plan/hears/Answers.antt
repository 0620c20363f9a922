use Rattle.std.proofs.Common.{◌≡◌, ◌<◌, true, sym, ◌∙◌, ap, arith}
use Rattle.std.specs.Prelude.{is_some}
use Rattle.plan_gates.specs.Messages.{message}
use Rattle.plan_gates.proofs.MessageLemmas.{any_here}
use Rattle.plan_gates.proofs.plan.Plan.hears.Goals as goal

pub returns-then-is_some : goal.returns-then-is_some
returns-then-is_some c =
    let plan = c.args.self.now in
    let parties = c.parties-from-end.ensures.value in
    let within : c.loop-from.from < plan.parties = let test = c.loop-from-test.true in omega arith in
    let some : is_some (message plan c.loop-from.from c.args.party.0 c.args.gate c.args.round) ≡ true =
    ap is_some (sym c.message.ensures) ∙ (sym c.is_some.ensures ∙ c.if-is_some.true) in
    sym (any_here (λ from. is_some (message plan from c.args.party.0 c.args.gate c.args.round)) plan.parties c.loop-from.from within some)

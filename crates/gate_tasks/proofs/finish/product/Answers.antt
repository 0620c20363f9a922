use Rattle.std.proofs.Common.{arith}
use Rattle.gate_tasks.proofs.Operands.{product_is}
use Rattle.gate_tasks.proofs.Fitting.{words_inside}
use Rattle.gate_tasks.proofs.finish.product.Goals as goal

pub opened_word-d-requires : goal.opened_word-d-requires
opened_word-d-requires c =
    let env = c.args.env.now in
    let (kind, is, count) = product_is _ c.requires.kind in
    words_inside env.plan.now env.own.now.me.0 env.gate c.args.payloads.now c.requires.payloads kind 0 is (omega (arith, count))

pub opened_word-e-requires : goal.opened_word-e-requires
opened_word-e-requires c =
    let env = c.args.env.now in
    let (kind, is, count) = product_is _ c.requires.kind in
    words_inside env.plan.now env.own.now.me.0 env.gate c.args.payloads.now c.requires.payloads kind 1 is (omega (arith, count))

use Rattle.std.proofs.Common.{◌≡◌, ◌≤◌, subst, ap, arith}
use Rattle.plan_gates.specs.Needs.{offset}
use Rattle.mot_base.specs.Limits.{most_width}
use Rattle.gate_tasks.proofs.Operands.{has_bits, its_width}
use Rattle.gate_tasks.proofs.operand.bit_triple.Goals as goal

pub overflow_add-first : goal.overflow_add-first
overflow_add-first c =
    let env = c.args.env.now in
    let has = has_bits env.plan.now env.own.now env.part.now env.gate c.requires.plan c.requires.serves c.requires.conjunction in
    let there = has.there in
    let few = c.is_part.ensures.bit in
    let at : c.offset.result.bit ≡ (offset env.plan.now env.gate).bit = ap (λ n. n.bit) c.offset.ensures in
    omega (arith, there, few, at)

pub bits-requires-clause-some : goal.bits-requires-clause-some
bits-requires-clause-some c =
    let env = c.args.env.now in
    let has = has_bits env.plan.now env.own.now env.part.now env.gate c.requires.plan c.requires.serves c.requires.conjunction in
    subst (λ w. 1 ≤ w) (its_width env.plan.now.gates env.gate c.width.result c.width.ensures) has.some

pub bits-requires-clause-most : goal.bits-requires-clause-most
bits-requires-clause-most c =
    let env = c.args.env.now in
    let has = has_bits env.plan.now env.own.now env.part.now env.gate c.requires.plan c.requires.serves c.requires.conjunction in
    subst (λ w. w ≤ most_width) (its_width env.plan.now.gates env.gate c.width.result c.width.ensures) has.most

pub bits-requires-clause-inside : goal.bits-requires-clause-inside
bits-requires-clause-inside c =
    let env = c.args.env.now in
    let has = has_bits env.plan.now env.own.now env.part.now env.gate c.requires.plan c.requires.serves c.requires.conjunction in
    let there = has.there in
    let at : c.offset.result.bit ≡ (offset env.plan.now env.gate).bit = ap (λ n. n.bit) c.offset.ensures in
    let wide = its_width env.plan.now.gates env.gate c.width.result c.width.ensures in
    omega (arith, there, at, wide)

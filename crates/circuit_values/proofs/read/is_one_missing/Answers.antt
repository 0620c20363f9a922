use Rattle.std.proofs.Common.{◌<◌, length, sym, ◌∙◌, arith}
use Rattle.circuit_values.proofs.ReadLemmas.{here_passed, here_missing}
use Rattle.circuit_values.proofs.read.is_one_missing.Goals as goal

pub returns-then-is_missing_at : goal.returns-then-is_missing_at
returns-then-is_missing_at c =
    let within : c.loop-at.at < length c.args.asked.now.inputs = omega arith in
    sym (sym c.loop-at.invariant ∙ here_missing c.args.asked.now.owner c.args.asked.now.inputs c.args.given.now c.loop-at.at c.is_missing_at.result within c.requires c.is_missing_at.ensures c.if-is_missing_at.true)

pub loop-at-preserved : goal.loop-at-preserved
loop-at-preserved c =
    let within : c.loop-at.at < length c.args.asked.now.inputs = omega arith in
    here_passed c.args.asked.now.owner c.args.asked.now.inputs c.args.given.now c.loop-at.at c.is_missing_at.result within c.requires c.is_missing_at.ensures c.if-is_missing_at.false ∙ c.loop-at.invariant

use Rattle.std.proofs.Common.{refl, sym, ◌∙◌, ap, arith}
use Rattle.std.proofs.lemmas.Bool.{eqb-true}
use Rattle.plan_gates.specs.Gate.{InA, InB}
use Rattle.gate_tasks.specs.ByValue.{is_owned}
use Rattle.gate_tasks.proofs.Operands.{input_there, word_given}
use Rattle.gate_tasks.proofs.stage.input_stage.Goals as goal

pub give_word-requires-clause-input : goal.give_word-requires-clause-input
give_word-requires-clause-input c =
    let env = c.args.env.now in
    let kind = InA c.in-InA.party.0 c.in-InA.k in
    let mine = eqb-true c.in-InA.party.0 env.own.now.me.0 (sym (ap (λ o. is_owned o env.own.now.me.0) c.in-InA.ensures.kind) ∙ c.requires.owned) in
    let there = input_there env.plan.now env.own.now env.part.now env.gate kind (record { party = c.in-InA.party.0; k = c.in-InA.k }) c.requires.serves c.in-InA.ensures.kind refl mine in
    let wide = word_given env.plan.now env.gate kind c.requires.plan c.in-InA.ensures.kind refl in
    omega (arith, wide, there)

pub give_vector-requires-clause-input : goal.give_vector-requires-clause-input
give_vector-requires-clause-input c =
    let env = c.args.env.now in
    let kind = InB c.in-InB.party.0 c.in-InB.k c.in-InB.at in
    let mine = eqb-true c.in-InB.party.0 env.own.now.me.0 (sym (ap (λ o. is_owned o env.own.now.me.0) c.in-InB.ensures.kind) ∙ c.requires.owned) in
    input_there env.plan.now env.own.now env.part.now env.gate kind (record { party = c.in-InB.party.0; k = c.in-InB.k }) c.requires.serves c.in-InB.ensures.kind refl mine

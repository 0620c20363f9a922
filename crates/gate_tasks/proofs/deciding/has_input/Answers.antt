use Rattle.std.proofs.Common.{sym, ◌∙◌, refl}
use Rattle.std.specs.Prelude.{slice_get}
use Rattle.std.proofs.lemmas.Bool.{eqb-true}
use Rattle.plan_gates.specs.Gate.{InA, InB, InOnline}
use Rattle.gate_tasks.proofs.Decided.{not_false, input_is}
use Rattle.gate_tasks.proofs.deciding.has_input.Goals as goal

pub returns-else-ne : goal.returns-else-ne
returns-else-ne c =
    let mine = eqb-true c.in-InA.owner.0 c.args.party.0 (not_false _ (sym c.ne.ensures ∙ c.if-ne.false)) in
    let is = input_is (slice_get c.args.plan.now.gates c.args.gate) (InA c.in-InA.owner.0 c.in-InA.k) c.width.result c.args.party.0 c.args.own.now.inputs
    (record { party = c.in-InA.owner.0; k = c.in-InA.k }) c.in-InA.ensures.kind c.width.ensures refl mine in
    (λ e. is.0 (c.has_bits.ensures.0 e), λ all. c.has_bits.ensures.1 (is.1 all))

pub returns-else-ne-2 : goal.returns-else-ne-2
returns-else-ne-2 c =
    let mine = eqb-true c.in-InB.owner.0 c.args.party.0 (not_false _ (sym c.ne-in-InB.ensures ∙ c.if-ne-2.false)) in
    let is = input_is (slice_get c.args.plan.now.gates c.args.gate) (InB c.in-InB.owner.0 c.in-InB.k c.in-InB.at) c.in-InB.width c.args.party.0 c.args.own.now.inputs
    (record { party = c.in-InB.owner.0; k = c.in-InB.k }) c.in-InB.ensures.kind c.in-InB.ensures.width refl mine in
    (λ e. is.0 (c.has_bits-else-ne-2.ensures.0 e), λ all. c.has_bits-else-ne-2.ensures.1 (is.1 all))

pub returns-else-ne-3 : goal.returns-else-ne-3
returns-else-ne-3 c =
    let mine = eqb-true c.in-InOnline.owner.0 c.args.party.0 (not_false _ (sym c.ne-in-InOnline.ensures ∙ c.if-ne-3.false)) in
    let is = input_is (slice_get c.args.plan.now.gates c.args.gate) (InOnline c.in-InOnline.owner.0 c.in-InOnline.k c.in-InOnline.at c.in-InOnline.m) c.width-else-ne-3.result c.args.party.0 c.args.own.now.inputs
    (record { party = c.in-InOnline.owner.0; k = c.in-InOnline.k }) c.in-InOnline.ensures.kind c.width-else-ne-3.ensures refl mine in
    (λ e. is.0 (c.has_bits-else-ne-3.ensures.0 e), λ all. c.has_bits-else-ne-3.ensures.1 (is.1 all))

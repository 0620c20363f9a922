use Rattle.std.proofs.Common.{◌≡◌, ◌<◌, ◌≤◌, ◌+◌, ◌*◌, ◌^◌, length, refl, subst, sym, ◌∙◌, ap, ap₂, arith, cond, [], get_or}
use Rattle.std.specs.Prelude.{All, ◌==◌}
use Rattle.message_demux.specs.Slots.{vector_bytes}
use Rattle.plan_gates.specs.Gate.{InA, InB, OutA, OutB, width_at, word}
use Rattle.mot_base.specs.Limits.{most_width}
use Rattle.joint_run.specs.Party.{Payload, WordShare, VectorShare, kept_word, kept_vector, width}
use Rattle.joint_run.specs.Payload.{word_in, vector_in}
use Rattle.gate_tasks.specs.ByValue.{keeps_width, hears_at, stand, kind_in, gives_of, IsGiven, value_of_stage}
use Rattle.gate_tasks.proofs.Operands.{wide_at, its_width, word_width}
use Rattle.gate_tasks.proofs.Fitting.{words_inside, vectors_inside, vectors_small, input_alone, one_payload, first_is}
use Rattle.gate_tasks.proofs.finish.heard_value.Goals as goal
use Rattle.mot_base.proofs.Lists.{not_true as not_own}

pub bounds-payloads-0 : goal.bounds-payloads-0
bounds-payloads-0 c =
    let env = c.args.env.now in
    let kind = InA c.in-InA.party.0 c.in-InA.k in
    let apart = not_own (c.in-InA.party.0 == env.own.now.me.0) (sym (ap (λ o. hears_at o env.own.now.me.0) c.in-InA.ensures.kind) ∙ c.requires.hears) in
    let alone = input_alone env.plan.now env.own.now.me.0 env.gate kind c.in-InA.party.0 c.requires.plan c.in-InA.ensures.kind (λ q. refl) refl c.requires.me apart in
    let one = one_payload env.plan.now env.own.now.me.0 env.gate c.in-InA.party.0 c.args.payloads.now c.requires.payloads alone in
    omega (arith, one)

pub word_in-requires : goal.word_in-requires
word_in-requires c =
    let env = c.args.env.now in
    let kind = InA c.in-InA.party.0 c.in-InA.k in
    let apart = not_own (c.in-InA.party.0 == env.own.now.me.0) (sym (ap (λ o. hears_at o env.own.now.me.0) c.in-InA.ensures.kind) ∙ c.requires.hears) in
    let alone = input_alone env.plan.now env.own.now.me.0 env.gate kind c.in-InA.party.0 c.requires.plan c.in-InA.ensures.kind (λ q. refl) refl c.requires.me apart in
    let one = one_payload env.plan.now env.own.now.me.0 env.gate c.in-InA.party.0 c.args.payloads.now c.requires.payloads alone in
    let all = words_inside env.plan.now env.own.now.me.0 env.gate c.args.payloads.now c.requires.payloads kind 0 c.in-InA.ensures.kind (omega arith) in
    subst (λ (p : Payload). 8 ≤ length p) (sym c.index-payloads-0.is) (all 0 _ (omega (arith, one)))

pub returns-in-InA-clause-value : goal.returns-in-InA-clause-value
returns-in-InA-clause-value c =
    let env = c.args.env.now in
    let kind = InA c.in-InA.party.0 c.in-InA.k in
    let apart = not_own (c.in-InA.party.0 == env.own.now.me.0) (sym (ap (λ o. hears_at o env.own.now.me.0) c.in-InA.ensures.kind) ∙ c.requires.hears) in
    let alone = input_alone env.plan.now env.own.now.me.0 env.gate kind c.in-InA.party.0 c.requires.plan c.in-InA.ensures.kind (λ q. refl) refl c.requires.me apart in
    let one = one_payload env.plan.now env.own.now.me.0 env.gate c.in-InA.party.0 c.args.payloads.now c.requires.payloads alone in
    let h = stand env in
    let payloads = c.args.payloads.now in
    let first = first_is payloads c.index-payloads-0.result (omega (arith, one)) c.index-payloads-0.is in
    let read : c.word_in.result ≡ word_in (get_or payloads 0 []) 0 = c.word_in.ensures ∙ ap (λ (p : Payload). word_in p 0) first in
    ap WordShare (read ∙ sym (ap (λ b. cond b (kept_word h c.in-InA.k) (word_in (get_or payloads 0 []) 0)) apart))
    ∙ sym (ap (λ o. value_of_stage o h c.args.wires.now payloads) c.in-InA.ensures.kind)

pub bounds-payloads-0-in-InB : goal.bounds-payloads-0-in-InB
bounds-payloads-0-in-InB c =
    let env = c.args.env.now in
    let kind = InB c.in-InB.party.0 c.in-InB.k c.in-InB.at in
    let apart = not_own (c.in-InB.party.0 == env.own.now.me.0) (sym (ap (λ o. hears_at o env.own.now.me.0) c.in-InB.ensures.kind) ∙ c.requires.hears) in
    let alone = input_alone env.plan.now env.own.now.me.0 env.gate kind c.in-InB.party.0 c.requires.plan c.in-InB.ensures.kind (λ q. refl) refl c.requires.me apart in
    let one = one_payload env.plan.now env.own.now.me.0 env.gate c.in-InB.party.0 c.args.payloads.now c.requires.payloads alone in
    omega (arith, one)

pub vector_heard-requires-clause-some : goal.vector_heard-requires-clause-some
vector_heard-requires-clause-some c =
    let env = c.args.env.now in
    let wide = wide_at env.plan.now env.gate (InB c.in-InB.party.0 c.in-InB.k c.in-InB.at) c.requires.plan c.in-InB.ensures.kind in
    subst (λ w. 1 ≤ w) (its_width env.plan.now.gates env.gate c.in-InB.width c.in-InB.ensures.width) wide.0

pub vector_heard-requires-clause-most : goal.vector_heard-requires-clause-most
vector_heard-requires-clause-most c =
    let env = c.args.env.now in
    let wide = wide_at env.plan.now env.gate (InB c.in-InB.party.0 c.in-InB.k c.in-InB.at) c.requires.plan c.in-InB.ensures.kind in
    subst (λ w. w ≤ most_width) (its_width env.plan.now.gates env.gate c.in-InB.width c.in-InB.ensures.width) wide.1

pub vector_heard-requires-clause-inside : goal.vector_heard-requires-clause-inside
vector_heard-requires-clause-inside c =
    let env = c.args.env.now in
    let kind = InB c.in-InB.party.0 c.in-InB.k c.in-InB.at in
    let apart = not_own (c.in-InB.party.0 == env.own.now.me.0) (sym (ap (λ o. hears_at o env.own.now.me.0) c.in-InB.ensures.kind) ∙ c.requires.hears) in
    let alone = input_alone env.plan.now env.own.now.me.0 env.gate kind c.in-InB.party.0 c.requires.plan c.in-InB.ensures.kind (λ q. refl) refl c.requires.me apart in
    let one = one_payload env.plan.now env.own.now.me.0 env.gate c.in-InB.party.0 c.args.payloads.now c.requires.payloads alone in
    let wide = its_width env.plan.now.gates env.gate c.in-InB.width c.in-InB.ensures.width in
    let all = vectors_inside env.plan.now env.own.now.me.0 env.gate c.args.payloads.now c.requires.payloads kind 0 c.in-InB.ensures.kind (omega arith) in
    subst (λ w. vector_bytes w * 0 + vector_bytes w ≤ length c.index-payloads-0-in-InB.result) wide
    (subst (λ (p : Payload). vector_bytes (width_at env.plan.now.gates env.gate) * 0 + vector_bytes (width_at env.plan.now.gates env.gate) ≤ length p) (sym c.index-payloads-0-in-InB.is) (all 0 _ (omega (arith, one))))

pub vector_heard-requires-clause-small : goal.vector_heard-requires-clause-small
vector_heard-requires-clause-small c =
    let env = c.args.env.now in
    let kind = InB c.in-InB.party.0 c.in-InB.k c.in-InB.at in
    let apart = not_own (c.in-InB.party.0 == env.own.now.me.0) (sym (ap (λ o. hears_at o env.own.now.me.0) c.in-InB.ensures.kind) ∙ c.requires.hears) in
    let alone = input_alone env.plan.now env.own.now.me.0 env.gate kind c.in-InB.party.0 c.requires.plan c.in-InB.ensures.kind (λ q. refl) refl c.requires.me apart in
    let one = one_payload env.plan.now env.own.now.me.0 env.gate c.in-InB.party.0 c.args.payloads.now c.requires.payloads alone in
    let wide = its_width env.plan.now.gates env.gate c.in-InB.width c.in-InB.ensures.width in
    let all = vectors_small env.plan.now env.own.now.me.0 env.gate c.args.payloads.now c.requires.payloads kind 0 c.in-InB.ensures.kind (omega arith) in
    subst (λ w. vector_in w c.index-payloads-0-in-InB.result 0 < 2 ^ w) wide
    (subst (λ (p : Payload). vector_in (width_at env.plan.now.gates env.gate) p 0 < 2 ^ width_at env.plan.now.gates env.gate) (sym c.index-payloads-0-in-InB.is) (all 0 _ (omega (arith, one))))

pub returns-in-InB-clause-value : goal.returns-in-InB-clause-value
returns-in-InB-clause-value c =
    let env = c.args.env.now in
    let kind = InB c.in-InB.party.0 c.in-InB.k c.in-InB.at in
    let apart = not_own (c.in-InB.party.0 == env.own.now.me.0) (sym (ap (λ o. hears_at o env.own.now.me.0) c.in-InB.ensures.kind) ∙ c.requires.hears) in
    let alone = input_alone env.plan.now env.own.now.me.0 env.gate kind c.in-InB.party.0 c.requires.plan c.in-InB.ensures.kind (λ q. refl) refl c.requires.me apart in
    let one = one_payload env.plan.now env.own.now.me.0 env.gate c.in-InB.party.0 c.args.payloads.now c.requires.payloads alone in
    let wide = its_width env.plan.now.gates env.gate c.in-InB.width c.in-InB.ensures.width in
    let h = stand env in
    let payloads = c.args.payloads.now in
    let first = first_is payloads c.index-payloads-0-in-InB.result (omega (arith, one)) c.index-payloads-0-in-InB.is in
    let read : c.vector_heard.result.word ≡ vector_in (width h) (get_or payloads 0 []) 0 =
    c.vector_heard.ensures.word ∙ ap₂ (λ w (p : Payload). vector_in w p 0) (sym wide) first in
    ap VectorShare (read ∙ sym (ap (λ b. cond b (kept_vector h c.in-InB.k c.in-InB.at) (vector_in (width h) (get_or payloads 0 []) 0)) apart))
    ∙ sym (ap (λ o. value_of_stage o h c.args.wires.now payloads) c.in-InB.ensures.kind)

pub opened_word-requires : goal.opened_word-requires
opened_word-requires c =
    let env = c.args.env.now in
    words_inside env.plan.now env.own.now.me.0 env.gate c.args.payloads.now c.requires.payloads (OutA c.in-OutA.x c.in-OutA.to) 0 c.in-OutA.ensures.kind (omega arith)

pub returns-in-OutA-clause-typed : goal.returns-in-OutA-clause-typed
returns-in-OutA-clause-typed c =
    let env = c.args.env.now in
    let kind = OutA c.in-OutA.x c.in-OutA.to in
    let wide = word_width env.plan.now env.gate kind (word c.in-OutA.x) c.requires.plan c.in-OutA.ensures.kind refl refl refl in
    subst (λ w. IsGiven (gives_of (kind_in env)) w c.told_word.result) (sym wide)
    (c.told_word.ensures.typed (gives_of (kind_in env)) (ap gives_of c.in-OutA.ensures.kind))

pub opened_vector-requires-clause-inside : goal.opened_vector-requires-clause-inside
opened_vector-requires-clause-inside c =
    let env = c.args.env.now in
    let kind = OutB c.in-OutB.x c.in-OutB.to in
    let wide = c.vector_at.ensures.same_width (ap keeps_width c.in-OutB.ensures.kind) in
    subst (λ w. All (λ payload. vector_bytes w * 0 + vector_bytes w ≤ length payload) c.args.payloads.now) (sym wide)
    (vectors_inside env.plan.now env.own.now.me.0 env.gate c.args.payloads.now c.requires.payloads kind 0 c.in-OutB.ensures.kind (omega arith))

pub opened_vector-requires-clause-small : goal.opened_vector-requires-clause-small
opened_vector-requires-clause-small c =
    let env = c.args.env.now in
    let kind = OutB c.in-OutB.x c.in-OutB.to in
    let wide = c.vector_at.ensures.same_width (ap keeps_width c.in-OutB.ensures.kind) in
    subst (λ w. All (λ payload. vector_in w payload 0 < 2 ^ w) c.args.payloads.now) (sym wide)
    (vectors_small env.plan.now env.own.now.me.0 env.gate c.args.payloads.now c.requires.payloads kind 0 c.in-OutB.ensures.kind (omega arith))

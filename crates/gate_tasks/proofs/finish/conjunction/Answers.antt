use Rattle.std.proofs.Common.{◌<◌, ◌≤◌, ◌+◌, ◌*◌, ◌^◌, length, subst, sym, ◌∙◌, arith}
use Rattle.std.specs.Prelude.{All}
use Rattle.message_demux.specs.Slots.{vector_bytes}
use Rattle.joint_run.specs.Payload.{vector_in}
use Rattle.gate_tasks.proofs.Operands.{conjunction_is}
use Rattle.gate_tasks.proofs.Fitting.{vectors_inside, vectors_small}
use Rattle.gate_tasks.proofs.finish.conjunction.Goals as goal

pub opened_vector-d-requires-clause-inside : goal.opened_vector-d-requires-clause-inside
opened_vector-d-requires-clause-inside c =
    let env = c.args.env.now in
    let (kind, is, count, keeps) = conjunction_is _ c.requires.kind in
    let wide = c.and_open.ensures.left_width ∙ c.vector_at.ensures.same_width keeps in
    subst (λ w. All (λ payload. vector_bytes w * 0 + vector_bytes w ≤ length payload) c.args.payloads.now) (sym wide)
    (vectors_inside env.plan.now env.own.now.me.0 env.gate c.args.payloads.now c.requires.payloads kind 0 is (omega (arith, count)))

pub opened_vector-d-requires-clause-small : goal.opened_vector-d-requires-clause-small
opened_vector-d-requires-clause-small c =
    let env = c.args.env.now in
    let (kind, is, count, keeps) = conjunction_is _ c.requires.kind in
    let wide = c.and_open.ensures.left_width ∙ c.vector_at.ensures.same_width keeps in
    subst (λ w. All (λ payload. vector_in w payload 0 < 2 ^ w) c.args.payloads.now) (sym wide)
    (vectors_small env.plan.now env.own.now.me.0 env.gate c.args.payloads.now c.requires.payloads kind 0 is (omega (arith, count)))

pub opened_vector-e-requires-clause-inside : goal.opened_vector-e-requires-clause-inside
opened_vector-e-requires-clause-inside c =
    let env = c.args.env.now in
    let (kind, is, count, keeps) = conjunction_is _ c.requires.kind in
    let wide = c.and_open.ensures.right_width ∙ c.vector_at.ensures.same_width keeps in
    subst (λ w. All (λ payload. vector_bytes w * 1 + vector_bytes w ≤ length payload) c.args.payloads.now) (sym wide)
    (vectors_inside env.plan.now env.own.now.me.0 env.gate c.args.payloads.now c.requires.payloads kind 1 is (omega (arith, count)))

pub opened_vector-e-requires-clause-small : goal.opened_vector-e-requires-clause-small
opened_vector-e-requires-clause-small c =
    let env = c.args.env.now in
    let (kind, is, count, keeps) = conjunction_is _ c.requires.kind in
    let wide = c.and_open.ensures.right_width ∙ c.vector_at.ensures.same_width keeps in
    subst (λ w. All (λ payload. vector_in w payload 1 < 2 ^ w) c.args.payloads.now) (sym wide)
    (vectors_small env.plan.now env.own.now.me.0 env.gate c.args.payloads.now c.requires.payloads kind 1 is (omega (arith, count)))

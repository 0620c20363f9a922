use Rattle.std.proofs.Common.{ℕ, ◌≡◌, Bool, true, List, ◌++◌, filter, sym, ◌∙◌, ap, append_assoc}
use Rattle.std.specs.Prelude.{◌==◌}
use Rattle.std.proofs.lemmas.Bool.{eq-eqb}
use Rattle.share_types.specs.Sums.{each}
use Rattle.plan_gates.specs.Messages.{sent_in}
use Rattle.joint_run.specs.Party.{Payload}
use Rattle.gate_tasks.specs.ByValue.{kind_in, stand, formed_of}
use Rattle.gate_tasks.specs.Sending.{first_payload, round_outs, kept_for}
use Rattle.gate_tasks.specs.declared.outgoing.Out.{Out}
use Rattle.gate_tasks.proofs.Gathered.{gathered_more}
use Rattle.gate_tasks.proofs.sending.stage_outs.Goals as goal

pub loop-round-preserved : goal.loop-round-preserved
loop-round-preserved c =
    let env = c.args.env.now in
    let round = c.loop-round.round in
    let formed : ℕ → Payload = formed_of (kind_in env) (stand env) c.args.wires.now in
    let test : ℕ → Bool = λ r. sent_in env.plan.now env.own.now.me.0 env.gate r == c.args.stage in
    let first : ℕ → List Payload = λ r. first_payload (round_outs env formed r) in
    let sent : test round ≡ true = eq-eqb (sent_in env.plan.now env.own.now.me.0 env.gate round) c.args.stage (sym c.sent_in.ensures.value ∙ c.if-sent_in-stage.false) in (
      c.in_ok-push_round.ensures.outs
          ∙ (ap (λ (xs : List Out). xs ++ round_outs env formed round) c.loop-round.invariant.0
          ∙ sym (gathered_more (round_outs env formed) test round sent)),
      c.in_ok-push_round.ensures.kept
          ∙ (ap (λ (ps : List Payload). ps ++ first round) c.loop-round.invariant.1
          ∙ (append_assoc c.args.kept.now.items (kept_for env formed (filter test (each round (λ r. r)))) (first round)
          ∙ ap (λ (ps : List Payload). c.args.kept.now.items ++ ps) (sym (gathered_more first test round sent)))),
    )

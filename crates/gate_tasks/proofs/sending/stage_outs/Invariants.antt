use Rattle.std.proofs.Common.{◌≡◌, ◌++◌, filter}
use Rattle.std.specs.Prelude.{◌==◌}
use Rattle.share_types.specs.Sums.{each}
use Rattle.plan_gates.specs.Messages.{sent_in}
use Rattle.gate_tasks.specs.ByValue.{kind_in, stand, formed_of}
use Rattle.gate_tasks.specs.Sending.{outs_for, kept_for}
use Rattle.gate_tasks.proofs.sending.stage_outs.Given as goal

abbrev pub invariant-loop-round : goal.invariant-loop-round
invariant-loop-round l =
    let rounds = filter (λ r. sent_in l.env.plan.now l.env.own.now.me.0 l.env.gate r == l.stage) (each l.round (λ r. r)) in
    (l.outs.items ≡ outs_for l.env (formed_of (kind_in l.env) (stand l.env) l.wires) rounds)
    × (l.kept.items ≡ l.initial.kept.items ++ kept_for l.env (formed_of (kind_in l.env) (stand l.env) l.wires) rounds)

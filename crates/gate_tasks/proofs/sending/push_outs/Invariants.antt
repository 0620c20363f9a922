use Rattle.std.proofs.Common.{◌≡◌, ◌++◌, map, filter}
use Rattle.std.specs.Prelude.{is_some}
use Rattle.share_types.specs.Sums.{each}
use Rattle.plan_gates.specs.Messages.{message}
use Rattle.gate_tasks.specs.Sending.{out_by, payload_for}
use Rattle.gate_tasks.proofs.sending.push_outs.Given as goal

abbrev pub invariant-loop-to : goal.invariant-loop-to
invariant-loop-to l =
    l.outs.items
    ≡ l.initial.outs.items
    ++ map (out_by l.env l.round (payload_for l.sent))
    (filter (λ to. is_some (message l.env.plan.now l.env.own.now.me.0 to l.env.gate l.round)) (each l.to (λ to. to)))

use Rattle.std.proofs.Common.{◌≡◌, ◌<◌, ◌∙◌, ℕ, List, sym, ap, subst, length, arith}
use Rattle.std.specs.List.{All}
use Rattle.sha2.specs.Hashers.{Holds256}
use Rattle.frames.specs.Bytes.{joined}
use Rattle.plan_gates.specs.Messages.{rounds}
use Rattle.gate_tasks.specs.declared.outgoing.Out.{Out}
use Rattle.party_stages.specs.Following.{Side, said_at}
use Rattle.party_engine.specs.Reporting.{frames_said, CanFrame}
use Rattle.party_engine.proofs.Reported.{said_is, frames_more}
use Rattle.party_engine.proofs.report.digest_of.Goals as goal

pub add_gate-requires : goal.add_gate-requires
add_gate-requires c =
    let gates = ap (λ (s : Side). length s.plan.gates) c.brought.view_is in
    let inside : c.loop-gate.gate < length c.args.stages.now.said = omega (arith, c.loop-gate-test.true, c.requires.count, c.gates-gate-end.ensures.value, gates) in
    let here : c.index-said-gate.result ≡ said_at c.args.stages.now.said c.loop-gate.gate = said_is c.args.stages.now.said c.loop-gate.gate c.index-said-gate.result inside (rw c.said.ensures at c.index-said-gate.is) in
    subst (λ (os : List Out). All CanFrame os) (sym (c.as_slice-outs.ensures ∙ here)) (c.requires.can c.loop-gate.gate)

pub loop-gate-preserved : goal.loop-gate-preserved
loop-gate-preserved c =
    let gates = ap (λ (s : Side). length s.plan.gates) c.brought.view_is in
    let inside : c.loop-gate.gate < length c.args.stages.now.said = omega (arith, c.loop-gate-test.true, c.requires.count, c.gates-gate-end.ensures.value, gates) in
    let here : c.index-said-gate.result ≡ said_at c.args.stages.now.said c.loop-gate.gate = said_is c.args.stages.now.said c.loop-gate.gate c.index-said-gate.result inside (rw c.said.ensures at c.index-said-gate.is) in
    let count : c.rounds.result ≡ rounds c.args.brought.now.plan c.loop-gate.gate = c.rounds.ensures.value ∙ ap (λ (s : Side). rounds s.plan c.loop-gate.gate) c.brought.view_is in
    let added = c.add_gate.ensures (joined (frames_said c.args.brought.now.plan c.args.stages.now.said c.loop-gate.gate)) c.loop-gate.invariant in
    subst (λ (bytes : List ℕ). Holds256 c.add_gate.new.hasher bytes) (frames_more c.args.brought.now.plan c.args.stages.now.said c.loop-gate.gate)
    (rw (c.as_slice-outs.ensures, here, count) at added)

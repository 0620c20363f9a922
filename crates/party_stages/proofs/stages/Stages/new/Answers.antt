use Rattle.std.proofs.Common.{◌≡◌, ◌∙◌, ℕ, sym, ap, length, List, [], Option, None, arith}
use Rattle.std.proofs.lemmas.List.{length-replicate}
use Rattle.share_types.proofs.Parties.{length-each}
use Rattle.gate_tasks.specs.declared.outgoing.Out.{Out}
use Rattle.gate_tasks.specs.declared.value.Value.{Value as ValueInMemory}
use Rattle.gate_tasks.specs.Task.{Task, new_task}
use Rattle.gate_tasks.specs.Wires.{no_values}
use Rattle.share_types.specs.Sums.{each}
use Rattle.party_stages.proofs.Starting.{fresh_scene}
use Rattle.party_stages.proofs.stages.Stages.new.Goals as goal

abbrev nothing : ℕ → List Out
nothing g = []

abbrev unset : Option ValueInMemory
unset = None

pub invariant_of-result : goal.invariant_of-result
invariant_of-result c =
    let end : c.loop-gate.gate ≡ c.args.gates = omega (arith, c.loop-gate-test.false, c.loop-gate.auto.gate-end) in
    let tasks : length c.loop-gate.tasks.items ≡ c.loop-gate.gate = ap (λ (ts : List Task). length ts) c.loop-gate.invariant.0 ∙ length-each c.loop-gate.gate new_task in
    let said : length c.loop-gate.said.items ≡ c.loop-gate.gate = ap (λ (os : List (List Out)). length os) c.loop-gate.invariant.1 ∙ length-each c.loop-gate.gate nothing in
    let wires : length c.in_ok-wires.wires ≡ c.args.gates = ap (λ (ws : List (Option ValueInMemory)). length ws) c.in_ok-wires.ensures ∙ length-replicate c.args.gates unset in
    (wires ∙ sym end ∙ sym tasks, said ∙ sym tasks)

pub returns-clause-scene : goal.returns-clause-scene
returns-clause-scene c = λ b inbox count start.
    let end : c.loop-gate.gate ≡ c.args.gates = omega (arith, c.loop-gate-test.false, c.loop-gate.auto.gate-end) in
    let n = length b.plan.gates in
    let tasks : c.loop-gate.tasks.items ≡ each n new_task = c.loop-gate.invariant.0 ∙ ap (λ m. each m new_task) (end ∙ sym count) in
    let said : c.loop-gate.said.items ≡ each n nothing = c.loop-gate.invariant.1 ∙ ap (λ m. each m nothing) (end ∙ sym count) in
    let wires : c.in_ok-wires.wires ≡ no_values n = c.in_ok-wires.ensures ∙ ap no_values (sym count) in
    rw (tasks, said, wires) (fresh_scene b inbox start)

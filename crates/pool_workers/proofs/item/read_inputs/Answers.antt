use Rattle.std.proofs.Common.{◌≡◌, ℕ, ◌+◌, ◌<◌, ◌≤◌, List, [], ◌∷◌, ◌++◌, length, get_or, take, Some, sym, ap, ◌∙◌, subst}
use Rattle.atomic_table.specs.Table.{rest}
use Rattle.task_pool.specs.Meanings.{AreMeanings}
use Rattle.pool_workers.specs.Sums.{incoming_of}
use Rattle.pool_workers.specs.Steps.{Holding}
use Rattle.pool_workers.proofs.Items.{in_incoming, reads, read_is, reads_more, read_all}
use Rattle.pool_workers.proofs.item.read_inputs.Goals as goal

pub take_input-requires-clause-edge : goal.take_input-requires-clause-edge
take_input-requires-clause-edge g c =
    let short = subst (λ (l : List ℕ). c.loop-edge.edge-index < length l) c.requires.edges c.loop-edge-test.true in
    rw c.requires.edges (in_incoming c.args.item g.M.Meaning.edges c.loop-edge.edge-index short)

pub take_input-requires-clause-top : goal.take_input-requires-clause-top
take_input-requires-clause-top g c =
    let short = subst (λ (l : List ℕ). c.loop-edge.edge-index < length l) c.requires.edges c.loop-edge-test.true in
    let r = reads g.M.Meaning.edges g.M.Meaning.means c.args.item c.loop-edge.edge-index c.loop-edge.worker.me.1 short c.loop-edge.invariant.3 in
    rw c.requires.edges (Some r.value, r.is)

pub unreachable-requires : goal.unreachable-requires
unreachable-requires g c =
    let short = subst (λ (l : List ℕ). c.loop-edge.edge-index < length l) c.requires.edges c.loop-edge-test.true in
    let r = reads g.M.Meaning.edges g.M.Meaning.means c.args.item c.loop-edge.edge-index c.loop-edge.worker.me.1 short c.loop-edge.invariant.3 in
    let top = subst (λ (l : List ℕ). c.loop-edge.worker.me.1 ≡ (get_or l c.loop-edge.edge-index 0, c.take_input.result) ∷ rest c.loop-edge.worker.me.1) c.requires.edges c.take_input.ensures.value in
    let some = read_is g.M.Meaning.edges g.M.Meaning.means c.args.item c.loop-edge.edge-index (get_or (incoming_of c.args.item g.M.Meaning.edges) c.loop-edge.edge-index 0) c.loop-edge.worker.me.1 c.take_input.result r top in
    cc some

pub loop-edge-preserved : goal.loop-edge-preserved
loop-edge-preserved g c =
    let short = subst (λ (l : List ℕ). c.loop-edge.edge-index < length l) c.requires.edges c.loop-edge-test.true in
    let r = reads g.M.Meaning.edges g.M.Meaning.means c.args.item c.loop-edge.edge-index c.loop-edge.worker.me.1 short c.loop-edge.invariant.3 in
    let top = subst (λ (l : List ℕ). c.loop-edge.worker.me.1 ≡ (get_or l c.loop-edge.edge-index 0, c.take_input.result) ∷ rest c.loop-edge.worker.me.1) c.requires.edges c.take_input.ensures.value in
    let some = read_is g.M.Meaning.edges g.M.Meaning.means c.args.item c.loop-edge.edge-index (get_or (incoming_of c.args.item g.M.Meaning.edges) c.loop-edge.edge-index 0) c.loop-edge.worker.me.1 c.take_input.result r top in
    let value : c.in-Some.value ≡ r.value = cc some in
    let after = c.take_input.ensures.returned in
    let more = reads_more g.M.Meaning.edges g.M.Meaning.means c.args.item c.loop-edge.edge-index c.loop-edge.inputs.items r.value short c.loop-edge.invariant.4 r.mean in
    let pushed : c.push.new.self.items ≡ c.loop-edge.inputs.items ++ r.value ∷ [] = c.in_ok-push.ensures.items ∙ ap (λ v. c.loop-edge.inputs.items ++ v ∷ []) value in (
      c.take_input.ensures.table.0 ∙ c.loop-edge.invariant.0,
      c.take_input.ensures.table.1 ∙ c.loop-edge.invariant.1,
      ap (λ m. m.0) after ∙ c.loop-edge.invariant.2,
      subst (λ m. Holding g.M.Meaning.edges g.M.Meaning.means c.args.item (c.loop-edge.edge-index + 1) m.1) (sym after) r.next,
      subst (λ vs. AreMeanings g.M.Meaning.means (take (c.loop-edge.edge-index + 1) (incoming_of c.args.item g.M.Meaning.edges)) vs) (sym pushed) more,
    )

pub returns-clause-slots : goal.returns-clause-slots
returns-clause-slots g c =
    let long = subst (λ (l : List ℕ). length l ≤ c.loop-edge.edge-index) c.requires.edges c.loop-edge-test.false in
    read_all g.M.Meaning.edges g.M.Meaning.means c.args.item c.loop-edge.edge-index c.loop-edge.worker.me.1 long c.loop-edge.invariant.3

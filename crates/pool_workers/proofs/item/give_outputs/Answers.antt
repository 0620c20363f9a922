use Rattle.std.proofs.Common.{◌≡◌, ℕ, List, length, get_or, refl, sym, ◌∙◌, subst}
use Rattle.std.proofs.lemmas.List.{nil_from_length}
use Rattle.atomic_table.specs.Table.{rest}
use Rattle.task_pool.specs.Meanings.{AreMeanings}
use Rattle.pool_workers.specs.Sums.{outgoing_of}
use Rattle.pool_workers.specs.Words.{with_edge}
use Rattle.pool_workers.proofs.Items.{Gave, turn, gave_none, gave_all}
use Rattle.pool_workers.proofs.item.give_outputs.Goals as goal

pub loop-value-init : goal.loop-value-init
loop-value-init g c = (
  refl,
  refl,
  refl,
  gave_none g.M.Meaning.edges g.M.Meaning.means c.args.item c.args.worker.now.me.0 c.args.worker.now.me c.into_iter-value-iterator.result.rest.items refl c.requires.slots
      (subst (λ vs. AreMeanings g.M.Meaning.means (outgoing_of c.args.item g.M.Meaning.edges) vs) (sym c.into_iter-value-iterator.ensures.into_iter_gives.0) c.requires.outputs),
)

pub give_one-requires-clause-may : goal.give_one-requires-clause-may
give_one-requires-clause-may g c =
    let l = c.loop-value in
    let gave = subst (λ vs. Gave g.M.Meaning.edges g.M.Meaning.means c.args.item c.loop-value.at c.args.worker.now.me.0 c.loop-value.worker.me vs) c.in-Some.ensures.steps.0 c.loop-value.invariant.3 in
    let t = turn g.M.Meaning.items g.M.Meaning.edges g.M.Meaning.means c.args.item c.loop-value.at c.args.worker.now.me.0 c.loop-value.worker.me c.in-Some.value c.next.new.self.rest.items c.requires.dag.2 c.requires.item c.requires.took.0 c.requires.took.1 c.requires.fresh gave in
    rw c.requires.edges t.may

pub give_one-requires-clause-top : goal.give_one-requires-clause-top
give_one-requires-clause-top g c =
    let gave = subst (λ vs. Gave g.M.Meaning.edges g.M.Meaning.means c.args.item c.loop-value.at c.args.worker.now.me.0 c.loop-value.worker.me vs) c.in-Some.ensures.steps.0 c.loop-value.invariant.3 in
    let t = turn g.M.Meaning.items g.M.Meaning.edges g.M.Meaning.means c.args.item c.loop-value.at c.args.worker.now.me.0 c.loop-value.worker.me c.in-Some.value c.next.new.self.rest.items c.requires.dag.2 c.requires.item c.requires.took.0 c.requires.took.1 c.requires.fresh gave in
    rw c.requires.edges t.top

pub give_one-requires-clause-means : goal.give_one-requires-clause-means
give_one-requires-clause-means g c =
    let gave = subst (λ vs. Gave g.M.Meaning.edges g.M.Meaning.means c.args.item c.loop-value.at c.args.worker.now.me.0 c.loop-value.worker.me vs) c.in-Some.ensures.steps.0 c.loop-value.invariant.3 in
    let t = turn g.M.Meaning.items g.M.Meaning.edges g.M.Meaning.means c.args.item c.loop-value.at c.args.worker.now.me.0 c.loop-value.worker.me c.in-Some.value c.next.new.self.rest.items c.requires.dag.2 c.requires.item c.requires.took.0 c.requires.took.1 c.requires.fresh gave in
    rw c.requires.edges t.mean

pub loop-value-preserved : goal.loop-value-preserved
loop-value-preserved g c =
    let gave = subst (λ vs. Gave g.M.Meaning.edges g.M.Meaning.means c.args.item c.loop-value.at c.args.worker.now.me.0 c.loop-value.worker.me vs) c.in-Some.ensures.steps.0 c.loop-value.invariant.3 in
    let t = turn g.M.Meaning.items g.M.Meaning.edges g.M.Meaning.means c.args.item c.loop-value.at c.args.worker.now.me.0 c.loop-value.worker.me c.in-Some.value c.next.new.self.rest.items c.requires.dag.2 c.requires.item c.requires.took.0 c.requires.took.1 c.requires.fresh gave in
    let after = subst (λ (es : List ℕ). c.give_one.new.worker.me ≡ (with_edge c.loop-value.worker.me.0 (get_or es c.loop-value.at 0), rest c.loop-value.worker.me.1)) c.requires.edges c.give_one.ensures.gave in (
      c.give_one.ensures.table.0 ∙ c.loop-value.invariant.0,
      c.give_one.ensures.table.1 ∙ c.loop-value.invariant.1,
      c.give_one.ensures.hints ∙ c.loop-value.invariant.2,
      t.next c.give_one.new.worker.me after,
    )

pub returns-clause-gave : goal.returns-clause-gave
returns-clause-gave g c =
    let over = c.loop-value.value-iterator.rest in
    let none : length over.items ≡ 0 = sym over.ok.0 ∙ c.in-None.ensures.steps.0 in
    gave_all g.M.Meaning.edges g.M.Meaning.means c.args.item c.loop-value.at c.args.worker.now.me.0 c.loop-value.worker.me (subst (λ vs. Gave g.M.Meaning.edges g.M.Meaning.means c.args.item c.loop-value.at c.args.worker.now.me.0 c.loop-value.worker.me vs) (nil_from_length over.items none) c.loop-value.invariant.3)

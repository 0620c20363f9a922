use Rattle.std.proofs.Common.{◌≡◌, sym, ap, ◌∙◌, subst}
use Rattle.turn_core.specs.Core.{Core, IsSettled}
use Rattle.task_pool.proofs.Turning.{settled_at_start, all_turned}
use Rattle.task_pool.proofs.run.run_turns_counted.Goals as goal

pub drain-requires-clause-settled : goal.drain-requires-clause-settled
drain-requires-clause-settled g c =
    subst (λ (x : Core). IsSettled x) (sym c.in_ok-turns.ensures) (settled_at_start c.args.dag.now c.requires.inside)

pub ends-requires : goal.ends-requires
ends-requires g c k within =
    let d = c.drain.ensures in
    let same : c.drain.new.work.graph ≡ c.in_ok-turns.turns.graph =
    d.graph ∙ c.in_ok-slots.ensures.graph ∙ sym (ap (λ (x : Core). x.graph) c.in_ok-turns.ensures) in
    all_turned c.in_ok-turns.turns.graph c.drain.new.work.graph c.drain.new.self.handed c.drain.new.work.turned same d.turned d.handed k within

use Rattle.std.proofs.Common.{sym, subst, length}
use Rattle.std.specs.List.{All}
use Rattle.turn_core.specs.Graph.{Graph}
use Rattle.task_pool.specs.Meanings.{HasNoOutside}
use Rattle.party_stages.specs.Following.{Side, IsRan}
use Rattle.party_stages.proofs.Lone.{none_outside, all_mean}
use Rattle.party_stages.proofs.ready.run_ready.Goals as goal

pub run_waves-requires-clause-inside : goal.run_waves-requires-clause-inside
run_waves-requires-clause-inside g c κs within =
    let count = length c.args.ready.now in
    subst (λ (graph : Graph). HasNoOutside graph) (sym c.in_ok-dag.ensures) (none_outside count c.requires.few)

pub returns : goal.returns
returns g c =
    let b : Side = record { plan = c.brought.inside.plan.now; own = c.brought.inside.own.now; part = c.brought.inside.part.now } in
    subst (λ (s : Side). All (IsRan s c.args.inbox.now) c.in_ok-collected.collected.ends.items) c.brought.view_is
    (all_mean (IsRan b c.args.inbox.now) _ c.in_ok-collected.collected.ends.items c.in_ok-collected.ensures.ends)

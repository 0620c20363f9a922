use Rattle.local_run.specs.Meaning.{owns_with}
use Rattle.local_run.specs.Loads.{reports_loads}
use Rattle.local_run.proofs.Turns.{outside_none, ends_come, ends_fit}
use Rattle.local_run.proofs.Plainly.{plainly}
use Rattle.local_run.proofs.run.local_pool.Goals as goal

pub run_pool-requires-clause-inside : goal.run_pool-requires-clause-inside
run_pool-requires-clause-inside g c = λ κs order.
    outside_none c.args.job.now.plan c.in_ok-graph.graph.dag c.parties-parties.ensures.plan c.in_ok-graph.ensures.dag

pub reports-requires-clause-fit : goal.reports-requires-clause-fit
reports-requires-clause-fit g c =
    let plan = c.args.job.now.plan in
    let owns = owns_with c.args.job.now.owns.items c.args.parts.now in
    let meant = ends_come plan owns c.in_ok-graph.graph.dag c.in_ok-collected.collected.ends.items c.deref.result.now c.parties-parties.ensures.plan c.in_ok-graph.ensures.dag c.in_ok-collected.ensures.ends c.deref.ensures.value in
    ends_fit plan owns (reports_loads plan plan.parties) c.deref.result.now meant

pub returns-clause-joint : goal.returns-clause-joint
returns-clause-joint g c =
    let plan = c.args.job.now.plan in
    let owns = owns_with c.args.job.now.owns.items c.args.parts.now in
    let meant = ends_come plan owns c.in_ok-graph.graph.dag c.in_ok-collected.collected.ends.items c.deref.result.now c.parties-parties.ensures.plan c.in_ok-graph.ensures.dag c.in_ok-collected.ensures.ends c.deref.ensures.value in
    λ table joint. c.in_ok-reports.ensures owns table joint meant

pub returns-clause-plain : goal.returns-clause-plain
returns-clause-plain g c =
    let plan = c.args.job.now.plan in
    let owns = owns_with c.args.job.now.owns.items c.args.parts.now in
    let meant = ends_come plan owns c.in_ok-graph.graph.dag c.in_ok-collected.collected.ends.items c.deref.result.now c.parties-parties.ensures.plan c.in_ok-graph.ensures.dag c.in_ok-collected.ensures.ends c.deref.ensures.value in
    plainly plan owns c.in_ok-reports.reports.items c.parties-parties.ensures.plan c.requires.job.keyless (λ table joint. c.in_ok-reports.ensures owns table joint meant)

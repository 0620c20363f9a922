use Rattle.std.proofs.Common.{◌<◌, ℕ, length, sym, subst, arith}
use Rattle.plan_gates.specs.Messages.{awaits}
use Rattle.gate_tasks.specs.Stage.{AreAwaited}
use Rattle.joint_run.proofs.Grown.{there_is}
use Rattle.std.specs.List.{flat_map}
use Rattle.local_run.specs.Cargo.{payloads_of}
use Rattle.local_run.specs.Meaning.{owns_with}
use Rattle.local_run.proofs.Staging.{taken}
use Rattle.local_run.proofs.Serving.{serves, has_run, stage_within}
use Rattle.local_run.proofs.work.run_item.Goals as goal
use Rattle.mot_base.proofs.Lists.{read_at as read_there}

pub run_place-requires-clause-serves : goal.run_place-requires-clause-serves
run_place-requires-clause-serves c =
    let p = c.args.item.party.0 in
    let own_in : p < length c.args.job.now.owns.items = omega (arith, c.requires.item.party, c.requires.job.owns_count) in
    let part_in : p < length c.args.parts.now = omega (arith, c.requires.item.party, c.requires.job.parts_count) in
    serves c.args.job.now.plan c.args.job.now.owns.items c.args.parts.now p c.args.item.gate c.index.result.now _ c.requires.job
    (read_there c.args.job.now.owns.items p c.index.result.now own_in c.index.ensures)
    (read_there c.args.parts.now p c.index-parts-party.result part_in c.index-parts-party.is) c.requires.item.gate

pub run_place-requires-clause-stage : goal.run_place-requires-clause-stage
run_place-requires-clause-stage c =
    let p = c.args.item.party.0 in
    let own_in : p < length c.args.job.now.owns.items = omega (arith, c.requires.item.party, c.requires.job.owns_count) in
    let part_in : p < length c.args.parts.now = omega (arith, c.requires.item.party, c.requires.job.parts_count) in
    let one = c.requires.job.each p c.index.result.now _ (read_there c.args.job.now.owns.items p c.index.result.now own_in c.index.ensures) (there_is c.args.parts.now p c.index-parts-party.result part_in) in
    stage_within c.args.job.now.plan c.args.item c.index.result.now.me.0 c.requires.item one.me

pub run_place-requires-clause-wires : goal.run_place-requires-clause-wires
run_place-requires-clause-wires c =
    (taken c.args.job.now.plan (owns_with c.args.job.now.owns.items c.args.parts.now) c.args.item c.args.inputs.now.items c.requires.plan c.requires.item c.requires.inputs).operands

pub run_place-requires-clause-payloads : goal.run_place-requires-clause-payloads
run_place-requires-clause-payloads c =
    let p = c.args.item.party.0 in
    let own_in : p < length c.args.job.now.owns.items = omega (arith, c.requires.item.party, c.requires.job.owns_count) in
    let part_in : p < length c.args.parts.now = omega (arith, c.requires.item.party, c.requires.job.parts_count) in
    let one = c.requires.job.each p c.index.result.now _ (read_there c.args.job.now.owns.items p c.index.result.now own_in c.index.ensures) (there_is c.args.parts.now p c.index-parts-party.result part_in) in
    let here = (taken c.args.job.now.plan (owns_with c.args.job.now.owns.items c.args.parts.now) c.args.item c.args.inputs.now.items c.requires.plan c.requires.item c.requires.inputs).awaited in
    subst (λ (m : ℕ). AreAwaited c.args.job.now.plan m c.args.item.gate (awaits c.args.job.now.plan m c.args.item.gate c.args.item.stage) (flat_map payloads_of c.args.inputs.now.items)) (sym one.me) here

pub returns : goal.returns
returns c =
    let p = c.args.item.party.0 in
    let own_in : p < length c.args.job.now.owns.items = omega (arith, c.requires.item.party, c.requires.job.owns_count) in
    let part_in : p < length c.args.parts.now = omega (arith, c.requires.item.party, c.requires.job.parts_count) in
    has_run c.args.job.now.plan c.args.job.now.owns.items c.args.parts.now c.args.item c.index.result.now _ c.args.inputs.now.items c.in_ok-given.given c.requires.job
    (read_there c.args.job.now.owns.items p c.index.result.now own_in c.index.ensures)
    (read_there c.args.parts.now p c.index-parts-party.result part_in c.index-parts-party.is)
    (taken c.args.job.now.plan (owns_with c.args.job.now.owns.items c.args.parts.now) c.args.item c.args.inputs.now.items c.requires.plan c.requires.item c.requires.inputs)
    c.in_ok-given.ensures.gives c.in_ok-given.ensures.typed

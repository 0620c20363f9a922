use Rattle.std.specs.Mem.Slots.{slots_items}
use Rattle.pool_workers.specs.Shifts.{Closes}
use Rattle.pool_workers.proofs.Closings.{took_once, closed_ends}
use Rattle.pool_workers.proofs.Ends.{closes_of}
use Rattle.pool_workers.proofs.close.collect.Goals as goal

pub pick_ends-ends-requires-clause-ends : goal.pick_ends-ends-requires-clause-ends
pick_ends-ends-requires-clause-ends g c =
    let row = slots_items c.close_with-closed.result.slots in
    let closes : Closes g.M.Meaning.items g.M.Meaning.edges g.M.Meaning.means c.args.worker.me.0 row =
    closes_of g.M.Meaning.items g.M.Meaning.edges g.M.Meaning.means (slots_items c.close_with-closed.result.words) c.args.worker.id c.args.worker.me.0 row c.close_with-closed.ensures.values.2 in
    closed_ends g.M.Meaning.items g.M.Meaning.edges g.M.Meaning.means c.args.worker.me.0 row closes
    c.requires.idle.1 c.requires.all c.requires.dag.1 c.requires.idle.0.2

pub returns-clause-took : goal.returns-clause-took
returns-clause-took g c =
    let row = slots_items c.close_with-closed.result.slots in
    let closes : Closes g.M.Meaning.items g.M.Meaning.edges g.M.Meaning.means c.args.worker.me.0 row =
    closes_of g.M.Meaning.items g.M.Meaning.edges g.M.Meaning.means (slots_items c.close_with-closed.result.words) c.args.worker.id c.args.worker.me.0 row c.close_with-closed.ensures.values.2 in
    took_once g.M.Meaning.items g.M.Meaning.edges g.M.Meaning.means c.args.worker.me.0 row closes
    c.requires.idle.1 c.requires.all

use Rattle.std.proofs.Common.{List, sym, subst}
use Rattle.task_pool.specs.Meanings.{AreMeanings}
use Rattle.turn_core.specs.declared.edge.Edge.{Edge}
use Rattle.pool_workers.specs.Sums.{incoming_of, outgoing_of}
use Rattle.pool_workers.proofs.Items.{agree_all}
use Rattle.pool_workers.proofs.item.run_taken.Goals as goal

pub run-requires-clause-inputs : goal.run-requires-clause-inputs
run-requires-clause-inputs g c =
    subst (λ (es : List Edge). AreMeanings (g.W.Work.means c.args.work.now) (incoming_of c.args.item es) c.read_inputs.new.inputs.items) (sym c.requires.work.1)
    (agree_all g.M.Meaning.means (g.W.Work.means c.args.work.now) (incoming_of c.args.item g.M.Meaning.edges) c.read_inputs.new.inputs.items (λ e x. (c.requires.work.2 e x).0) c.in_ok-read_inputs.ensures.inputs)

pub give_outputs-requires-clause-outputs : goal.give_outputs-requires-clause-outputs
give_outputs-requires-clause-outputs g c =
    agree_all (g.W.Work.means c.args.work.now) g.M.Meaning.means (outgoing_of c.args.item g.M.Meaning.edges) c.in_ok-outputs.outputs.items (λ e x. (c.requires.work.2 e x).1)
    (subst (λ (es : List Edge). AreMeanings (g.W.Work.means c.args.work.now) (outgoing_of c.args.item es) c.in_ok-outputs.outputs.items) c.requires.work.1 c.in_ok-outputs.ensures)

use Rattle.std.proofs.Common.{ap}
use Rattle.pool_workers.proofs.Items.{took_some, begins, fresh_edges, ran_took, ran_idle, ran_done}
use Rattle.pool_workers.proofs.item.try_item.Goals as goal

pub run_taken-requires-clause-took : goal.run_taken-requires-clause-took
run_taken-requires-clause-took g c = took_some g.M.Meaning.edges g.M.Meaning.means c.args.item c.take-found.result c.args.worker.now.me c.take-found.new.worker.me c.if-found-ne0.false c.requires.idle.1 c.take-found.ensures.told

pub run_taken-requires-clause-fresh : goal.run_taken-requires-clause-fresh
run_taken-requires-clause-fresh g c = fresh_edges g.M.Meaning.edges g.M.Meaning.means c.args.item c.take-found.result c.args.worker.now.me c.take-found.new.worker.me c.if-found-ne0.false c.requires.idle.2 c.take-found.ensures.told

pub run_taken-requires-clause-slots : goal.run_taken-requires-clause-slots
run_taken-requires-clause-slots g c = begins g.M.Meaning.edges g.M.Meaning.means c.args.item c.take-found.result c.args.worker.now.me c.take-found.new.worker.me c.if-found-ne0.false c.requires.idle.0 c.take-found.ensures.told

pub returns-clause-idle : goal.returns-clause-idle
returns-clause-idle g c = ran_idle g.M.Meaning.items g.M.Meaning.edges c.args.item c.args.worker.now.me c.run_taken.new.worker.me c.requires.dag.2 c.requires.item c.requires.idle (ran_took g.M.Meaning.edges g.M.Meaning.means c.args.item c.take-found.result c.args.worker.now.me c.take-found.new.worker.me c.run_taken.new.worker.me c.if-found-ne0.false c.take-found.ensures.told c.in_ok-run_taken.ensures.gave)

pub returns-clause-done : goal.returns-clause-done
returns-clause-done g c = λ all none. ran_done g.M.Meaning.edges g.M.Meaning.means c.args.item c.take-found.result c.args.worker.now.me c.take-found.new.worker.me c.run_taken.new.worker.me.0.took c.if-found-ne0.false c.take-found.ensures.told (ap (λ u. u.took) (ran_took g.M.Meaning.edges g.M.Meaning.means c.args.item c.take-found.result c.args.worker.now.me c.take-found.new.worker.me c.run_taken.new.worker.me c.if-found-ne0.false c.take-found.ensures.told c.in_ok-run_taken.ensures.gave).0)

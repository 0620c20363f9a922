use Rattle.pool_workers.specs.Sums.{incoming_of}
use Rattle.pool_workers.proofs.Items.{agree_all}
use Rattle.pool_workers.proofs.run.end_run.Goals as goal

pub returns-clause-ends : goal.returns-clause-ends
returns-clause-ends g c =
    agree_all g.M.Meaning.means (g.W.Work.means c.args.work.now) (incoming_of 4294967295 g.M.Meaning.edges) c.in_ok-ends.ends.items
    (λ e x means. (c.requires.work.2 e x).0 means) c.in_ok-ends.ensures.ends

use Rattle.pool_workers.proofs.SlotSteps.{opens}
use Rattle.pool_workers.proofs.table.open.Goals as goal

pub vacant-requires : goal.vacant-requires
vacant-requires g c = rw c.requires.edges (opens g.M.Meaning.items g.M.Meaning.edges g.M.Meaning.means c.args.words.now c.requires.dag c.requires.words)

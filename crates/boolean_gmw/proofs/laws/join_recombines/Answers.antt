use Rattle.boolean_gmw.proofs.Recombining.{join-recombines}
use Rattle.boolean_gmw.proofs.laws.join_recombines.Goals as goal

pub returns : goal.returns
returns c = join-recombines

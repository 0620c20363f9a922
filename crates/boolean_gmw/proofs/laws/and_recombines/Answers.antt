use Rattle.boolean_gmw.proofs.Recombining.{and-recombines}
use Rattle.boolean_gmw.proofs.laws.and_recombines.Goals as goal

pub returns : goal.returns
returns c = and-recombines

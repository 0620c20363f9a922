use Rattle.arithmetic_gmw.proofs.Recombining.{difference-recombines}
use Rattle.arithmetic_gmw.proofs.laws.difference_recombines.Goals as goal

pub returns : goal.returns
returns c = difference-recombines

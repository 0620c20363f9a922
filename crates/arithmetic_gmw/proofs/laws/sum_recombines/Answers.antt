use Rattle.arithmetic_gmw.proofs.Recombining.{sum-recombines}
use Rattle.arithmetic_gmw.proofs.laws.sum_recombines.Goals as goal

pub returns : goal.returns
returns c = sum-recombines

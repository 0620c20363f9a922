use Rattle.arithmetic_gmw.proofs.Recombining.{raised-recombines}
use Rattle.arithmetic_gmw.proofs.laws.raised_recombines.Goals as goal

pub returns : goal.returns
returns c = raised-recombines

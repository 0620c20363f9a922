use Rattle.arithmetic_gmw.proofs.Recombining.{scaled-recombines}
use Rattle.arithmetic_gmw.proofs.laws.scaled_recombines.Goals as goal

pub returns : goal.returns
returns c = scaled-recombines

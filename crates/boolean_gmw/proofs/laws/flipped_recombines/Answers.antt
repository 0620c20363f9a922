use Rattle.boolean_gmw.proofs.Recombining.{flipped-recombines}
use Rattle.boolean_gmw.proofs.laws.flipped_recombines.Goals as goal

pub returns : goal.returns
returns c = flipped-recombines

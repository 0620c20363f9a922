use Rattle.boolean_gmw.proofs.Recombining.{slice-recombines}
use Rattle.boolean_gmw.proofs.laws.slice_recombines.Goals as goal

pub returns : goal.returns
returns c = slice-recombines

use Rattle.boolean_gmw.proofs.Recombining.{xor-recombines}
use Rattle.boolean_gmw.proofs.laws.xor_recombines.Goals as goal

pub returns : goal.returns
returns c = xor-recombines

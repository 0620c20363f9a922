use Rattle.arithmetic_gmw.proofs.Recombining.{product-recombines}
use Rattle.arithmetic_gmw.proofs.laws.product_recombines.Goals as goal

pub returns : goal.returns
returns c = product-recombines

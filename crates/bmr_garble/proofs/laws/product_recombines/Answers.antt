use Rattle.bmr_garble.proofs.Products.{product-recombines}
use Rattle.bmr_garble.proofs.laws.product_recombines.Goals as goal

pub returns : goal.returns
returns c = product-recombines

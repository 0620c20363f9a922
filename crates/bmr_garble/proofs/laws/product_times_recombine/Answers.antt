use Rattle.bmr_garble.proofs.Products.{product_times-recombine}
use Rattle.bmr_garble.proofs.laws.product_times_recombine.Goals as goal

pub returns : goal.returns
returns c = product_times-recombine

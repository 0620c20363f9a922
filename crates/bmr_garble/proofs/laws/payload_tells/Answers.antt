use Rattle.bmr_garble.proofs.Tables.{payload-tells}
use Rattle.bmr_garble.proofs.laws.payload_tells.Goals as goal

pub returns : goal.returns
returns c = payload-tells

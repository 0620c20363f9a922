use Rattle.share_convert.proofs.Opening.{keys-open}
use Rattle.share_convert.proofs.laws.keys_open.Goals as goal

pub returns : goal.returns
returns c = keys-open

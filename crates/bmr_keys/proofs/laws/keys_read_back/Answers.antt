use Rattle.bmr_keys.proofs.Payloads.{keys-length, keys-back}
use Rattle.bmr_keys.proofs.laws.keys_read_back.Goals as goal

pub returns-clause-length : goal.returns-clause-length
returns-clause-length c = keys-length

pub returns-clause-keys : goal.returns-clause-keys
returns-clause-keys c = keys-back

use Rattle.bmr_keys.proofs.Masks.{zero_keys-are_even}
use Rattle.bmr_keys.proofs.laws.zero_keys_are_even.Goals as goal

pub returns : goal.returns
returns c = zero_keys-are_even

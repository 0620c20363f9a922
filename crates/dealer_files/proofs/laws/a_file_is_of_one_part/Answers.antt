use Rattle.dealer_files.proofs.Parted.{one-part}
use Rattle.dealer_files.proofs.laws.a_file_is_of_one_part.Goals as goal

pub returns : goal.returns
returns c = one-part

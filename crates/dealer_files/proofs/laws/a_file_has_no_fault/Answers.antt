use Rattle.dealer_files.proofs.Whole.{no-fault}
use Rattle.dealer_files.proofs.laws.a_file_has_no_fault.Goals as goal

pub returns : goal.returns
returns c = no-fault

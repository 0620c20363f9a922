use Rattle.dealer_files.proofs.Decided.{each_is_file_or_faults}
use Rattle.dealer_files.proofs.laws.bytes_are_a_file_or_fault.Goals as goal

pub returns : goal.returns
returns c = each_is_file_or_faults

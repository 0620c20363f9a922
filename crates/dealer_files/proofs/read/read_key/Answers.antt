use Rattle.std.proofs.Common.{◌∙◌, arith}
use Rattle.std.proofs.lemmas.List.{take_all}
use Rattle.dealer_files.proofs.read.read_key.Goals as goal

pub returns-clause-bytes : goal.returns-clause-bytes
returns-clause-bytes c = c.read_number.ensures.bytes ∙ take_all 16 c.args.bytes.now (omega arith)

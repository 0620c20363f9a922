use Rattle.dealer_files.proofs.read.check_records.Goals as goal

pub returns-in-None-clause-bytes : goal.returns-in-None-clause-bytes
returns-in-None-clause-bytes c = c.first_wrong.ensures.none c.in-None.is

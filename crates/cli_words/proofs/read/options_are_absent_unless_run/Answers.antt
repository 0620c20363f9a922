use Rattle.cli_words.proofs.Reading.{option_is_absent}
use Rattle.cli_words.proofs.read.options_are_absent_unless_run.Goals as goal

pub returns : goal.returns
returns c = option_is_absent

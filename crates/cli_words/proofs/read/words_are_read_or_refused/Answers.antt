use Rattle.cli_words.proofs.Reading.{asked}
use Rattle.cli_words.proofs.read.words_are_read_or_refused.Goals as goal

pub returns : goal.returns
returns c = asked

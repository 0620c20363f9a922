use Rattle.cli_words.proofs.Reading.{asks_of_its_command}
use Rattle.cli_words.proofs.read.words_behind_a_name_ask_of_its_command.Goals as goal

pub returns : goal.returns
returns c = asks_of_its_command

use Rattle.cli_words.proofs.Reading.{one_request}
use Rattle.cli_words.proofs.read.words_ask_for_one_request.Goals as goal

pub returns : goal.returns
returns c = one_request

use Rattle.cli_words.proofs.CodeSteps.{stripped}
use Rattle.cli_words.proofs.pass.rest_after.Goals as goal

pub returns : goal.returns
returns c = stripped c.args.beginning.now c.args.word.now c.strip_prefix.result c.strip_prefix.ensures.cases

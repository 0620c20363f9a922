use Rattle.cli_words.proofs.Says.{all_means, found_wrong}
use Rattle.cli_words.proofs.read.said.Goals as goal

pub returns-clause-ok : goal.returns-clause-ok
returns-clause-ok c =
    all_means _ _ c.in_ok-matches.matches c.line_found.result c.in_ok-matches.ensures c.line_found.ensures.words c.line_found.ensures.options

pub returns-clause-refused : goal.returns-clause-refused
returns-clause-refused c = λ usage pieces fits same.
    found_wrong c.in_ok-matches.matches fits same c.in_ok-matches.ensures (c.line_found.ensures.err usage)

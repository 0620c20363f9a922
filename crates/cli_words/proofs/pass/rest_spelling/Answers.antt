use Rattle.std.proofs.Common.{sym, ◌∙◌, arith}
use Rattle.std.proofs.lemmas.Str.Pattern.{strip_prefix_char}
use Rattle.cli_words.proofs.CodeSteps.{unstripped}
use Rattle.cli_words.proofs.Spelling.{empty_by_length}
use Rattle.cli_words.proofs.pass.rest_spelling.Goals as goal

pub returns-in_default : goal.returns-in_default
returns-in_default c =
    unstripped c.args.rest.now c.strip_prefix.result
    (strip_prefix_char 61 c.args.rest.now c.strip_prefix.result c.strip_prefix.ensures.cases (omega arith))
    c.in_default.is (sym (empty_by_length c.args.rest.now) ∙ sym c.is_empty.ensures ∙ c.if-is_empty.false)

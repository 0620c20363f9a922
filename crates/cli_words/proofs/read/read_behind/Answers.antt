use Rattle.std.proofs.Common.{◌∙◌, ap}
use Rattle.cli_words.specs.Grammar.{texts}
use Rattle.cli_words.specs.Filled.{said_in}
use Rattle.cli_words.specs.declared.read.WordsError.TheVariants.{Usage}
use Rattle.cli_words.proofs.Steps.{handed_on}
use Rattle.cli_words.proofs.Says.{line_fits, line_says}
use Rattle.cli_words.proofs.Reading.{nothing_said, nothing_meant, nothing_asked, all_asked}
use Rattle.cli_words.proofs.read.read_behind.Goals as goal

pub returns-in_err-list-clause-refused : goal.returns-in_err-list-clause-refused
returns-in_err-list-clause-refused c = λ usage.
    let same = handed_on c.from_residual.result Usage c.in_err-list.field-0.0 c.from_residual.ensures.1 usage in
    nothing_said (c.in_err-list.ensures.refused same)

pub said-requires : goal.said-requires
said-requires c =
    let (pieces, line, list) = c.in_ok-list.ensures.ok in
    (pieces, line_fits line, ap texts c.as_slice.ensures.value ∙ list)

pub returns-in_err-line-clause-refused : goal.returns-in_err-line-clause-refused
returns-in_err-line-clause-refused c = λ usage.
    let same = handed_on c.from_residual-in_err-line.result Usage c.in_err-line.field-0.0 c.from_residual-in_err-line.ensures.1 usage in
    let (pieces, line, list) = c.in_ok-list.ensures.ok in
    nothing_said (nothing_meant line (c.in_err-line.ensures.refused same pieces (line_fits line) (ap texts c.as_slice.ensures.value ∙ list)))

pub returns-clause-read : goal.returns-clause-read
returns-clause-read c =
    let (pieces, line, list) = c.in_ok-list.ensures.ok in
    let means = c.in_ok-line.ensures.ok pieces (line_fits line) (ap texts c.as_slice.ensures.value ∙ list) in
    all_asked (said_in c.in_ok-line.line) c.request.result (line_says (said_in c.in_ok-line.line) line means) c.request.ensures.ok

pub returns-clause-refused : goal.returns-clause-refused
returns-clause-refused c = λ usage.
    let (pieces, line, list) = c.in_ok-list.ensures.ok in
    let means = c.in_ok-line.ensures.ok pieces (line_fits line) (ap texts c.as_slice.ensures.value ∙ list) in
    nothing_asked (said_in c.in_ok-line.line) (line_says (said_in c.in_ok-line.line) line means) (c.request.ensures.err usage)

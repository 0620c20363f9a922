use Rattle.std.proofs.Common.{sym, ◌∙◌, ap}
use Rattle.cli_words.specs.Canon.{canonical}
use Rattle.cli_words.specs.Pass.{pieces_of, is_taken}
use Rattle.cli_words.specs.declared.read.WordsError.TheVariants.{Usage}
use Rattle.cli_words.proofs.Steps.{handed_on}
use Rattle.cli_words.proofs.Reading.{not_cut, not_taken}
use Rattle.cli_words.proofs.read.canonical_line.Goals as goal

pub returns-in_err-pieces-clause-refused : goal.returns-in_err-pieces-clause-refused
returns-in_err-pieces-clause-refused c = λ usage.
    let same = handed_on c.from_residual.result Usage c.in_err-pieces.field-0.0 c.from_residual.ensures.1 usage in
    not_cut (c.in_err-pieces.ensures.err same)

pub returns-then-not-is_taken-clause-refused : goal.returns-then-not-is_taken-clause-refused
returns-then-not-is_taken-clause-refused c = λ usage.
    not_taken (pieces_of c.in_ok-pieces.pieces.items) c.in_ok-pieces.ensures.ok
    (ap (λ x. is_taken c.args.offers.now c.args.command (pieces_of x)) (sym c.as_slice.ensures.value) ∙ sym c.is_taken.ensures ∙ c.if-not-is_taken.true)

pub returns-clause-ok : goal.returns-clause-ok
returns-clause-ok c =
    let pieces = ap pieces_of c.as_slice.ensures.value in (
      pieces_of c.in_ok-pieces.pieces.items,
      record {
        offered = sym c.is_offered.ensures ∙ c.if-not-is_offered.false;
        spelt = c.in_ok-pieces.ensures.ok;
        taken = ap (is_taken c.args.offers.now c.args.command) (sym pieces) ∙ sym c.is_taken.ensures ∙ c.if-not-is_taken.false;
      },
      c.in_ok-canonical.ensures ∙ ap (canonical c.args.command) (ap pieces_of c.as_slice-2.ensures.value),
    )

use Rattle.std.proofs.Common.{sym, ◌∙◌, ap}
use Rattle.text_lines.specs.Word.{are_digits}
use Rattle.cli_words.proofs.Numbers.{read_number}
use Rattle.cli_words.proofs.fill.decimal.Goals as goal

pub returns : goal.returns
returns c =
    c.ok.ensures.value
    ∙ read_number c.args.text.now c.parse.result (ap (are_digits 10) (sym c.as_bytes.ensures.value) ∙ sym c.is_numeral.ensures ∙ c.if-not-is_numeral.false) c.parse.ensures.value.0

use Rattle.std.proofs.Common.{◌≡◌, ◌∙◌, subst, true}
use Rattle.std.specs.Str.Parse.{ParsesUnsigned}
use Rattle.text_lines.specs.Text.{Text}
use Rattle.text_lines.specs.Word.{are_digits}
use Rattle.text_lines.proofs.WordLemmas.{parsed_number}
use Rattle.text_lines.proofs.word.number_in_base.Goals as goal

pub returns : goal.returns
returns c =
    let digits : are_digits c.args.base c.args.digits.now ≡ true = cc in
    let Parses : Text → Type 0 = λ text. ParsesUnsigned 64 c.args.base text c.from_str_radix.result in
    c.ok.ensures.value ∙ parsed_number c.args.base c.args.digits.now c.from_str_radix.result c.requires.high digits (subst Parses c.in_ok-text.ensures.value c.from_str_radix.ensures.value)

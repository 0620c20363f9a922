use Rattle.std.proofs.Common.{◌≡◌, ◌∷◌, Some, sym, ◌∙◌, ap, string_bytes}
use Rattle.text_lines.specs.Text.{Text}
use Rattle.cli_words.specs.Grammar.{texts}
use Rattle.cli_words.specs.Table.{command_named}
use Rattle.cli_words.proofs.Reading.{named_from, as_whole, as_none}
use Rattle.cli_words.proofs.read.read_words.Goals as goal

pub returns-clause-read : goal.returns-clause-read
returns-clause-read c =
    let words : texts c.args.words.now ≡ string_bytes c.in-Some.name.now ∷ texts c.in-Some.rest.now = ap texts c.in-Some.ensures.cases.0 in
    let named : command_named (string_bytes c.in-Some.name.now) ≡ Some c.in-Some-named.command =
    ap command_named (sym c.as_str.ensures.value) ∙ sym c.named.ensures ∙ c.in-Some-named.is in
    as_whole c.args.offers.now c.in-Some-named.command (string_bytes c.in-Some.name.now) (texts c.in-Some.rest.now) (texts c.args.words.now)
    words named c.read_behind.result c.read_behind.ensures.read

pub returns-clause-refused : goal.returns-clause-refused
returns-clause-refused c = λ usage.
    let words : texts c.args.words.now ≡ string_bytes c.in-Some.name.now ∷ texts c.in-Some.rest.now = ap texts c.in-Some.ensures.cases.0 in
    let named : command_named (string_bytes c.in-Some.name.now) ≡ Some c.in-Some-named.command =
    ap command_named (sym c.as_str.ensures.value) ∙ sym c.named.ensures ∙ c.in-Some-named.is in
    as_none c.args.offers.now c.in-Some-named.command (string_bytes c.in-Some.name.now) (texts c.in-Some.rest.now) (texts c.args.words.now)
    words named (c.read_behind.ensures.refused usage)

pub returns-clause-no_memory : goal.returns-clause-no_memory
returns-clause-no_memory c = λ wanting.
    let words : texts c.args.words.now ≡ string_bytes c.in-Some.name.now ∷ texts c.in-Some.rest.now = ap texts c.in-Some.ensures.cases.0 in
    let named : command_named (string_bytes c.in-Some.name.now) ≡ Some c.in-Some-named.command =
    ap command_named (sym c.as_str.ensures.value) ∙ sym c.named.ensures ∙ c.in-Some-named.is in
    let name = named_from (string_bytes c.in-Some.name.now) c.in-Some-named.command named in (
      c.in-Some-named.command,
      texts c.in-Some.rest.now,
      words ∙ ap (λ (x : Text). x ∷ texts c.in-Some.rest.now) name,
      c.read_behind.ensures.no_memory wanting,
    )

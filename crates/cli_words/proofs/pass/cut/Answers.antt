use Rattle.std.proofs.Common.{◌≡◌, ◌<◌, List, length, drop, option_map, sym, ◌∙◌, ap, subst, arith, ◌+◌, ◌∷◌}
use Rattle.text_lines.specs.Text.{Text}
use Rattle.cli_words.specs.Grammar.{Piece, texts}
use Rattle.cli_words.specs.Pass.{cut, pieces_of, next_of}
use Rattle.cli_words.specs.declared.pass.State.TheVariants.{Between}
use Rattle.cli_words.proofs.CodeSteps.{IsCutTo, cut_next, cut_stops, cut_done, cut_waits, texts_left, none_left}
use Rattle.cli_words.proofs.pass.cut.Goals as goal

pub loop-word-preserved : goal.loop-word-preserved
loop-word-preserved c =
    let within : c.loop-word.word-index < length c.args.words.now = omega arith in
    let left = texts_left c.args.words.now c.loop-word.word-index c.word-item.result within in
    let left_is : texts (drop c.loop-word.word-index c.args.words.now) ≡ c.as_str.result.now ∷ texts (drop (c.loop-word.word-index + 1) c.args.words.now) = cc in
    let From : List Text → Type 0 = λ rest. IsCutTo (cut Between (texts c.args.words.now)) (pieces_of c.loop-word.pieces.items) c.loop-word.state rest in
    let To : List Piece → Type 0 = λ pieces. IsCutTo (cut Between (texts c.args.words.now)) pieces c.in-Some.next.state (texts (drop (c.loop-word.word-index + 1) c.args.words.now)) in
    let next = cut_next (next_of c.in-Some.next) (subst From left_is c.loop-word.invariant) (sym c.step.ensures ∙ ap (option_map next_of) c.in-Some.is) in
    subst To (sym c.in_ok-keep.ensures.ok) next

pub returns-in_default-clause-err : goal.returns-in_default-clause-err
returns-in_default-clause-err c = λ e.
    let within : c.loop-word.word-index < length c.args.words.now = omega arith in
    let left = texts_left c.args.words.now c.loop-word.word-index c.word-item.result within in
    let left_is : texts (drop c.loop-word.word-index c.args.words.now) ≡ c.as_str.result.now ∷ texts (drop (c.loop-word.word-index + 1) c.args.words.now) = cc in
    let From : List Text → Type 0 = λ rest. IsCutTo (cut Between (texts c.args.words.now)) (pieces_of c.loop-word.pieces.items) c.loop-word.state rest in
    cut_stops (subst From left_is c.loop-word.invariant) (sym c.step.ensures ∙ ap (option_map next_of) c.in_default.is)

pub returns-in-Between : goal.returns-in-Between
returns-in-Between c =
    let none = none_left c.args.words.now c.loop-word.word-index c.loop-word-test.false in
    record { ok = cut_done c.loop-word.invariant none c.in-Between.is; err = λ e. cc }

pub returns-clause-err : goal.returns-clause-err
returns-clause-err c = λ e.
    let none = none_left c.args.words.now c.loop-word.word-index c.loop-word-test.false in
    cut_waits c.in-Awaiting.field-0 c.loop-word.invariant none c.in-Awaiting.is

use Rattle.std.proofs.Common.{List, Bor, map, ◌<◌, length, arith}
use Rattle.std.proofs.lemmas.List.{length-map}
use Rattle.text_lines.specs.Text.{Text}
use Rattle.bristol_reader.proofs.CappedLemmas.{gives_same, adds_same}
use Rattle.bristol_reader.proofs.line.with_line.Goals as goal

pub returns : goal.returns
returns c =
    let ws : List Text = map (λ (word : Bor Text). word.now) c.args.words.now in
    let few : length ws < 18446744073709551615 = simp length-map (omega arith) in
    let most = c.wires-wires.ensures.most in
    let value = c.wires-wires.ensures.value in
    gives_same (λ b. b) c.with_line_kept.result _ _ (adds_same c.args.builder ws (omega arith) few) c.with_line_kept.ensures

use Rattle.std.proofs.Common.{List, Bor, map, ◌<◌, length, arith}
use Rattle.std.proofs.lemmas.List.{length-map}
use Rattle.text_lines.specs.Text.{Text}
use Rattle.bristol_reader.proofs.CappedLemmas.{gives_same, widths_same}
use Rattle.bristol_reader.proofs.header.widths_said.Goals as goal

pub returns-clause-value : goal.returns-clause-value
returns-clause-value c =
    let ws : List Text = map (λ (word : Bor Text). word.now) c.args.words.now in
    let few : length ws < 18446744073709551615 = simp length-map (omega arith) in
    gives_same (λ w. w) c.widths_kept.result _ _ (widths_same c.args.ends c.args.wires ws (omega arith) few) c.widths_kept.ensures.value

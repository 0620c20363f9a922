use Rattle.std.proofs.Common.{◌++◌, ◌∙◌, List, ℕ, ap}
use Rattle.bristol_reader.specs.Written.{spaced}
use Rattle.bristol_reader.proofs.WriteLemmas.{on_ok, widths_line}
use Rattle.bristol_reader.proofs.write.push_widths.Goals as goal

pub returns : goal.returns
returns c = on_ok c.push_text.result
    (λ last. widths_line c.args.widths.now c.args.out.now.items c.push_number.new.out.items c.push_spaced.new.out.items c.push_text.new.out.items c.from.result (c.from.ensures ∙ c.len.ensures.value) c.in_ok-push_number.ensures (c.in_ok-push_spaced.ensures ∙ ap (λ (ns : List ℕ). c.push_number.new.out.items ++ spaced ns) c.as_slice.ensures) last)
    c.push_text.ensures

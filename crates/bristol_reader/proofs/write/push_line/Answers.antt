use Rattle.std.proofs.Common.{List, ℕ, ◌++◌, ◌∙◌, ap}
use Rattle.bristol_reader.specs.Stored.{a_gate}
use Rattle.bristol_reader.proofs.WriteLemmas.{on_ok, gate_line}
use Rattle.bristol_reader.proofs.write.push_line.Goals as goal

pub returns : goal.returns
returns c = on_ok c.push_text-4.result
    (λ last. gate_line (a_gate c.args.kind c.args.ins.now c.args.outs.now) c.args.out.now.items _ _ _ _ _ _ _ _ c.in_ok-push_number.ensures c.in_ok-push_text.ensures c.in_ok-push_number-2.ensures c.in_ok-push_spaced.ensures c.in_ok-push_spaced-2.ensures c.in_ok-push_text-2.ensures (c.in_ok-push_text-3.ensures ∙ ap (λ (t : List ℕ). c.push_text-2.new.out.items ++ t) c.name.ensures) last)
    c.push_text-4.ensures

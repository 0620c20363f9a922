use Rattle.std.proofs.Common.{List, ℕ, [], ◌∷◌, ◌++◌, ◌∙◌, ap}
use Rattle.std.specs.Fmt.{decimal}
use Rattle.mixed_circuit.proofs.WriteLemmas.{on_ok, headers_are}
use Rattle.mixed_circuit.proofs.write.push_headers.Goals as goal

pub returns : goal.returns
returns c = on_ok c.push_text-2.result
    (λ last. last
    ∙ ap (λ (t : List ℕ). t ++ 10 ∷ []) (c.in_ok-push_number.ensures ∙ ap (λ (n : ℕ). c.push_text.new.out.items ++ decimal n) c.from.ensures ∙ ap (λ (t : List ℕ). t ++ decimal c.args.parties) c.in_ok-push_text.ensures)
    ∙ headers_are c.args.parties c.args.out.now.items)
    c.push_text-2.ensures

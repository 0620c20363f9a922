-- Whether the output wires are set.
use Rattle.std.proofs.Common.{ℕ, ◌≡◌, ◌<◌, ◌≤◌, ◌-◌, Bool, true, false, List, get_or, sym, ◌∙◌, arith}
use Rattle.std.specs.Prelude.{sum}
use Rattle.bristol_reader.specs.Circuit.{Circuit, is_set, are_outputs_set}
use Rattle.bristol_reader.specs.Built.{IsKept}
use Rattle.bristol_reader.proofs.BoolLemmas.{all_in_row, one_not_in_row}

pub outputs_set : (stated : ℕ) (c : Circuit) (told : List Bool) (from : ℕ) → IsKept stated c told → from ≡ c.wires - sum c.outputs → ((w : ℕ) → from ≤ w → w < c.wires → get_or told w false ≡ true) → are_outputs_set c ≡ true
unfolding are_outputs_set
outputs_set stated c told from kept start h =
    let few = kept.built.few_outputs in
    all_in_row (is_set c) (c.wires - sum c.outputs) (sum c.outputs)
    (λ w low high. sym (kept.tells w (omega arith)) ∙ h w (omega arith) (omega arith))

pub output_unset : (stated : ℕ) (c : Circuit) (told : List Bool) (w : ℕ) → IsKept stated c told → c.wires - sum c.outputs ≤ w → w < c.wires → get_or told w false ≡ false → are_outputs_set c ≡ false
unfolding are_outputs_set
output_unset stated c told w kept low high e =
    let few = kept.built.few_outputs in
    one_not_in_row (is_set c) (c.wires - sum c.outputs) (sum c.outputs) w low (omega arith) (sym (kept.tells w high) ∙ e)

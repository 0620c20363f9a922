use Rattle.std.proofs.Common.{◌≡◌, ap, ℕ, List, length, Some, arith}
use Rattle.std.specs.Prelude.{slice_get}
use Rattle.circuit_values.proofs.WidthLemmas.{value_width_at}
use Rattle.text_tests.proofs.values.words_of.Goals as goal

pub bits-x-requires-clause-there : goal.bits-x-requires-clause-there
bits-x-requires-clause-there c =
    let width = value_width_at c.in_ok-inputs.inputs c.in_ok-values.values 0 64 c.in_ok-values.ensures.widths (ap (λ (ws : List ℕ). slice_get ws 0) c.in_ok-inputs.ensures.widths) in
    omega arith

pub bits-y-requires-clause-there : goal.bits-y-requires-clause-there
bits-y-requires-clause-there c =
    let width = value_width_at c.in_ok-inputs.inputs c.in_ok-values.values 1 4 c.in_ok-values.ensures.widths (ap (λ (ws : List ℕ). slice_get ws 1) c.in_ok-inputs.ensures.widths) in
    omega arith

pub bits-low-requires-clause-there : goal.bits-low-requires-clause-there
bits-low-requires-clause-there c =
    let width = value_width_at c.in_ok-inputs.inputs c.in_ok-values.values 2 100 c.in_ok-values.ensures.widths (ap (λ (ws : List ℕ). slice_get ws 2) c.in_ok-inputs.ensures.widths) in
    omega arith

pub bits-high-requires-clause-there : goal.bits-high-requires-clause-there
bits-high-requires-clause-there c =
    let width = value_width_at c.in_ok-inputs.inputs c.in_ok-values.values 2 100 c.in_ok-values.ensures.widths (ap (λ (ws : List ℕ). slice_get ws 2) c.in_ok-inputs.ensures.widths) in
    omega arith

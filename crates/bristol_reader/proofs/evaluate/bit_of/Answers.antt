use Rattle.std.proofs.Common.{ℕ, ◌∙◌, ap}
use Rattle.std.specs.Prelude.{◌==◌}
use Rattle.bristol_reader.proofs.InputLemmas.{one_bit}
use Rattle.bristol_reader.proofs.evaluate.bit_of.Goals as goal

pub returns : goal.returns
returns c = ap (λ (n : ℕ). n == 1) c.bits.ensures.value ∙ one_bit _ c.args.at c.requires

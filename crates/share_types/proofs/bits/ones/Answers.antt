use Rattle.std.proofs.Common.{◌-◌, ap, ◌∙◌, arith}
use Rattle.std.specs.Prelude.{◌^◌}
use Rattle.std.proofs.lemmas.Nat.Bits.{ones_shr}
use Rattle.share_types.proofs.bits.ones.Goals as goal

pub returns : goal.returns
returns c = ones_shr 64 (64 - c.args.width) (omega arith) ∙ ap (λ width. 2 ^ width - 1) (omega arith)

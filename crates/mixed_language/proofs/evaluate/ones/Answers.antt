use Rattle.std.proofs.Common.{◌≡◌, ◌-◌, ◌^◌, ap, ◌∙◌, arith}
use Rattle.std.proofs.lemmas.Nat.Bits.{ones_shr}
use Rattle.mixed_language.proofs.evaluate.ones.Goals as goal

pub returns : goal.returns
returns c =
    let whole : 64 - (64 - c.args.width) ≡ c.args.width = omega arith in
    c.shifted_down.ensures ∙ (ones_shr 64 (64 - c.args.width) (omega arith) ∙ ap (λ width. 2 ^ width - 1) whole)

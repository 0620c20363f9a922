use Rattle.std.proofs.Common.{◌+◌, ◌∙◌, refl}
use Rattle.bmr_keys.specs.Hiding.{zero_key_of}
use Rattle.bmr_keys.proofs.Parts.{made-fresh}
use Rattle.bmr_keys.proofs.part.MaskPart.from_stock.Goals as goal

pub returns : goal.returns
returns c =
    made-fresh c.args.parties c.args.part.now (λ i. zero_key_of c.args.seed.now.0 (c.args.first + i)) _ c.requires.owners
    refl c.bits_of.ensures.number (c.new.ensures ∙ c.in_ok-keys.ensures) (c.new-2.ensures ∙ c.in_ok-times.ensures)

use Rattle.std.proofs.Common.{rules}
use Rattle.bmr_keys.proofs.Parts.{joined-parts}
use Rattle.bmr_keys.proofs.part.MaskPart.join.Goals as goal

pub returns : goal.returns
returns c = λ n u v p q.
    let self = c.args.self.now in
    let high = c.args.high.now in
    joined-parts n self.mask.width high.mask.width u v self high _ p q
    c.join.ensures.width c.join.ensures.word self.mask.in_width (search rules) (search rules)

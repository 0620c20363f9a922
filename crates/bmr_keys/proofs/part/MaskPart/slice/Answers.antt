use Rattle.std.proofs.Common.{◌≡◌, ◌∙◌, rules}
use Rattle.bmr_keys.proofs.Parts.{owners-are, sliced}
use Rattle.bmr_keys.proofs.part.MaskPart.slice.Goals as goal

pub returns : goal.returns
returns c = λ n u p.
    let self = c.args.self.now in
    let width = self.mask.width in
    let owners : c.owners-owners.result ≡ n = c.owners-owners.ensures ∙ owners-are n width u self p self.mask.some_width in
    sliced n width c.args.at c.args.width c.owners-owners.result u self _ p c.requires.inside owners
    c.slice.ensures.width c.slice.ensures.word (search rules) (search rules)

use Rattle.std.proofs.Common.{◌≡◌, ◌∙◌, ap, length}
use Rattle.share_types.specs.Keys.{◌⊕◌}
use Rattle.bmr_keys.proofs.Parts.{owners-are, told_of, flipped}
use Rattle.bmr_keys.proofs.part.MaskPart.flip.Goals as goal

pub returns : goal.returns
returns c = λ n u p.
    let self = c.args.self.now in
    let width = self.mask.width in
    let owners : c.owners-owners.result ≡ n = c.owners-owners.ensures ∙ owners-are n width u self p self.mask.some_width in
    flipped n width c.args.me.0 c.args.offset.0 c.args.c.word u self _ p
    c.xor.ensures.width (c.xor.ensures.word ∙ ap (λ m. self.mask.word ⊕ m) c.public_part.ensures.word)
    (c.in_ok-keys.ensures ∙ c.as_slice.ensures)
    (c.in_ok-times.ensures.count ∙ ap length c.as_slice-2.ensures)
    (told_of c.owners-owners.result n c.args.c.width width c.args.me.0 c.args.offset.0 c.args.c.word _ _ _ owners c.requires.width c.as_slice-2.ensures
    c.in_ok-times.ensures.keys)

use Rattle.std.proofs.Common.{◌∙◌}
use Rattle.share_types.proofs.BitsLemmas.{shifted}
use Rattle.mixed_language.proofs.evaluate.shifted_down.Goals as goal

pub returns : goal.returns
returns c =
    let shown = rw c.from.ensures at c.checked_shr.ensures in
    c.unwrap_or.ensures ∙ shifted c.args.x c.args.places c.checked_shr.result c.ranges.x.fits shown

use Rattle.std.proofs.Common.{◌∙◌}
use Rattle.mixed_language.proofs.EvalLemmas.{moved}
use Rattle.mixed_language.proofs.evaluate.shifted_up.Goals as goal

pub returns : goal.returns
returns c =
    let shown = rw c.from.ensures at c.checked_shl.ensures in
    c.unwrap_or.ensures ∙ moved c.args.x c.args.places c.checked_shl.result shown

use Rattle.std.proofs.Common.{◌≡◌, ◌∙◌, rules}
use Rattle.bmr_eval.proofs.Onlines.{owners-are, sliced}
use Rattle.bmr_eval.proofs.linear.eval_slice.Goals as goal

pub returns : goal.returns
returns c = λ n a p.
    let u = c.args.u.now in
    let width = u.masked.width in
    let owners : c.owners-owners.result ≡ n = c.owners-owners.ensures ∙ owners-are n width a u p u.masked.some_width in
    sliced n width c.args.at c.args.width c.owners-owners.result a u _ p c.requires.inside owners
    c.slice.ensures.width c.slice.ensures.word (search rules)

use Rattle.std.proofs.Common.{rules}
use Rattle.bmr_eval.proofs.Onlines.{joined}
use Rattle.bmr_eval.proofs.linear.eval_join.Goals as goal

pub returns : goal.returns
returns c = λ n a b p q.
    let u = c.args.u.now in
    joined n u.masked.width c.args.high.now.masked.width a b u c.args.high.now _ p q
    c.join.ensures.width c.join.ensures.word u.masked.in_width (search rules)

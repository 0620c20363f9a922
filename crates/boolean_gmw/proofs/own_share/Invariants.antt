use Rattle.std.proofs.Common.{◌≡◌}
use Rattle.boolean_gmw.specs.Sharing.{own_word}
use Rattle.boolean_gmw.proofs.own_share.Given as goal

abbrev pub invariant-loop-to : goal.invariant-loop-to
invariant-loop-to l = (l.own.word ≡ own_word l.fn.x l.tape l.me.0 l.to) × (l.own.width ≡ l.fn.x.width)

use Rattle.std.proofs.Common.{◌≡◌}
use Rattle.share_types.specs.Sums.{xor_to}
use Rattle.share_types.specs.Keys.{◌⊕◌, key_of}
use Rattle.bmr_keys.specs.Hiding.{hiding_key}
use Rattle.bmr_eval.proofs.evaluate.Evaluator.key.Given as goal

abbrev pub invariant-loop-q : goal.invariant-loop-q
invariant-loop-q l =
    l.key.0 ≡ l.initial.key.0 ⊕ xor_to l.q (λ q.
    hiding_key (key_of l.self.table.now.parties l.self.u.now.keys l.i q) (key_of l.self.table.now.parties l.self.v.now.keys l.i q)
    l.self.gate l.i l.r l.j)

use Rattle.std.proofs.Common.{◌≡◌, [], ◌∷◌, ◌++◌, ap, ◌∙◌, arith}
use Rattle.std.specs.Option.{option_to_list}
use Rattle.pool_workers.specs.Sums.{times_in}
use Rattle.pool_workers.specs.Shifts.{lists}
use Rattle.pool_workers.proofs.Pools.{lists-snoc}
use Rattle.pool_workers.proofs.shift.run_rest.Goals as goal

pub returns-clause-ran : goal.returns-clause-ran
returns-clause-ran g c = λ x.
    let whole : c.args.ran.now.items ≡ c.pop.new.self.items ++ c.in-Some.last ∷ [] = c.pop.ensures.items ∙ ap (λ r. c.pop.new.self.items ++ option_to_list r) c.in-Some.is in
    let old = ap (λ r. times_in x (lists r)) whole in
    let new = ap (λ r. times_in x (lists r)) c.in_ok-push.ensures.items in
    let a = lists-snoc x c.pop.new.self.items c.in-Some.last in
    let b = lists-snoc x c.pop.new.self.items c.finish.new.ran in
    omega (arith, old, new, a, b, c.requires.ran x, c.in_ok-finish.ensures.ran x)

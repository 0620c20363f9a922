use Rattle.std.proofs.Common.{subst, arith}
use Rattle.std.specs.Prelude.{IfOk}
use Rattle.pool_workers.specs.Shifts.{IsShift}
use Rattle.pool_workers.proofs.Pools.{popped, pushed}
use Rattle.pool_workers.proofs.shift.all_well.Goals as goal

pub loop-result-preserved : goal.loop-result-preserved
loop-result-preserved g c =
    let i = c.loop-result.invariant in
    let a = popped (λ r. IfOk r (IsShift g.M.Meaning.edges c.args._pool.now.shared.table_id g.M.Meaning.items g.H.Hints.bound)) c.loop-result.results.items c.pop.new.self.items c.pop.result c.in-Some.result c.pop.ensures.items c.in-Some.is i.results in
    let w = subst (λ r. IfOk r (IsShift g.M.Meaning.edges c.args._pool.now.shared.table_id g.M.Meaning.items g.H.Hints.bound)) c.in_ok-shift.was a.1 in
    let b = pushed (IsShift g.M.Meaning.edges c.args._pool.now.shared.table_id g.M.Meaning.items g.H.Hints.bound) c.loop-result.shifts.items c.push.new.self.items c.in_ok-shift.shift c.in_ok-push.ensures.items i.worked w in
    record { over = omega (arith, a.2, b.1, i.over); results = a.0; worked = b.0 }

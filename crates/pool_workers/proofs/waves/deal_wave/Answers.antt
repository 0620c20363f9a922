use Rattle.std.proofs.Common.{arith}
use Rattle.pool_workers.specs.Shifts.{IsShift}
use Rattle.pool_workers.proofs.Pools.{popped, pushed}
use Rattle.pool_workers.proofs.waves.deal_wave.Goals as goal

pub loop-shift-preserved-then-me-items : goal.loop-shift-preserved-then-me-items
loop-shift-preserved-then-me-items g c =
    let i = c.loop-shift.invariant in
    let s = c.in-Some.shift in
    let a = popped (IsShift g.M.Meaning.edges c.args._pool.now.shared.table_id g.M.Meaning.items (λ h. g.L.Limit.limit)) c.loop-shift.shifts.items c.pop.new.self.items c.pop.result s c.pop.ensures.items c.in-Some.is i.waiting in
    let b = pushed (IsShift g.M.Meaning.edges c.args._pool.now.shared.table_id g.M.Meaning.items (λ h. g.L.Limit.limit)) c.loop-shift.busy.items c.push.new.self.items (record { worker = s.worker; hints = c.deal.new.self; ran = s.ran }) c.in_ok-push.ensures.items i.busy a.1 in
    record { over = omega (arith, a.2, b.1, i.over); many = i.many; waiting = a.0; busy = b.0; idle = i.idle }

pub loop-shift-preserved : goal.loop-shift-preserved
loop-shift-preserved g c =
    let i = c.loop-shift.invariant in
    let s = c.in-Some.shift in
    let a = popped (IsShift g.M.Meaning.edges c.args._pool.now.shared.table_id g.M.Meaning.items (λ h. g.L.Limit.limit)) c.loop-shift.shifts.items c.pop.new.self.items c.pop.result s c.pop.ensures.items c.in-Some.is i.waiting in
    let b = pushed (IsShift g.M.Meaning.edges c.args._pool.now.shared.table_id g.M.Meaning.items (λ h. g.L.Limit.limit)) c.loop-shift.idle.items c.push-in-Some.new.self.items (record { worker = s.worker; hints = c.deal.new.self; ran = s.ran }) c.in_ok-push-2.ensures.items i.idle a.1 in
    record { over = omega (arith, a.2, b.1, i.over); many = i.many; waiting = a.0; busy = i.busy; idle = b.0 }

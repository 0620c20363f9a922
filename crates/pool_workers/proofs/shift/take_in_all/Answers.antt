use Rattle.std.proofs.Common.{length, ap, ◌∙◌, arith}
use Rattle.std.proofs.lemmas.List.{length_push}
use Rattle.pool_workers.specs.Shifts.{IsShift}
use Rattle.pool_workers.proofs.Pools.{popped, idle_both, ran_both}
use Rattle.pool_workers.proofs.shift.take_in_all.Goals as goal

pub loop-shift-preserved : goal.loop-shift-preserved
loop-shift-preserved g c =
    let i = c.loop-shift.invariant in
    let s = c.in-Some.shift in
    let a = popped (IsShift g.M.Meaning.edges c.args.pool.now.shared.table_id g.M.Meaning.items g.H.Hints.bound) c.loop-shift.shifts.items c.pop.new.self.items c.pop.result s c.pop.ensures.items c.in-Some.is i.worked in
    let b = idle_both g.M.Meaning.edges c.loop-shift.caller.me c.take_in.new.worker.me c.args.pool.now.shared.table_id s.worker s.ran.items i.idle a.1.0 c.take_in.ensures.both in
    let more = ap length c.in_ok-push.ensures.items ∙ length_push c.loop-shift.rows.items s.ran in
    record {
      table = c.take_in.ensures.table.0 ∙ i.table;
      idle = b.0;
      parts = omega (arith, b.1, i.parts, more);
      over = omega (arith, i.over, more, a.2);
      worked = a.0;
      ran = ran_both g.M.Meaning.edges c.loop-shift.caller.me c.take_in.new.worker.me c.args.pool.now.shared.table_id s.worker s.ran c.loop-shift.rows.items c.push.new.self.items a.1.0 c.take_in.ensures.both c.in_ok-push.ensures.items i.ran;
    }

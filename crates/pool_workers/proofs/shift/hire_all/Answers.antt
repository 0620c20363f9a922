use Rattle.std.proofs.Common.{◌≡◌, ap, ◌∙◌, arith}
use Rattle.pool_workers.specs.Shifts.{IsShift}
use Rattle.pool_workers.proofs.Pools.{popped, pushed, worked_none}
use Rattle.pool_workers.proofs.shift.hire_all.Goals as goal

pub loop-end-preserved : goal.loop-end-preserved
loop-end-preserved g c =
    let i = c.loop-end.invariant in
    let h = c.hire-worker.ensures in
    let a = popped (λ h. g.H.Hints.bound h ≡ g.M.Meaning.items) c.loop-end.hints.items c.pop.new.self.items c.pop.result c.in-Some.end c.pop.ensures.items c.in-Some.is i.hints in
    let made = worked_none g.M.Meaning.edges c.args.pool.now.shared.table_id c.hire-worker.result c.new.result.items (h.hired.0 ∙ i.table ∙ c.requires.table.0) h.hired.1 c.new.ensures.items in
    let b = pushed (IsShift g.M.Meaning.edges c.args.pool.now.shared.table_id g.M.Meaning.items g.H.Hints.bound) c.loop-end.shifts.items c.push.new.self.items (record { worker = c.hire-worker.result; hints = c.in-Some.end; ran = c.new.result }) c.in_ok-push.ensures.items i.worked (made, a.1) in
    record {
      table = h.table.0 ∙ i.table;
      free = ap (λ m. m.1) h.left ∙ i.free;
      parts = omega (arith, ap (λ m. m.0.parts) h.left, i.parts, i.over, a.2, b.1, c.requires.some_part);
      took = ap (λ m. m.0.took) h.left ∙ i.took;
      gave = ap (λ m. m.0.gave) h.left ∙ i.gave;
      over = omega (arith, a.2, b.1, i.over);
      hints = a.0;
      worked = b.0;
    }

use Rattle.std.proofs.Common.{ℕ, ◌<◌, ◌≤◌, refl, sym, ◌∙◌, subst, arith}
use mathlib.Core.Logic.{dite}
use native.Mathlib.Decide.{ℕ_discrete}
use Rattle.pool_workers.specs.Sums.{times}
use Rattle.pool_workers.proofs.Pools.{none_before}
use Rattle.pool_workers.proofs.shift.finish.Goals as goal

pub loop-item-init : goal.loop-item-init
loop-item-init g c = record { table = refl; idle = c.requires.idle.0; parts = c.requires.idle.1; all = λ x low. absurd (omega arith); ran = λ x. refl }

pub loop-item-preserved : goal.loop-item-preserved
loop-item-preserved g c =
    let i = c.loop-item.invariant in
    let e = c.in_ok-try_number.ensures in
    let is_item : c.loop-item.item < g.M.Meaning.items = omega (arith, c.requires.dag.0) in
    let here = e.done i.parts (none_before g.M.Meaning.items g.M.Meaning.edges c.loop-item.item c.loop-item.worker.me.0 c.requires.dag.2 is_item i.idle.2 i.all) in
    record {
      table = c.try_number.ensures.table.0 ∙ i.table;
      idle = e.idle.0;
      parts = e.idle.1 ∙ i.parts;
      all = λ x low. dite (ℕ_discrete x c.loop-item.item)
          (λ same. subst (λ (n : ℕ). 1 ≤ times n c.try_number.new.worker.me.0.took) (sym same) (omega (arith, here)))
          (λ other. let a = i.all x (omega arith) in omega (arith, e.more x));
      ran = λ x. let a = i.ran x in omega (arith, e.ran x);
    }

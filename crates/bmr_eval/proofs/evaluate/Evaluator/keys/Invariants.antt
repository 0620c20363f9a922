use Rattle.std.proofs.Common.{◌≡◌, ◌/◌, ◌%◌}
use Rattle.share_types.specs.Sums.{each}
use Rattle.bmr_eval.specs.Active.{result_key, online_seen, entries_in}
use Rattle.bmr_eval.proofs.evaluate.Evaluator.keys.Given as goal

abbrev pub invariant-loop-k : goal.invariant-loop-k
invariant-loop-k l =
    l.keys.items ≡ each l.k (λ k. record {
      0 =
          result_key l.self.table.now.parties (entries_in l.self.table.now.parties l.self.table.now) l.self.gate
          (online_seen l.self.table.now.parties l.self.u.now) (online_seen l.self.table.now.parties l.self.v.now)
          (k / l.self.table.now.parties) (k % l.self.table.now.parties);
    })

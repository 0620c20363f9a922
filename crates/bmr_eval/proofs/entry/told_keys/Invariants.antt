use Rattle.std.proofs.Common.{◌≡◌, ◌+◌, ◌/◌, ◌%◌, length}
use Rattle.share_types.specs.Sums.{each}
use Rattle.bmr_eval.specs.Active.{told_key}
use Rattle.bmr_eval.proofs.entry.told_keys.Given as goal

abbrev pub invariant-loop-k : goal.invariant-loop-k
invariant-loop-k l =
    l.keys.items ≡ each l.k (λ k. record { 0 = told_key l.me.0 l.own l.payloads (k / (length l.payloads + 1)) (k % (length l.payloads + 1)) })

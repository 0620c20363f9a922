use Rattle.std.proofs.Common.{refl, lit≤, rules}
use Rattle.library_bench.proofs.Rising.{none_below, one_more, listed}
use Rattle.library_bench.proofs.messages.expected.Goals as goal

pub loop-gate-init : goal.loop-gate-init
loop-gate-init c = rw c.in_ok-slots.ensures.items none_below

pub loop-gate-preserved : goal.loop-gate-preserved
loop-gate-preserved c = rw c.in_ok-push.ensures.items (one_more c.loop-gate.gate c.loop-gate.slots.items _ c.loop-gate.invariant refl refl refl (lit≤ tt, lit≤ tt, tt))

pub returns : goal.returns
returns c = listed c.loop-gate.gate c.loop-gate.slots.items c.loop-gate.invariant (search rules)

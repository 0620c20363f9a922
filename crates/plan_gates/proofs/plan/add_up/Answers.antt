use Rattle.std.proofs.Common.{◌<◌, ◌*◌, sym, arith}
use Rattle.mot_base.specs.Limits.{most_width, most_gates}
use Rattle.plan_gates.proofs.NeedsLemmas.{AreAtMost, offset-most, needs-most}
use Rattle.plan_gates.proofs.plan.add_up.Goals as goal

before : (c : goal.After-needs_at) → AreAtMost c.loop-gate.needs (most_width * c.loop-gate.gate)
before c = rw (sym c.loop-gate.invariant.1) at (offset-most c.args.draft.now c.requires c.loop-gate.gate)

here : (c : goal.After-needs_at) → AreAtMost c.needs_at.result most_width
here c = rw (sym c.needs_at.ensures) at (needs-most c.args.draft.now c.requires c.loop-gate.gate)

below : (c : goal.After-needs_at) → c.loop-gate.gate < most_gates
below c = let few = c.requires.few in let test = c.loop-gate-test.true in let count = c.gates-gate-end.ensures.value in omega arith

pub plus-needs-requires-clause-mult : goal.plus-needs-requires-clause-mult
plus-needs-requires-clause-mult c =
    let a = (before c).mult in let b = (here c).mult in let few = below c in omega arith

pub plus-needs-requires-clause-bit : goal.plus-needs-requires-clause-bit
plus-needs-requires-clause-bit c =
    let a = (before c).bit in let b = (here c).bit in let few = below c in omega arith

pub plus-needs-requires-clause-shared : goal.plus-needs-requires-clause-shared
plus-needs-requires-clause-shared c =
    let a = (before c).shared in let b = (here c).shared in let few = below c in omega arith

pub plus-needs-requires-clause-key : goal.plus-needs-requires-clause-key
plus-needs-requires-clause-key c =
    let a = (before c).key in let b = (here c).key in let few = below c in omega arith

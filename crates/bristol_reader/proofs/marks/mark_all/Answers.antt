use Rattle.std.proofs.Common.{length, refl, sym}
use Rattle.bristol_reader.proofs.BoolLemmas.{below_at}
use Rattle.bristol_reader.proofs.MarkLemmas.{mark_more, mark_fails}
use Rattle.bristol_reader.proofs.marks.mark_all.Goals as goal

pub returns-then-set-wire-clause-new : goal.returns-then-set-wire-clause-new
returns-then-set-wire-clause-new c =
    let bound = below_at (length c.args.set.now) c.args.wires.now c.loop-wire.wire-index c.requires c.loop-wire-test.true in
    sym (mark_fails c.args.set.now c.loop-wire.set c.args.wires.now c.loop-wire.wire-index _ c.loop-wire-test.true refl bound c.loop-wire.invariant c.if-set-wire.true)

pub loop-wire-preserved : goal.loop-wire-preserved
loop-wire-preserved c =
    let bound = below_at (length c.args.set.now) c.args.wires.now c.loop-wire.wire-index c.requires c.loop-wire-test.true in
    mark_more c.args.set.now c.loop-wire.set c.args.wires.now c.loop-wire.wire-index _ c.loop-wire-test.true refl bound c.loop-wire.invariant c.if-set-wire.false

use Rattle.std.proofs.Common.{rules}
use Rattle.frames.proofs.Cuts.{reads_fresh, reads_bad, reads_on}
use Rattle.frames.proofs.reader.take_in.Goals as goal

pub returns-then-is_empty-clause-reads : goal.returns-then-is_empty-clause-reads
returns-then-is_empty-clause-reads c =
    reads_fresh c.args.held.now.items c.args.piece.now c.new-frames.result.items _ _ c.new-frames.ensures.items (search rules) c.in_ok-phase.ensures.reads

pub returns-in-Bad-clause-reads : goal.returns-in-Bad-clause-reads
returns-in-Bad-clause-reads c =
    let found = rw (c.deref.ensures.value, c.in-Bad.is) at c.in_ok-look.ensures in
    rw c.new-frames.ensures.items (reads_bad _ c.complete.new.held.items _ c.in-Bad.fault c.in_ok-rest.ensures.joined found)

pub returns-in_ok-phase-in-Whole-clause-reads : goal.returns-in_ok-phase-in-Whole-clause-reads
returns-in_ok-phase-in-Whole-clause-reads c =
    let found = rw (c.deref.ensures.value, c.in-Whole.is) at c.in_ok-look.ensures in
    reads_on _ c.complete.new.held.items _ c.in-Whole.frame _ _ _ c.in_ok-rest.ensures.joined found.0 found.1 c.in_ok-rest.ensures.one (search rules) c.in_ok-phase-in-Whole.ensures.reads

use Rattle.std.proofs.Common.{length, ◌-◌, ◌≡◌, ◌≤◌, []}
use Rattle.mot_base.proofs.Writing.{HasWritten}
use Rattle.mot_base.proofs.sink.write_all.Given as goal

abbrev pub invariant-loop-written : goal.invariant-loop-written
invariant-loop-written g l =
    HasWritten (g.S.Sink.appended l.initial.out) (g.S.Sink.appended l.out) l.bytes l.written
    × (g.S.Sink.faults l.initial.out ≤ g.S.Sink.faults l.out)
    × (l.bytes ≡ [] → l.out ≡ l.initial.out)

abbrev pub decreases-loop-written : goal.decreases-loop-written
decreases-loop-written g l = length l.bytes - l.written

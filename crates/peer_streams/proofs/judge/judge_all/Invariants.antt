use Rattle.std.proofs.Common.{◌≡◌, ◌++◌}
use Rattle.peer_streams.specs.Reading.{StillKeeps}
use Rattle.peer_streams.proofs.Judged.{AreJudged}
use Rattle.peer_streams.proofs.judge.judge_all.Given as goal

abbrev pub invariant-loop-frame : goal.invariant-loop-frame
invariant-loop-frame l =
    AreJudged l.expected l.fn.inbox l.inbox l.greeted l.is_greeted l.yielded
    × (l.yielded ++ l.frame-iterator.rest.items ≡ l.fn.frames.items)
    × StillKeeps l.fn.inbox l.inbox

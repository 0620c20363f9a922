use Rattle.std.proofs.Common.{List, ℕ, [], ◌++◌, length}
use Rattle.frames.specs.Reading.{StandBefore}
use Rattle.frames.proofs.cut.cut.Given as goal

abbrev pub invariant-cuts : goal.invariant-cuts
invariant-cuts l =
    (before : List ℕ) → StandBefore before l.initial.frames.items [] → StandBefore (before ++ l.bytes) l.frames.items l.rest

abbrev pub decreases-cuts : goal.decreases-cuts
decreases-cuts l = length l.rest

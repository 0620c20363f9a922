use Rattle.std.proofs.Common.{◌-◌, All}
use Rattle.dealer_files.specs.File.{shared_bytes}
use Rattle.dealer_files.specs.Laws.{SharedFits}
use Rattle.dealer_files.specs.Reading.{AreFlags}
use Rattle.dealer_files.proofs.Pieces.{ReadSoFar}
use Rattle.dealer_files.proofs.read.read_shareds.Given as goal

abbrev pub invariant-loop-at : goal.invariant-loop-at
invariant-loop-at l =
    ReadSoFar shared_bytes 9 l.count l._at l.bytes l.list.items l.rest
    × AreFlags l.rest 9 (l.count - l._at)
    × All SharedFits l.list.items

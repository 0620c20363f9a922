use Rattle.std.proofs.Common.{All}
use Rattle.dealer_files.specs.File.{mult_bytes}
use Rattle.dealer_files.specs.Laws.{MultFits}
use Rattle.dealer_files.proofs.Pieces.{ReadSoFar}
use Rattle.dealer_files.proofs.read.read_mults.Given as goal

abbrev pub invariant-loop-at : goal.invariant-loop-at
invariant-loop-at l =
    ReadSoFar mult_bytes 24 l.count l._at l.bytes l.list.items l.rest × All MultFits l.list.items

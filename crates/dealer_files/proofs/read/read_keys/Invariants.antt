use Rattle.std.proofs.Common.{◌<◌, ◌^◌, All}
use Rattle.dealer_files.specs.File.{key_bytes}
use Rattle.dealer_files.proofs.Pieces.{ReadSoFar}
use Rattle.dealer_files.proofs.read.read_keys.Given as goal

abbrev pub invariant-loop-at : goal.invariant-loop-at
invariant-loop-at l =
    ReadSoFar key_bytes 16 l.count l._at l.bytes l.list.items l.rest × All (λ key. key.0 < 2 ^ 128) l.list.items

use Rattle.std.proofs.Common.{◌≡◌, ◌-◌, length, All}
use Rattle.dealer_files.specs.File.{key_bit_bytes, key_bit_size}
use Rattle.dealer_files.specs.Laws.{KeyBitFits}
use Rattle.dealer_files.specs.Reading.{AreFlags}
use Rattle.dealer_files.proofs.Pieces.{ReadSoFar}
use Rattle.dealer_files.proofs.read.read_key_bits.Given as goal

abbrev pub invariant-loop-at : goal.invariant-loop-at
invariant-loop-at l =
    ReadSoFar key_bit_bytes (key_bit_size l.parties) l.count l._at l.bytes l.list.items l.rest
    × AreFlags l.rest (key_bit_size l.parties) (l.count - l._at)
    × All (λ k. length k.times ≡ l.parties) l.list.items
    × All KeyBitFits l.list.items

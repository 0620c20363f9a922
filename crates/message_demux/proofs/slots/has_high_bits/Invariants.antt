use Rattle.std.proofs.Common.{◌≡◌, ◌*◌, ◌-◌, length}
use Rattle.std.specs.List.{list_any}
use Rattle.message_demux.specs.Slots.{vector_bytes, vectors, overflows}
use Rattle.message_demux.proofs.slots.has_high_bits.Given as goal

abbrev pub invariant-loop : goal.invariant-loop
invariant-loop l =
    (l.size ≡ vector_bytes l.width)
    × (length l.rest ≡ (l.count - l.counter) * l.size)
    × (list_any (overflows l.width) (vectors l.count l.size l.payload) ≡ list_any (overflows l.width) (vectors (l.count - l.counter) l.size l.rest))

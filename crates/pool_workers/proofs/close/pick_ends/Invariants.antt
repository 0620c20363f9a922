use Rattle.std.proofs.Common.{◌≡◌, ℕ, ◌<◌, ◌≤◌, false, get_or, length}
use Rattle.std.specs.Prelude.{vec_capacity}
use Rattle.std.specs.Mem.Slots.{slots_items, slots_filled, slots_len}
use Rattle.std.specs.Mem.Slots.Ownership.{Filled}
use Rattle.pool_workers.specs.Sums.{incoming_of}
use Rattle.pool_workers.proofs.Ends.{ArePicked}
use Rattle.pool_workers.proofs.close.pick_ends.Given as goal

abbrev pub invariant-loop-number : goal.invariant-loop-number
invariant-loop-number g l = record {
  same : slots_items l.closed.slots ≡ slots_items l.fn.closed.slots;
  many : slots_len l.closed.slots ≡ length g.M.Meaning.edges;
  full : Filled (slots_filled l.closed.slots) l.number (slots_len l.closed.slots);
  empty : (k : ℕ) → k < l.number → get_or (slots_filled l.closed.slots) k false ≡ false;
  room : length (incoming_of 4294967295 g.M.Meaning.edges) ≤ vec_capacity l.ends;
  picked : ArePicked g.M.Meaning.edges g.M.Meaning.means l.number l.ends.items;
}

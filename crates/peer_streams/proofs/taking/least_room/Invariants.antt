use Rattle.std.proofs.Common.{◌≡◌, ◌<◌, ◌≤◌, ◌+◌, ℕ, Some}
use Rattle.std.specs.List.{slice_get}
use Rattle.mot_base.specs.Limits.{peer_bytes}
use Rattle.peer_streams.specs.Reading.{PeerRead}
use Rattle.peer_streams.proofs.taking.least_room.Given as goal

abbrev pub invariant-loop-peer : goal.invariant-loop-peer
invariant-loop-peer l =
    (0 < l.least) × (l.least ≤ l.length)
    × ((q : ℕ) (peer : PeerRead) → q < l.peer-index → slice_get l.peers q ≡ Some peer → peer.taken + l.least ≤ peer_bytes)

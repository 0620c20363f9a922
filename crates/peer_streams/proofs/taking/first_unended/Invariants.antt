use Rattle.std.proofs.Common.{◌≡◌, ◌≢◌, ◌<◌, ℕ, true, Some}
use Rattle.std.specs.List.{slice_get}
use Rattle.frames.specs.Reading.{has_ended}
use Rattle.peer_streams.specs.Reading.{PeerRead}
use Rattle.peer_streams.proofs.taking.first_unended.Given as goal

abbrev pub invariant-loop-place : goal.invariant-loop-place
invariant-loop-place l =
    (q : ℕ) (peer : PeerRead) → q < l.place → q ≢ l.me.0 → slice_get l.peers q ≡ Some peer → has_ended peer.progress ≡ true

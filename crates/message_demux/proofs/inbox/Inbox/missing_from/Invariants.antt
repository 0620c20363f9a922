use Rattle.std.proofs.Common.{◌≡◌, drop}
use Rattle.std.specs.List.{find}
use Rattle.message_demux.specs.Inbox.{is_missing}
use Rattle.message_demux.proofs.inbox.Inbox.missing_from.Given as goal

abbrev pub invariant-loop-place : goal.invariant-loop-place
invariant-loop-place l =
    (l.spec-items ≡ l.self.slots)
    × (find (is_missing l.self l.peer.0) l.self.slots ≡ find (is_missing l.self l.peer.0) (drop l.place l.self.slots))

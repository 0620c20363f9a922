use Rattle.std.proofs.Common.{◌≡◌, None, replicate}
use Rattle.message_demux.proofs.inbox.Inbox.new.Given as goal

abbrev pub invariant-loop : goal.invariant-loop
invariant-loop l = l.payloads.items ≡ replicate l.counter None

use Rattle.std.proofs.Common.{rules}
use Rattle.message_demux.proofs.Found.{none_yet, none_yet_is}
use Rattle.message_demux.proofs.inbox.Inbox.new.Goals as goal

pub invariant_of-result : goal.invariant_of-result
invariant_of-result c = none_yet c.args.slots.items c.loop.payloads.items c.loop.counter c.loop.invariant c.requires (search rules)

pub returns : goal.returns
returns c = none_yet_is c.args.slots.items c.loop.payloads.items c.loop.counter c.loop.invariant

use Rattle.message_demux.specs.Slots.{slot_at}
use Rattle.peer_streams.proofs.Keeping.{message-keeps, others-stay, still-keeps}
use Rattle.peer_streams.proofs.Options.{always_ok}
use Rattle.peer_streams.proofs.judge.take_message.Goals as goal

pub returns-in-Ok-New-clause-keeps : goal.returns-in-Ok-New-clause-keeps
returns-in-Ok-New-clause-keeps c = λ before keeps.
    always_ok _ c.note_gate.result
    (message-keeps c.args.inbox.now c.args.peer c.args.gate c.args.round c.args.payload before keeps c.in-Ok-New.field-0 c.deliver.new.self c.in-Ok-New.ensures.before c.in-Ok-New.ensures.after)

pub returns-in-Ok-New-clause-still : goal.returns-in-Ok-New-clause-still
returns-in-Ok-New-clause-still c =
    still-keeps c.args.inbox.now (slot_at c.args.peer c.args.gate c.args.round) c.args.payload c.in-Ok-New.field-0 c.deliver.new.self c.in-Ok-New.ensures.before c.in-Ok-New.ensures.after

pub returns-in-Ok-New-clause-others : goal.returns-in-Ok-New-clause-others
returns-in-Ok-New-clause-others c = λ slot other.
    others-stay c.args.inbox.now (slot_at c.args.peer c.args.gate c.args.round) c.args.payload c.in-Ok-New.field-0 c.deliver.new.self c.in-Ok-New.ensures.after slot other

pub returns-in-Ok-Again-clause-keeps : goal.returns-in-Ok-Again-clause-keeps
returns-in-Ok-Again-clause-keeps c = λ before keeps.
    message-keeps c.args.inbox.now c.args.peer c.args.gate c.args.round c.args.payload before keeps c.in-Ok-Again.field-0 c.deliver.new.self c.in-Ok-Again.ensures.before c.in-Ok-Again.ensures.after

use Rattle.std.proofs.Common.{rules}
use Rattle.std.proofs.lemmas.List.Sorted.{answers_always}
use Rattle.message_demux.specs.Slots.{slot_of}
use Rattle.message_demux.proofs.Places.{searched}
use Rattle.message_demux.proofs.slots.place_of.Goals as goal

pub returns : goal.returns
returns c =
    let facts = c.binary_search_by_key.ensures in
    let by_key = facts.position slot_of (answers_always _ _ _ (λ f a r g called. search rules)) in
    rw c.ok.ensures.value (searched c.args.specs.now c.args.slot c.requires _ facts.bound by_key)

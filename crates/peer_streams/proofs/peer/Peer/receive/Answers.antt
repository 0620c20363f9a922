use Rattle.std.proofs.Common.{◌||◌, inl, inr, refl, ap, ◌∙◌}
use Rattle.std.proofs.lemmas.Result.{on_ok_weaker, IfErr-weaker}
use Rattle.peer_streams.specs.Judging.{is_begun}
use Rattle.peer_streams.specs.Reading.{PeerRead}
use Rattle.peer_streams.proofs.Received.{shows-frame, shows-bytes, read-on}
use Rattle.peer_streams.proofs.peer.Peer.receive.Goals as goal

pub returns-in-Err-judge_all-clause-err : goal.returns-in-Err-judge_all-clause-err
returns-in-Err-judge_all-clause-err c =
    let peer : PeerRead = record { expected = c.self.inside.expected; progress = c.self.inside.reader; taken = c.self.inside.taken; greeted = c.self.inside.greeted } in
    rw (← c.self.view_is) (λ bytes h.
    let reads = c.in-Ok.ensures.reads bytes h.frames h.reads in
    elim (c.in-Err-judge_all.ensures.err h.frames h.greeted h.keeps) [
      | inl memory ↦ inl memory
      | inr some ↦ inr (shows-frame c.args.inbox.now bytes c.args.piece.now peer h c.in-Ok.fed.frames.items _ reads c.in-Err-judge_all.cause some)
    ])

pub returns-clause-ok : goal.returns-clause-ok
returns-clause-ok c =
    let peer : PeerRead = record { expected = c.self.inside.expected; progress = c.self.inside.reader; taken = c.self.inside.taken; greeted = c.self.inside.greeted } in
    rw (← c.self.view_is) (λ bytes h.
    let reads = c.in-Ok.ensures.reads bytes h.frames h.reads in
    let judged = c.in-Ok-judge_all.ensures.ok h.frames h.greeted h.keeps in
    on_ok_weaker c.check.result
    (λ rest. read-on c.args.inbox.now bytes c.args.piece.now peer h c.in-Ok.fed.frames.items _ reads c.judge_all.new.inbox _ _ refl (c.is_greeted-greeted.ensures ∙ ap (λ xs. peer.greeted || is_begun xs) c.as_slice.ensures.value) c.in-Ok-judge_all.ensures.slots judged.0 judged.1 rest)
    c.check.ensures.ok)

pub returns-clause-err : goal.returns-clause-err
returns-clause-err c =
    let peer : PeerRead = record { expected = c.self.inside.expected; progress = c.self.inside.reader; taken = c.self.inside.taken; greeted = c.self.inside.greeted } in
    rw (← c.self.view_is) (λ bytes h.
    let reads = c.in-Ok.ensures.reads bytes h.frames h.reads in
    let judged = c.in-Ok-judge_all.ensures.ok h.frames h.greeted h.keeps in
    IfErr-weaker c.check.result _ _
    (λ cause rest. inr (shows-bytes c.args.inbox.now bytes c.args.piece.now peer h c.in-Ok.fed.frames.items _ reads _ cause refl judged.0 rest))
    c.check.ensures.err)

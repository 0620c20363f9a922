use Rattle.std.proofs.Common.{◌≡◌, ◌∷◌, ◌++◌, List, [], sym, ap, ◌∙◌, append_assoc}
use Rattle.frames.specs.declared.frame.Frame.{Frame}
use Rattle.peer_streams.proofs.Judged.{judged-more, judged-shows}
use Rattle.peer_streams.proofs.judge.judge_all.Goals as goal

pub loop-frame-preserved : goal.loop-frame-preserved
loop-frame-preserved c =
    let far = c.loop-frame.invariant in
    let next : c.loop-frame.frame-iterator.rest.items ≡ c.in-Some.frame ∷ c.next.new.self.rest.items = c.in-Some.ensures.steps.0 in (
      judged-more c.args.expected.now c.args.inbox.now c.loop-frame.inbox c.judge.new.inbox c.args.greeted c.loop-frame.is_greeted c.loop-frame.yielded c.in-Some.frame far.0 c.in-Ok.ensures.ok c.in-Ok.ensures.slots c.in-Ok.ensures.others,
      append_assoc c.loop-frame.yielded (c.in-Some.frame ∷ []) c.next.new.self.rest.items ∙ ap (λ (xs : List Frame). c.loop-frame.yielded ++ xs) (sym next) ∙ far.1,
      λ q held some. c.in-Ok.ensures.still q held (far.2 q held some),
    )

pub returns-in-Err-clause-err : goal.returns-in-Err-clause-err
returns-in-Err-clause-err c = λ before begun keeps.
    let far = c.loop-frame.invariant in
    let next : c.loop-frame.frame-iterator.rest.items ≡ c.in-Some.frame ∷ c.next.new.self.rest.items = c.in-Some.ensures.steps.0 in
    let whole : c.loop-frame.yielded ++ c.in-Some.frame ∷ c.next.new.self.rest.items ≡ c.args.frames.items = ap (λ (xs : List Frame). c.loop-frame.yielded ++ xs) (sym next) ∙ far.1 in
    rw (← whole)
    (judged-shows c.args.expected.now c.args.inbox.now c.loop-frame.inbox c.args.greeted c.loop-frame.is_greeted c.loop-frame.yielded c.in-Some.frame c.next.new.self.rest.items c.in-Err.cause far.0 c.in-Err.ensures.err before begun keeps)

pub returns-in-Err-clause-still : goal.returns-in-Err-clause-still
returns-in-Err-clause-still c = λ q held some. c.in-Err.ensures.still q held (c.loop-frame.invariant.2 q held some)

pub returns-clause-still : goal.returns-clause-still
returns-clause-still c = c.loop-frame.invariant.2

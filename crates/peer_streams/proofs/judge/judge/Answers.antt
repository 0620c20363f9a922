use Rattle.std.proofs.Common.{inl, inr, sym, ◌∙◌, refl}
use Rattle.std.proofs.lemmas.Result.{on_ok_weaker, IfErr-weaker}
use Rattle.peer_streams.proofs.Judged.{own-hello, own-message, own-end}
use Rattle.peer_streams.proofs.Keeping.{keeps-hello}
use Rattle.peer_streams.proofs.Options.{both_ok}
use Rattle.peer_streams.proofs.judge.judge.Goals as goal

pub returns-in-Hello-clause-ok : goal.returns-in-Hello-clause-ok
returns-in-Hello-clause-ok c = λ before begun keeps.
    rw c.in-Hello.is
    (on_ok_weaker c.check_hello.result
    (λ same. (own-hello c.args.expected.now c.args.inbox.now.slots before c.in-Hello.hello ∙ same, keeps-hello c.args.inbox.now c.args.expected.now.from before _ (λ slot. refl) keeps))
    c.check_hello.ensures.ok)

pub returns-else-not-greeted-clause-ok : goal.returns-else-not-greeted-clause-ok
returns-else-not-greeted-clause-ok c = λ before begun keeps.
    let greeted = sym c.if-not-greeted.false ∙ begun in
    rw c.in-Message.is
    (on_ok_weaker c.take_message.result
    (λ both. (own-message c.args.expected.now c.args.inbox.now before c.in-Message.gate c.in-Message.round c.in-Message.payload greeted keeps ∙ both.0, both.1))
    (both_ok _ _ c.take_message.result c.take_message.ensures.ok (c.take_message.ensures.keeps before keeps)))

pub returns-else-not-greeted-clause-err : goal.returns-else-not-greeted-clause-err
returns-else-not-greeted-clause-err c = λ before begun keeps.
    let greeted = sym c.if-not-greeted.false ∙ begun in
    rw c.in-Message.is
    (IfErr-weaker c.take_message.result _ _
    (λ cause said. elim said [
      | inl memory ↦ inl memory
      | inr shown ↦ inr (own-message c.args.expected.now c.args.inbox.now before c.in-Message.gate c.in-Message.round c.in-Message.payload greeted keeps ∙ shown)
    ])
    c.take_message.ensures.err)

pub returns-else-not-greeted-2-clause-ok : goal.returns-else-not-greeted-2-clause-ok
returns-else-not-greeted-2-clause-ok c = λ before begun keeps.
    let greeted = sym c.if-not-greeted-2.false ∙ begun in
    rw c.in-End.is
    (on_ok_weaker c.check_end.result
    (λ none. (own-end c.args.expected.now c.args.inbox.now before greeted keeps ∙ none, keeps-hello c.args.inbox.now c.args.expected.now.from before _ (λ slot. refl) keeps))
    c.check_end.ensures.ok)

pub returns-else-not-greeted-2-clause-err : goal.returns-else-not-greeted-2-clause-err
returns-else-not-greeted-2-clause-err c = λ before begun keeps.
    let greeted = sym c.if-not-greeted-2.false ∙ begun in
    rw c.in-End.is
    (IfErr-weaker c.check_end.result _ _
    (λ cause shown. inr (own-end c.args.expected.now c.args.inbox.now before greeted keeps ∙ shown))
    c.check_end.ensures.err)

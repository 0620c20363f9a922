use Rattle.std.proofs.Common.{◌∙◌, ◌<◌, sym, ap, inl, inr, subst, take, length}
use Rattle.mot_base.specs.Sink.{with_more}
use Rattle.text_lines.specs.Text.{Text}
use Rattle.command_ends.specs.Outcome.{code_of}
use Rattle.command_ends.proofs.EndLemmas.{cut_at}
use Rattle.command_ends.proofs.ending.write_text.Goals as goal

pub returns-in-Ok-clause-written : goal.returns-in-Ok-clause-written
returns-in-Ok-clause-written g c = λ end text whole cut.
    let appended = g.S.Sink.appended c.args.out.now in
    inl (
      c.in-Ok.ensures.all ∙ ap (with_more appended) (c.as_bytes.ensures.value ∙ sym text),
      c.code.ensures ∙ ap code_of (sym whole),
    )

pub returns-in-Err-clause-written : goal.returns-in-Err-clause-written
returns-in-Err-clause-written g c = λ end text whole cut.
    let written = c.in-Err.field-0.written in
    let fewer : written < length c.args.text.now = subst (λ (text : Text). written < length text) c.as_bytes.ensures.value c.in-Err.ensures.fewer in
    let part = c.in-Err.ensures.part ∙ ap (λ (text : Text). with_more (g.S.Sink.appended c.args.out.now) (take written text)) c.as_bytes.ensures.value in
    inr (c.in-Err.ensures.cause, cut_at _ _ end c.args.text.now written text fewer part, c.code-in-Err.ensures ∙ ap code_of (sym cut))

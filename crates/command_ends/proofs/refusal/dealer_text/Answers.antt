use Rattle.std.proofs.Common.{sym, ◌∙◌}
use Rattle.std.proofs.lemmas.Result.{IfOk-weaker}
use Rattle.command_ends.proofs.RefusalLemmas.{told_by_cause}
use Rattle.command_ends.proofs.refusal.dealer_text.Goals as goal

pub returns-in_default : goal.returns-in_default
returns-in_default c =
    IfOk-weaker c.from_str.result _ _
    (λ text is. is ∙ (c.dealer_word.ensures ∙ sym (told_by_cause c.args.cause c.in_default.not-RecordBits)))
    c.from_str.ensures.ok

use Rattle.std.proofs.Common.{refl, ◌∙◌, ◌+◌, ◌*◌, ◌/◌, ◌%◌, length, ap}
use Rattle.share_types.specs.Sums.{each}
use Rattle.share_types.specs.declared.keys.Key.{Key}
use Rattle.bmr_eval.specs.Active.{told_key}
use Rattle.bmr_eval.proofs.Onlines.{given}
use Rattle.bmr_eval.proofs.entry.gathered.Goals as goal

pub returns : goal.returns
returns c =
    let me = c.args.me.0 in
    let own = c.args.own.now in
    let payloads = c.args.payloads.now in
    let n = length payloads + 1 in
    given n c.args.masked.width (told_key me own payloads) c.args.masked.word _ refl refl
    (c.new.ensures ∙ (c.in_ok-keys.ensures
    ∙ ap (λ w. each {X = Key} (w * n) (λ k. record { 0 = told_key me own payloads (k / n) (k % n) })) c.requires.own))

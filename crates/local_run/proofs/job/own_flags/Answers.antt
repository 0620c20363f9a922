use Rattle.std.proofs.Common.{List, Bool, ◌++◌, ◌∷◌, [], ◌∙◌, ap₂, sym}
use Rattle.local_run.proofs.Seeding.{flags_next}
use Rattle.local_run.proofs.job.own_flags.Goals as goal

pub loop-at-preserved : goal.loop-at-preserved
loop-at-preserved c =
    let next = flags_next c.args.inputs.now c.loop-at.at c.args.party.0 c.party.result c.party.ensures in
    c.in_ok-push.ensures.items
    ∙ (ap₂ (λ (flags : List Bool) (flag : Bool). flags ++ flag ∷ []) c.loop-at.invariant c.eq.ensures ∙ sym next)

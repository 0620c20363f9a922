use Rattle.std.proofs.Common.{sym, subst}
use Rattle.std.proofs.lemmas.Result.{on_ok_weaker}
use Rattle.party_stages.specs.Following.{Progress, HasRun}
use Rattle.party_stages.specs.Scene.{IsScene}
use Rattle.party_stages.proofs.Taking.{taken}
use Rattle.party_stages.proofs.stages.Stages.take.Goals as goal

pub returns-clause-scene : goal.returns-clause-scene
returns-clause-scene c = λ b inbox scene run.
    let next = c.requires in
    let given : HasRun b inbox c.args.ran.gate next.task.stage c.args.ran.given = subst (λ s. HasRun b inbox c.args.ran.gate s c.args.ran.given) next.stage run.run in
    on_ok_weaker c.put.result
    (λ is. subst (λ (p : Progress). IsScene b inbox p) (sym is) (taken b inbox c.args.self.now c.args.ran.gate next.task c.args.ran.given scene run.inside next.unset next.there given))
    c.put.ensures

use Rattle.std.proofs.Common.{List, refl, sym, subst}
use Rattle.std.specs.Prelude.{slice_get}
use Rattle.task_pool.specs.Meanings.{AreMeanings}
use Rattle.local_run.specs.declared.cargo.Cargo.{Cargo}
use Rattle.local_run.specs.Meaning.{IsCargoAt}
use Rattle.local_run.proofs.Giving.{all_alone}
use Rattle.local_run.proofs.outputs.outputs.Goals as goal

pub returns-in_ok-outputs-in-Some : goal.returns-in_ok-outputs-in-Some
returns-in_ok-outputs-in-Some c =
    let all = all_alone c.args.given c.in-Some.value c.args.loads.now c.args.edges.now c.in-Some.is (c.if-gives_no_more.ensures.carried refl) (c.if-gives_no_more.ensures.out refl) c.requires in
    subst (λ (vs : List Cargo). AreMeanings (λ e v. IsCargoAt c.args.given (slice_get c.args.loads.now e) v) c.args.edges.now vs) (sym c.in_ok-outputs-in-Some.ensures) all

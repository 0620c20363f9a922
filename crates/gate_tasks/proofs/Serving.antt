-- What serves a party for a whole plan serves each gate.
use Rattle.std.proofs.Common.{◌≡◌, false, ℕ, ◌+◌, ◌<◌, length, refl, sym, ◌∙◌, subst, arith}
use Rattle.share_types.specs.declared.needs.Needs.{Needs}
use Rattle.share_types.specs.declared.needs.Kind as stock
use Rattle.share_types.specs.declared.needs.Kind.TheVariants.{Mult, Bit, Shared, Key}
use Rattle.share_types.specs.Needs.{count_of, sum_of_needs}
use Rattle.dealer_files.specs.Part.{Part}
use Rattle.plan_gates.specs.Plan.{Gates, has_keys}
use Rattle.plan_gates.specs.Needs.{offset, needs_at, all_needs}
use Rattle.plan_gates.proofs.NeedsLemmas.{records_never_meet}
use Rattle.joint_run.specs.declared.own.Own.{Own}
use Rattle.gate_tasks.specs.Stage.{HasInput, Serves}
use Rattle.gate_tasks.specs.Serving.{ServeParty}

sum_is : (x y : Needs) (kind : stock.Kind) → count_of (sum_of_needs x y) kind ≡ count_of x kind + count_of y kind
sum_is x y Mult = refl
sum_is x y Bit = refl
sum_is x y Shared = refl
sum_is x y Key = refl

pub serves : (plan : Gates) (p g : ℕ) (own : Own) (part : Part) → ServeParty plan p own part → has_keys plan ≡ false →
    g < length plan.gates → Serves plan own part g
serves plan p g own part one unkeyed known = record {
  there = known;
  unkeyed = unkeyed;
  party = one.party ∙ sym one.me;
  parties = one.parties;
  session = one.session;
  input = λ gate there. subst (λ (q : ℕ). HasInput gate q own.inputs) (sym one.me) (one.inputs g gate there);
  records = λ kind some.
      let never = records_never_meet plan g (length plan.gates) kind known in
      let all = one.records kind in
      omega (
        arith,
        never,
        all,
        sum_is own.bases (all_needs plan) kind,
        sum_is (sum_of_needs own.bases (offset plan g)) (needs_at plan g) kind,
        sum_is own.bases (offset plan g) kind,
        sum_is (offset plan g) (needs_at plan g) kind,
      );
}

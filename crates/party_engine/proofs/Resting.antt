-- The last pass: nothing is lacking, and each stage brings its gate nearer to its value.
use Rattle.std.proofs.Common.{ℕ, ◌≡◌, ◌≢◌, ◌<◌, ◌≤◌, ◌+◌, eqb, Bool, true, false, List, [], ◌∷◌, length, get_or, Option, Some, None, refl, sym, ap, subst, ◌∙◌, inl, inr, arith}
use Rattle.std.specs.Prelude.{slice_get, is_none, is_some, option_map}
use Rattle.std.specs.FinMap as m
use Rattle.std.specs.List.{find, AllByRecursion}
use Rattle.std.proofs.lemmas.Bool.{eqb-true, eqb-false, cases_lt}
use Rattle.std.proofs.lemmas.List.{get_or-set_same, get_or-set_other}
use Rattle.std.proofs.lemmas.Option.{slice_get_within, get_or_from_slice_get}
use Rattle.mot_base.proofs.Lists.{some_at}
use Rattle.share_types.specs.Sums.{each}
use Rattle.message_demux.specs.Kept.{InboxContents}
use Rattle.plan_gates.specs.Plan.{IsPlan}
use Rattle.plan_gates.specs.declared.message.Message.{Message}
use Rattle.plan_gates.specs.Messages.{message, stages, awaits}
use Rattle.gate_tasks.specs.declared.value.Value.{Value as ValueInMemory}
use Rattle.gate_tasks.specs.Stage.{operands_at, senders}
use Rattle.gate_tasks.specs.Task.{Task, new_task, gate_lacking, slot_lacking, slot_from}
use Rattle.gate_tasks.specs.Wires.{value_held, with_value}
use Rattle.party_stages.specs.declared.ran.Ran.{Ran}
use Rattle.party_stages.specs.Following.{Side, me_of, Progress, next_task, tasks_after, wires_after, progress_after}
use Rattle.party_stages.specs.Scene.{IsScene, IsReady, IsNext, need_at}
use Rattle.party_stages.proofs.Held.{operands_before}
use Rattle.party_stages.proofs.Taking.{filter_holds, set_here}
use Rattle.party_engine.specs.Rest.{HasCome, AreDoneBelow, HasRunSo}

-- ---- nothing is lacking

found_none : {X : Type 0} (p : X → Bool) (xs : List X) → AllByRecursion (λ x. p x ≡ false) xs → find p xs ≡ None
found_none p [] all = refl
found_none p (x ∷ xs) all = rw all.0 (found_none p xs all.1)

is_there : {X : Type 0} (o : Option X) → o ≢ None → is_none o ≡ false
is_there None some = absurd (some refl)
is_there (Some x) some = refl

some_message : (o : Option Message) → is_some o ≡ true → (m : Message) × (o ≡ Some m)
some_message None e = absurd (cc)
some_message (Some m) e = (m, refl)

gates_there : (p : Progress) (g : ℕ) (xs : List ℕ) → AreDoneBelow p g → AllByRecursion (λ x. x < g) xs → AllByRecursion (λ x. is_none (value_held p.wires x) ≡ false) xs
gates_there p g [] done below = tt
gates_there p g (x ∷ xs) done below = (is_there (value_held p.wires x) (done x below.0), gates_there p g xs done below.1)

module _ (b : Side) (inbox : InboxContents) (come : HasCome b inbox) where
  kept_there : (g round : ℕ) (xs : List ℕ) → AllByRecursion (λ from. is_some (message b.plan from (me_of b) g round) ≡ true) xs → AllByRecursion (λ from. is_none (m.get inbox.kept (slot_from g round from)) ≡ false) xs
  kept_there g round [] all = tt
  kept_there g round (from ∷ froms) all =
      let some = some_message (message b.plan from (me_of b) g round) all.0 in
      (is_there (m.get inbox.kept (slot_from g round from)) (come g round from some.0 some.1), kept_there g round froms all.1)

  slots_there : (g : ℕ) (round : Option ℕ) → slot_lacking b.plan (me_of b) inbox g round ≡ None
  slots_there g None = refl
  slots_there g (Some round) =
      ap (option_map (slot_from g round))
      (found_none (λ from. is_none (m.get inbox.kept (slot_from g round from))) (senders b.plan (me_of b) g round)
      (kept_there g round (senders b.plan (me_of b) g round)
      (filter_holds (λ from. is_some (message b.plan from (me_of b) g round)) (each b.plan.parties (λ q. q)))))

  nothing_lacks : (p : Progress) (g stage : ℕ) → IsPlan b.plan → AreDoneBelow p g → need_at b inbox p g stage ≡ None
  nothing_lacks p g stage plan done =
      let gates : gate_lacking p.wires (operands_at b.plan.gates g) ≡ None =
      found_none (λ x. is_none (value_held p.wires x)) (operands_at b.plan.gates g)
      (gates_there p g (operands_at b.plan.gates g) done (operands_before b.plan g (slice_get b.plan.gates g) refl plan)) in
      rw (gates, slots_there g (awaits b.plan (me_of b) g stage)) refl

  pub ready_is : (p : Progress) (g : ℕ) → IsScene b inbox p → AreDoneBelow p g → g < length b.plan.gates → value_held p.wires g ≡ None → IsReady b inbox p g
  ready_is p g scene done inside unset = record {
    inside = inside;
    unset = unset;
    all = λ task there. nothing_lacks p g task.stage scene.plan done;
  }

-- ---- a stage more

module _ (p : Progress) (ran : Ran) (next : IsNext p ran) (inside : ran.gate < length p.wires) where
  value_now : (v : ValueInMemory) → value_held (with_value p.wires ran.gate v) ran.gate ≡ Some v
  value_now v = get_or-set_same p.wires ran.gate (Some v) None inside

  value_stays : (o : Option ValueInMemory) (x : ℕ) → value_held p.wires x ≢ None → value_held (wires_after p.wires ran.gate o) x ≢ None
  value_stays None x there = there
  value_stays (Some v) x there = by (eqb x ran.gate) refl where
    by : (c : Bool) → eqb x ran.gate ≡ c → value_held (with_value p.wires ran.gate v) x ≢ None
    by true is = absurd (there (ap (value_held p.wires) (eqb-true x ran.gate is) ∙ next.unset))
    by false is = λ none. there (sym (get_or-set_other p.wires ran.gate x (Some v) None (eqb-false x ran.gate is)) ∙ none)

  pub below_stays : (n : ℕ) → AreDoneBelow p n → AreDoneBelow (progress_after p ran.gate ran.given) n
  below_stays n done x less = value_stays ran.given.value x (done x less)

  on_at : (n : ℕ) (o : Option ValueInMemory) → HasRunSo p ran.gate n → (task : Task) → slice_get (tasks_after p.tasks ran.gate o ran.given.carried) ran.gate ≡ Some task → value_held (wires_after p.wires ran.gate o) ran.gate ≡ None → n + 1 ≤ task.stage
  on_at n (Some v) so task there none = absurd (let clash : Some v ≡ None = sym (value_now v) ∙ none in cc)
  on_at n None so task there none =
      let was = get_or_from_slice_get p.tasks ran.gate next.task (new_task ran.gate) next.there in
      let is : task ≡ next_task (get_or p.tasks ran.gate (new_task ran.gate)) ran.given.carried =
      set_here p.tasks ran.gate (next_task (get_or p.tasks ran.gate (new_task ran.gate)) ran.given.carried) task (slice_get_within p.tasks ran.gate next.task next.there) there in
      let stage : task.stage ≡ next.task.stage + 1 = ap (λ (t : Task). t.stage) is ∙ ap (λ (t : Task). t.stage + 1) was in
      let far = so next.task next.there next.unset in
      omega (arith, stage, far)

  pub on_next : (n : ℕ) → HasRunSo p ran.gate n → HasRunSo (progress_after p ran.gate ran.given) ran.gate (n + 1)
  on_next n so = on_at n ran.given.value so

-- ---- all stages

pub done_now : (b : Side) (inbox : InboxContents) (p : Progress) (g : ℕ) → IsScene b inbox p → g < length b.plan.gates → HasRunSo p g (stages b.plan (me_of b) g) → value_held p.wires g ≢ None
done_now b inbox p g scene inside so none =
    let one = some_at p.tasks g (omega (arith, inside, scene.progress.tasks)) in
    let below = scene.progress.stage g one.0 one.1 in
    let far = so one.0 one.1 none in
    absurd (omega (arith, below, far))

pub below_next : (p : Progress) (g : ℕ) → AreDoneBelow p g → value_held p.wires g ≢ None → AreDoneBelow p (g + 1)
below_next p g done there x less = elim (cases_lt x g) [
  | inl before ↦ done x before
  | inr past ↦ (let same : g ≡ x = omega (arith, less, past) in subst (λ (y : ℕ). value_held p.wires y ≢ None) same there)
]

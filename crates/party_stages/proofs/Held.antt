-- What a stage that lacks nothing is given is what the equations give it.
use Rattle.std.proofs.Common.{ℕ, zero, suc, ◌≡◌, ◌<◌, List, [], ◌∷◌, length, map, get_or, Option, Some, None, refl, sym, ap, ap₂, ◌∙◌, subst, arith}
use Rattle.std.specs.Prelude.{slice_get, option_map, IfSome}
use Rattle.std.specs.FinMap as m
use Rattle.std.specs.List.{AllByRecursion}
use Rattle.std.specs.Option.{option_or}
use Rattle.message_demux.specs.Kept.{InboxContents}
use Rattle.plan_gates.specs.Gate.{Gate, Use, uses}
use Rattle.plan_gates.specs.Plan.{Gates, IsPlan, IsOperand}
use Rattle.plan_gates.specs.Messages.{awaits}
use Rattle.joint_run.specs.Party as party
use Rattle.joint_run.specs.Party.{Own, Payload, Inbox, Rounds, Hand, hand, hand_at, wires_before, party_value}
use Rattle.joint_run.proofs.Grown.{got, grown-get}
use Rattle.gate_tasks.specs.declared.stage.StageOut.{StageOut}
use Rattle.gate_tasks.specs.declared.step.Need.{Need}
use Rattle.gate_tasks.specs.declared.step.Need.TheVariants as need
use Rattle.gate_tasks.specs.declared.value.Value.{Value as ValueInMemory}
use Rattle.gate_tasks.specs.Stage.{value_of, operands_of, operands_at, senders, heard_in, IsStage, Gives, IsOf}
use Rattle.gate_tasks.specs.Task.{Task, held_values, kept_payloads, payloads_at, gate_lacking, party_lacking, slot_lacking, slot_from, HoldTypes, ExpectsAll}
use Rattle.gate_tasks.specs.Wires.{value_held}
use Rattle.gate_tasks.proofs.Gathered.{neither}
use Rattle.mot_base.proofs.Lists.{mapped_none as none_of, same_some as some_is}
use Rattle.party_stages.specs.Following.{Side, me_of, own_of, hand_of, Extends, Progress, said_at, HasFollowed, IsProgress, IsRan}
use Rattle.party_stages.specs.Scene.{IsScene, IsReady, need_at}

-- ---- operands

-- operands stand before their gate
earlier : (gates : List Gate) (g : ℕ) (used : List Use) → AllByRecursion (IsOperand gates g) used → AllByRecursion (λ x. x < g) (map (λ (u : Use). u.gate) used)
earlier gates g [] all = tt
earlier gates g (u ∷ used) all = (all.0.0, earlier gates g used all.1)

pub operands_before : (plan : Gates) (g : ℕ) (o : Option Gate) → slice_get plan.gates g ≡ o → IsPlan plan → AllByRecursion (λ x. x < g) (operands_of (option_map (λ gate. gate.kind) o))
operands_before plan g None there is = tt
operands_before plan g (Some gate) there is = earlier plan.gates g (uses gate.kind) (is.each g gate there).uses

-- values that are held of gates below one, where none is lacking
values_are : (wires : List (Option ValueInMemory)) (f h : ℕ → party.Value) (g : ℕ) (xs : List ℕ) → gate_lacking wires xs ≡ None → AllByRecursion (λ x. x < g) xs →
    ((x : ℕ) (v : ValueInMemory) → x < g → value_held wires x ≡ Some v → value_of v ≡ f x) → ((x : ℕ) → x < g → f x ≡ h x) →
    map value_of (held_values wires xs) ≡ map h xs
values_are wires f h g [] none below held same = refl
values_are wires f h g (x ∷ xs) none below held same = one (value_held wires x) refl (values_are wires f h g xs)
  where
    one : (o : Option ValueInMemory) → value_held wires x ≡ o →
        (gate_lacking wires xs ≡ None → AllByRecursion (λ y. y < g) xs → ((y : ℕ) (v : ValueInMemory) → y < g → value_held wires y ≡ Some v → value_of v ≡ f y) → ((y : ℕ) → y < g → f y ≡ h y) → map value_of (held_values wires xs) ≡ map h xs) →
        map value_of (held_values wires (x ∷ xs)) ≡ map h (x ∷ xs)
    one None is rest = absurd (let clash : Some x ≡ None = rw is at none in cc)
    one (Some v) is rest =
        let others : gate_lacking wires xs ≡ None = rw is at none in
        rw is (ap₂ (λ (y : party.Value) (ys : List party.Value). y ∷ ys) (held x v below.0 is ∙ same x below.0) (rest others below.1 held same))

-- ---- payloads

payloads_are : (inbox : InboxContents) (heard : party.Heard) (g round : ℕ) (froms : List ℕ) → party_lacking inbox g round froms ≡ None →
    ((from : ℕ) (payload : Payload) → m.get inbox.kept (slot_from g round from) ≡ Some payload → heard from ≡ payload) →
    kept_payloads inbox g round froms ≡ map heard froms
payloads_are inbox heard g round [] none extends = refl
payloads_are inbox heard g round (from ∷ froms) none extends = one (m.get inbox.kept (slot_from g round from)) refl (payloads_are inbox heard g round froms)
  where
    one : (o : Option Payload) → m.get inbox.kept (slot_from g round from) ≡ o →
        (party_lacking inbox g round froms ≡ None → ((other : ℕ) (payload : Payload) → m.get inbox.kept (slot_from g round other) ≡ Some payload → heard other ≡ payload) → kept_payloads inbox g round froms ≡ map heard froms) →
        kept_payloads inbox g round (from ∷ froms) ≡ map heard (from ∷ froms)
    one None is rest = absurd (let clash : Some from ≡ None = rw is at none in cc)
    one (Some payload) is rest =
        let others : party_lacking inbox g round froms ≡ None = rw is at none in
        rw is (ap₂ (λ (y : Payload) (ys : List Payload). y ∷ ys) (sym (extends from payload is)) (rest others extends))

heard_are : (plan : Gates) (me : ℕ) (own : Own) (all : Inbox) (inbox : InboxContents) (g : ℕ) (round : Option ℕ) → Extends inbox all → slot_lacking plan me inbox g round ≡ None →
    payloads_at plan me inbox g round ≡ heard_in (hand_at plan me own all g) (all g) round
heard_are plan me own all inbox g None extends none = refl
heard_are plan me own all inbox g (Some round) extends none =
    payloads_are inbox (all g round) g round (senders plan me g round) (none_of (slot_from g round) (party_lacking inbox g round (senders plan me g round)) none) (λ from payload kept. extends g round from payload kept)

-- ---- a stage

pub wire_at : (plan : Gates) (me : ℕ) (own : Own) (all : Inbox) (g x : ℕ) → x < g → party_value plan me own all x ≡ get_or (wires_before plan me own all g) x (party.Told None)
wire_at plan me own all g x less =
    sym (got (wires_before plan me own all g) x (party_value plan me own all x) (party.Told None)
    (grown-get (wires_before plan me own all) (λ j. party_value plan me own all j) refl (λ j. refl) g x less))

-- where the task of each gate is there
task_there : (b : Side) (inbox : InboxContents) (p : Progress) → IsScene b inbox p → (x : ℕ) → x < length b.plan.gates → (task : Task) × (slice_get p.tasks x ≡ Some task)
task_there b inbox p scene x inside = at (slice_get p.tasks x) refl
  where
    at : (o : Option Task) → slice_get p.tasks x ≡ o → (task : Task) × (slice_get p.tasks x ≡ Some task)
    at (Some task) is = (task, is)
    at None is = absurd (none_inside p.tasks x is (omega (arith, inside, scene.progress.tasks)))
      where
        none_inside : {X : Type 0} (xs : List X) (k : ℕ) → slice_get xs k ≡ None → k < length xs → ⊥
        none_inside [] k e less = omega (arith, less)
        none_inside (y ∷ ys) zero e less = let clash : Some y ≡ None = e in cc
        none_inside (y ∷ ys) (suc k) e less = none_inside ys k e (omega (arith, less))

pub lacks : (b : Side) (inbox : InboxContents) (p : Progress) (g stage : ℕ) → need_at b inbox p g stage ≡ None →
    (gate_lacking p.wires (operands_at b.plan.gates g) ≡ None) × (slot_lacking b.plan (me_of b) inbox g (awaits b.plan (me_of b) g stage) ≡ None)
lacks b inbox p g stage e = neither need.Wire need.Slot _ _ e

-- what a ready stage is given
pub stage_is : (b : Side) (inbox : InboxContents) (p : Progress) (g : ℕ) (task : Task) → IsScene b inbox p → IsReady b inbox p g → slice_get p.tasks g ≡ Some task → (all : Inbox) → Extends inbox all →
    IsStage (hand_of b all g) (all g) task.stage (held_values p.wires (operands_at b.plan.gates g)) task.carried (payloads_at b.plan (me_of b) inbox g (awaits b.plan (me_of b) g task.stage))
stage_is b inbox p g task scene ready there all extends =
    let none = lacks b inbox p g task.stage (ready.all task there) in
    let here : HasFollowed (hand_of b all g) (all g) task (value_held p.wires g) (said_at p.said g) = scene.follows all extends g task there in
    record {
      wires_are =
          values_are p.wires (λ x. party_value b.plan (me_of b) (own_of b) all x) (λ x. get_or (wires_before b.plan (me_of b) (own_of b) all g) x (party.Told None)) g
          (operands_at b.plan.gates g) none.0 (operands_before b.plan g (slice_get b.plan.gates g) refl scene.plan)
          (λ x v less held.
          let one = task_there b inbox p scene x (omega (arith, less, ready.inside)) in
          subst (λ (o : Option ValueInMemory). IfSome o (λ w. value_of w ≡ party_value b.plan (me_of b) (own_of b) all x)) held (scene.follows all extends x one.0 one.1).valued)
          (λ x less. wire_at b.plan (me_of b) (own_of b) all g x less);
      carried_is = here.carried ready.unset;
      heard_is = heard_are b.plan (me_of b) (own_of b) all inbox g (awaits b.plan (me_of b) g task.stage) extends none.1;
    }

-- ---- its conditions

pub hold_types : (b : Side) (inbox : InboxContents) (p : Progress) (g : ℕ) → IsScene b inbox p → HoldTypes b.plan g p.wires
hold_types b inbox p g scene i x gate value at found held = scene.progress.typed x gate value found held

pub expects_all : (b : Side) (inbox : InboxContents) (p : Progress) (g : ℕ) → IsScene b inbox p → ExpectsAll b.plan (me_of b) g inbox
expects_all b inbox p g scene from round = scene.slots.each from g round

-- ---- the answers of the calls

pub need_is : (b : Side) (inbox : InboxContents) (p : Progress) (g : ℕ) (task given : Task) (wires : List (Option ValueInMemory)) → wires ≡ p.wires → IsProgress b.plan (me_of b) p →
    slice_get p.tasks g ≡ Some given → slice_get p.tasks g ≡ Some task →
    option_or
    (option_map need.Wire (gate_lacking wires (operands_at b.plan.gates given.gate)))
    (option_map need.Slot (slot_lacking b.plan (me_of b) inbox given.gate (awaits b.plan (me_of b) given.gate given.stage)))
    ≡ need_at b inbox p g task.stage
need_is b inbox p g task given wires wires_same progress there at =
    let f : List (Option ValueInMemory) → ℕ → ℕ → Option Need = λ ws x stage.
    option_or
    (option_map need.Wire (gate_lacking ws (operands_at b.plan.gates x)))
    (option_map need.Slot (slot_lacking b.plan (me_of b) inbox x (awaits b.plan (me_of b) x stage))) in
    let same : given ≡ task = some_is given task (sym there ∙ at) in
    ap (λ ws. f ws given.gate given.stage) wires_same
    ∙ ap (λ x. f p.wires x given.stage) (progress.gate g given there)
    ∙ ap (λ (t : Task). f p.wires g t.stage) same

pub ran_is : (b : Side) (inbox : InboxContents) (p : Progress) (g stage : ℕ) (task : Task) (wires : List (Option ValueInMemory)) (given : StageOut) → IsScene b inbox p → IsReady b inbox p g →
    slice_get p.tasks g ≡ Some task → stage ≡ task.stage → wires ≡ p.wires →
    ((before : List party.Value) (all : Rounds) → IsStage (hand b.plan (me_of b) (own_of b) task.gate before) all task.stage (held_values wires (operands_at b.plan.gates task.gate)) task.carried (payloads_at b.plan (me_of b) inbox task.gate (awaits b.plan (me_of b) task.gate task.stage)) →
    Gives (hand b.plan (me_of b) (own_of b) task.gate before) all task.stage given) →
    IfSome given.value (λ v. (gate : Gate) → slice_get b.plan.gates task.gate ≡ Some gate → IsOf gate v) →
    IsRan b inbox (record { gate = g; stage = stage; given = given })
ran_is b inbox p g stage task wires given scene ready there stage_same wires_same gives typed =
    let here : task.gate ≡ g = scene.progress.gate g task there in
    record {
      inside = ready.inside;
      run = record {
        gives = λ all extends.
            let is = stage_is b inbox p g task scene ready there all extends in
            let held : IsStage (hand_of b all g) (all g) task.stage (held_values wires (operands_at b.plan.gates g)) task.carried (payloads_at b.plan (me_of b) inbox g (awaits b.plan (me_of b) g task.stage)) =
            subst (λ (ws : List (Option ValueInMemory)). IsStage (hand_of b all g) (all g) task.stage (held_values ws (operands_at b.plan.gates g)) task.carried (payloads_at b.plan (me_of b) inbox g (awaits b.plan (me_of b) g task.stage))) (sym wires_same) is in
            let at_task : IsStage (hand b.plan (me_of b) (own_of b) task.gate (wires_before b.plan (me_of b) (own_of b) all g)) (all g) task.stage (held_values wires (operands_at b.plan.gates task.gate)) task.carried (payloads_at b.plan (me_of b) inbox task.gate (awaits b.plan (me_of b) task.gate task.stage)) =
            subst (λ (x : ℕ). IsStage (hand b.plan (me_of b) (own_of b) x (wires_before b.plan (me_of b) (own_of b) all g)) (all g) task.stage (held_values wires (operands_at b.plan.gates x)) task.carried (payloads_at b.plan (me_of b) inbox x (awaits b.plan (me_of b) x task.stage))) (sym here) held in
            let out = gives (wires_before b.plan (me_of b) (own_of b) all g) (all g) at_task in
            subst (λ (s : ℕ). Gives (hand_of b all g) (all g) s given) (sym stage_same)
            (subst (λ (x : ℕ). Gives (hand b.plan (me_of b) (own_of b) x (wires_before b.plan (me_of b) (own_of b) all g)) (all g) task.stage given) here out);
        typed = subst (λ (x : ℕ). IfSome given.value (λ v. (gate : Gate) → slice_get b.plan.gates x ≡ Some gate → IsOf gate v)) here typed;
      };
    }

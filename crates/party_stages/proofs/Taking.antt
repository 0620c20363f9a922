-- A stage that was run is taken into the state of a party.
use Rattle.std.proofs.Common.{◌≡◌, ◌≢◌, ℕ, zero, suc, ◌+◌, ◌<◌, eqb, Bool, true, false, cond, List, [], ◌∷◌, ◌++◌, length, map, filter, get_or, Option, Some, None, refl, sym, ap, ap₂, subst, ◌∙◌, inl, inr, arith}
use Rattle.std.specs.Prelude.{slice_get, slice_set, option_map, is_some, IfSome}
use Rattle.std.specs.List.{AllByRecursion, flat_map}
use Rattle.std.specs.Option.{unwrap_or}
use Rattle.std.proofs.lemmas.Bool.{eqb-true, eqb-false, cases_lt}
use Rattle.std.proofs.lemmas.List.{get_or-set_same, get_or-set_other, length-set}
use Rattle.std.proofs.lemmas.Option.{slice_get_within, get_or_from_slice_get}
use Rattle.mot_base.proofs.Lists.{same_some as some_is, all_append}
use Rattle.share_types.specs.Sums.{each}
use Rattle.message_demux.specs.Kept.{InboxContents}
use Rattle.plan_gates.specs.Gate.{Gate}
use Rattle.plan_gates.specs.Messages.{message, stages}
use Rattle.joint_run.specs.Party.{Inbox, Rounds, Hand, value_at}
use Rattle.gate_tasks.specs.declared.outgoing.Out.{Out}
use Rattle.gate_tasks.specs.declared.stage.StageOut.{StageOut}
use Rattle.gate_tasks.specs.declared.value.Value.{Value as ValueInMemory}
use Rattle.gate_tasks.specs.Stage.{value_of, gate_of, receivers, rounds_sent, out_to, outs_in, outs_of, formed_before, carried_to, carried_on, value_on, is_last, IsOf, Gives}
use Rattle.gate_tasks.specs.Task.{Task, new_task}
use Rattle.gate_tasks.specs.Wires.{value_held, with_value}
use Rattle.party_stages.specs.Following.{Side, me_of, hand_of, heard_of, Extends, Progress, said_at, outs_before, HasFollowed, IsProgress, Follows, HasRun, next_task, tasks_after, wires_after, progress_after}
use Rattle.party_stages.specs.Scene.{IsScene}

-- ---- what a stage sends

pub kept_extends : (inbox : InboxContents) → Extends inbox (heard_of inbox)
kept_extends inbox g round from payload kept = ap (λ o. unwrap_or o []) kept

pub filter_holds : (test : ℕ → Bool) (xs : List ℕ) → AllByRecursion (λ x. test x ≡ true) (filter test xs)
filter_holds test [] = tt
filter_holds test (x ∷ xs) = one (test x) refl (filter_holds test xs)
  where
    one : (b : Bool) → test x ≡ b → AllByRecursion (λ y. test y ≡ true) (filter test xs) → AllByRecursion (λ y. test y ≡ true) (cond b (x ∷ filter test xs) (filter test xs))
    one true is rest = (is, rest)
    one false is rest = rest

all_mapped : {X Y : Type 0} (P : Y → Type 0) (Q : X → Type 0) (f : X → Y) → ((x : X) → Q x → P (f x)) → (xs : List X) → AllByRecursion Q xs → AllByRecursion P (map f xs)
all_mapped P Q f step [] all = tt
all_mapped P Q f step (x ∷ xs) all = (step x all.0, all_mapped P Q f step xs all.1)

all_flat : {X Y : Type 0} (P : Y → Type 0) (f : X → List Y) → ((x : X) → AllByRecursion P (f x)) → (xs : List X) → AllByRecursion P (flat_map f xs)
all_flat P f step [] = tt
all_flat P f step (x ∷ xs) = all_append P (f x) (flat_map f xs) (step x) (all_flat P f step xs)

-- what is said of each message to a receiver of a round is said of all messages of a stage
pub all_outs : (P : Out → Type 0) (h : Hand) (got : Rounds) (stage : ℕ) →
    ((round to : ℕ) → is_some (message h.plan h.me to h.gate round) ≡ true → P (out_to h got round to)) → AllByRecursion P (outs_of h got stage)
all_outs P h got stage step =
    all_flat P (outs_in h got)
    (λ round. all_mapped P (λ to. is_some (message h.plan h.me to h.gate round) ≡ true) (out_to h got round) (step round) (receivers h.plan h.me h.gate round) (filter_holds (λ to. is_some (message h.plan h.me to h.gate round)) (each h.plan.parties (λ p. p))))
    (rounds_sent h.plan h.me h.gate stage)

-- ---- the gate itself

-- where the stage is the last one, and where it is not
last_of : (h : Hand) (got : Rounds) (stage : ℕ) (given : StageOut) (v : ValueInMemory) → Gives h got stage given → given.value ≡ Some v → is_last h.plan h.me h.gate stage ≡ true
last_of h got stage given v gives is = by (is_last h.plan h.me h.gate stage) refl
  where
    by : (c : Bool) → is_last h.plan h.me h.gate stage ≡ c → c ≡ true
    by true e = refl
    by false e =
        let none : value_on h got stage ≡ None = ap (λ t. cond t (Some (value_at (gate_of h) h got)) None) e in
        let clash : Some (value_of v) ≡ None = sym (ap (option_map value_of) is) ∙ gives.values ∙ none in
        absurd (cc)

early_of : (h : Hand) (got : Rounds) (stage : ℕ) (given : StageOut) → Gives h got stage given → given.value ≡ None → is_last h.plan h.me h.gate stage ≡ false
early_of h got stage given gives is = by (is_last h.plan h.me h.gate stage) refl
  where
    by : (c : Bool) → is_last h.plan h.me h.gate stage ≡ c → c ≡ false
    by false e = refl
    by true e =
        let some : value_on h got stage ≡ Some (value_at (gate_of h) h got) = ap (λ t. cond t (Some (value_at (gate_of h) h got)) None) e in
        let clash : None ≡ Some (value_at (gate_of h) h got) = sym (ap (option_map value_of) is) ∙ gives.values ∙ some in
        absurd (cc)

value_is : (h : Hand) (got : Rounds) (stage : ℕ) (given : StageOut) (v : ValueInMemory) → Gives h got stage given → given.value ≡ Some v → value_of v ≡ value_at (gate_of h) h got
value_is h got stage given v gives is =
    let some : value_on h got stage ≡ Some (value_at (gate_of h) h got) = ap (λ t. cond t (Some (value_at (gate_of h) h got)) None) (last_of h got stage given v gives is) in
    let same : Some (value_of v) ≡ Some (value_at (gate_of h) h got) = sym (ap (option_map value_of) is) ∙ gives.values ∙ some in
    some_is (value_of v) (value_at (gate_of h) h got) same

more_outs : (h : Hand) (got : Rounds) (stage : ℕ) → outs_before h got (stage + 1) ≡ outs_before h got stage ++ outs_of h got stage
more_outs h got stage = let next : stage + 1 ≡ suc stage = omega arith in ap (outs_before h got) next

-- behind the last stage
pub follows_last : (h : Hand) (got : Rounds) (task : Task) (outs : List Out) (given : StageOut) (v : ValueInMemory) → HasFollowed h got task None outs → Gives h got task.stage given → given.value ≡ Some v → HasFollowed h got task (Some v) (outs ++ given.out)
follows_last h got task outs given v far gives is =
    let last : stages h.plan h.me h.gate ≡ task.stage + 1 = eqb-true (stages h.plan h.me h.gate) (task.stage + 1) (last_of h got task.stage given v gives is) in
    record {
      carried = λ none. absurd (let clash : Some v ≡ None = none in cc);
      valued = value_is h got task.stage given v gives is;
      said = ap₂ (λ xs ys. xs ++ ys) far.said gives.sends ∙ sym (more_outs h got task.stage) ∙ ap (outs_before h got) (sym last);
    }

-- behind another one
pub follows_early : (h : Hand) (got : Rounds) (task : Task) (outs : List Out) (given : StageOut) → HasFollowed h got task None outs → Gives h got task.stage given → given.value ≡ None → HasFollowed h got (next_task task given.carried) None (outs ++ given.out)
follows_early h got task outs given far gives is =
    let early = early_of h got task.stage given gives is in
    let next : suc task.stage ≡ task.stage + 1 = omega arith in
    let on : carried_on h got task.stage ≡ carried_to h got (task.stage + 1) = ap (λ t. cond t None (Some (formed_before h got (suc task.stage)))) early ∙ ap (carried_to h got) next in
    record {
      carried = λ none. gives.carries ∙ on;
      valued = tt;
      said = ap₂ (λ xs ys. xs ++ ys) far.said gives.sends ∙ sym (more_outs h got task.stage);
    }

-- ---- the state

pub set_here : {X : Type 0} (xs : List X) (i : ℕ) (y x : X) → i < length xs → slice_get (slice_set xs i y) i ≡ Some x → x ≡ y
set_here [] i y x inside there = absurd (omega (arith, inside))
set_here (z ∷ xs) zero y x inside there = sym (some_is y x there)
set_here (z ∷ xs) (suc i) y x inside there = set_here xs i y x (omega (arith, inside)) there

set_there : {X : Type 0} (xs : List X) (i j : ℕ) (y : X) → j ≢ i → slice_get (slice_set xs i y) j ≡ slice_get xs j
set_there [] i j y other = refl
set_there (z ∷ xs) zero zero y other = absurd (other refl)
set_there (z ∷ xs) zero (suc j) y other = refl
set_there (z ∷ xs) (suc i) zero y other = refl
set_there (z ∷ xs) (suc i) (suc j) y other = set_there xs i j y (λ same. other (omega (arith, same)))

-- the state behind a stage that gave this value, or none
abbrev after : Progress → ℕ → StageOut → Option ValueInMemory → Progress
after p g given value = record {
  tasks = tasks_after p.tasks g value given.carried;
  wires = wires_after p.wires g value;
  said = slice_set p.said g (said_at p.said g ++ given.out);
}

module _ (b : Side) (inbox : InboxContents) (p : Progress) (g : ℕ) (task : Task) (given : StageOut) (scene : IsScene b inbox p) (inside : g < length b.plan.gates) (unset : value_held p.wires g ≡ None) (there : slice_get p.tasks g ≡ Some task) (ran : HasRun b inbox g task.stage given) where
  said_here : said_at (slice_set p.said g (said_at p.said g ++ given.out)) g ≡ said_at p.said g ++ given.out
  said_here = get_or-set_same p.said g (said_at p.said g ++ given.out) [] (omega (arith, inside, scene.progress.said))

  said_there : (x : ℕ) → x ≢ g → said_at (slice_set p.said g (said_at p.said g ++ given.out)) x ≡ said_at p.said x
  said_there x other = get_or-set_other p.said g x (said_at p.said g ++ given.out) [] other

  -- a party's place at a gate is that of the plan
  far : (got : Inbox) → Extends inbox got → HasFollowed (hand_of b got g) (got g) task None (said_at p.said g)
  far got extends = subst (λ (o : Option ValueInMemory). HasFollowed (hand_of b got g) (got g) task o (said_at p.said g)) unset (scene.follows got extends g task there)

  module _ (v : ValueInMemory) (is : given.value ≡ Some v) where
    wire_here : value_held (with_value p.wires g v) g ≡ Some v
    wire_here = get_or-set_same p.wires g (Some v) None (omega (arith, inside, scene.progress.wires))

    wire_there : (x : ℕ) → x ≢ g → value_held (with_value p.wires g v) x ≡ value_held p.wires x
    wire_there x other = get_or-set_other p.wires g x (Some v) None other

    last_progress : IsProgress b.plan (me_of b) (after p g given (Some v))
    last_progress = record {
      tasks = scene.progress.tasks;
      wires = length-set p.wires g (Some v) ∙ scene.progress.wires;
      said = length-set p.said g (said_at p.said g ++ given.out) ∙ scene.progress.said;
      gate = scene.progress.gate;
      stage = scene.progress.stage;
      typed = λ x gate value found held. typed x gate value found held (eqb x g) refl;
    } where
      typed : (x : ℕ) (gate : Gate) (value : ValueInMemory) → slice_get b.plan.gates x ≡ Some gate → value_held (with_value p.wires g v) x ≡ Some value → (c : Bool) → eqb x g ≡ c → IsOf gate value
      typed x gate value found held true e =
          let same : x ≡ g = eqb-true x g e in
          let one : v ≡ value = some_is v value (sym wire_here ∙ ap (value_held (with_value p.wires g v)) (sym same) ∙ held) in
          let of : (other : Gate) → slice_get b.plan.gates g ≡ Some other → IsOf other v = subst (λ (o : Option ValueInMemory). IfSome o (λ w. (other : Gate) → slice_get b.plan.gates g ≡ Some other → IsOf other w)) is ran.typed in
          subst (λ (w : ValueInMemory). IsOf gate w) one (of gate (ap (slice_get b.plan.gates) (sym same) ∙ found))
      typed x gate value found held false e = scene.progress.typed x gate value found (sym (wire_there x (eqb-false x g e)) ∙ held)

    last_follows : Follows b inbox (after p g given (Some v))
    last_follows got extends x other at = by (eqb x g) refl
      where
        by : (c : Bool) → eqb x g ≡ c → HasFollowed (hand_of b got x) (got x) other (value_held (with_value p.wires g v) x) (said_at (slice_set p.said g (said_at p.said g ++ given.out)) x)
        by true e =
            let same : x ≡ g = eqb-true x g e in
            let one : other ≡ task = some_is other task (sym at ∙ ap (slice_get p.tasks) same ∙ there) in
            let here : HasFollowed (hand_of b got g) (got g) task (value_held (with_value p.wires g v) g) (said_at (slice_set p.said g (said_at p.said g ++ given.out)) g) =
            rw (wire_here, said_here) (follows_last (hand_of b got g) (got g) task (said_at p.said g) given v (far got extends) (ran.gives got extends) is) in
            subst (λ (y : ℕ). HasFollowed (hand_of b got y) (got y) other (value_held (with_value p.wires g v) y) (said_at (slice_set p.said g (said_at p.said g ++ given.out)) y)) (sym same)
            (subst (λ (t : Task). HasFollowed (hand_of b got g) (got g) t (value_held (with_value p.wires g v) g) (said_at (slice_set p.said g (said_at p.said g ++ given.out)) g)) (sym one) here)
        by false e =
            let ne : x ≢ g = eqb-false x g e in
            rw (wire_there x ne, said_there x ne) (scene.follows got extends x other at)

    scene_last : IsScene b inbox (after p g given (Some v))
    scene_last = record { plan = scene.plan; unkeyed = scene.unkeyed; inside = scene.inside; serves = scene.serves; slots = scene.slots; progress = last_progress; follows = last_follows }

  module _ (is : given.value ≡ None) where
    -- the task at the gate, as it stands in the list
    held_task : get_or p.tasks g (new_task g) ≡ task
    held_task = get_or_from_slice_get p.tasks g task (new_task g) there

    abbrev tasks : List Task
    tasks = slice_set p.tasks g (next_task (get_or p.tasks g (new_task g)) given.carried)

    next_at : (other : Task) → slice_get tasks g ≡ Some other → other ≡ next_task task given.carried
    next_at other at =
        set_here p.tasks g (next_task (get_or p.tasks g (new_task g)) given.carried) other (slice_get_within p.tasks g task there) at
        ∙ ap (λ (t : Task). next_task t given.carried) held_task

    more : task.stage + 1 < stages b.plan (me_of b) g
    more =
        let gives = ran.gives (heard_of inbox) (kept_extends inbox) in
        let early = early_of (hand_of b (heard_of inbox) g) (heard_of inbox g) task.stage given gives is in
        let ne : stages b.plan (me_of b) g ≢ task.stage + 1 = eqb-false (stages b.plan (me_of b) g) (task.stage + 1) early in
        let below = scene.progress.stage g task there in
        elim (cases_lt (task.stage + 1) (stages b.plan (me_of b) g)) [
          | inl less ↦ less
          | inr large ↦ absurd (ne (omega (arith, below, large)))
        ]

    early_progress : IsProgress b.plan (me_of b) (after p g given None)
    early_progress = record {
      tasks = length-set p.tasks g (next_task (get_or p.tasks g (new_task g)) given.carried) ∙ scene.progress.tasks;
      wires = scene.progress.wires;
      said = length-set p.said g (said_at p.said g ++ given.out) ∙ scene.progress.said;
      gate = λ x other at. (both x other at (eqb x g) refl).0;
      stage = λ x other at. (both x other at (eqb x g) refl).1;
      typed = scene.progress.typed;
    } where
      both : (x : ℕ) (other : Task) → slice_get tasks x ≡ Some other → (c : Bool) → eqb x g ≡ c → (other.gate ≡ x) × (other.stage < stages b.plan (me_of b) x)
      both x other at true e =
          let same : x ≡ g = eqb-true x g e in
          let one : other ≡ next_task task given.carried = next_at other (ap (slice_get tasks) (sym same) ∙ at) in
          subst (λ (y : ℕ). (other.gate ≡ y) × (other.stage < stages b.plan (me_of b) y)) (sym same)
          (subst (λ (t : Task). (t.gate ≡ g) × (t.stage < stages b.plan (me_of b) g)) (sym one) (scene.progress.gate g task there, more))
      both x other at false e =
          let was : slice_get p.tasks x ≡ Some other = sym (set_there p.tasks g x (next_task (get_or p.tasks g (new_task g)) given.carried) (eqb-false x g e)) ∙ at in
          (scene.progress.gate x other was, scene.progress.stage x other was)

    early_follows : Follows b inbox (after p g given None)
    early_follows got extends x other at = by (eqb x g) refl
      where
        by : (c : Bool) → eqb x g ≡ c → HasFollowed (hand_of b got x) (got x) other (value_held p.wires x) (said_at (slice_set p.said g (said_at p.said g ++ given.out)) x)
        by true e =
            let same : x ≡ g = eqb-true x g e in
            let one : other ≡ next_task task given.carried = next_at other (ap (slice_get tasks) (sym same) ∙ at) in
            let here : HasFollowed (hand_of b got g) (got g) (next_task task given.carried) (value_held p.wires g) (said_at (slice_set p.said g (said_at p.said g ++ given.out)) g) =
            rw (unset, said_here) (follows_early (hand_of b got g) (got g) task (said_at p.said g) given (far got extends) (ran.gives got extends) is) in
            subst (λ (y : ℕ). HasFollowed (hand_of b got y) (got y) other (value_held p.wires y) (said_at (slice_set p.said g (said_at p.said g ++ given.out)) y)) (sym same)
            (subst (λ (t : Task). HasFollowed (hand_of b got g) (got g) t (value_held p.wires g) (said_at (slice_set p.said g (said_at p.said g ++ given.out)) g)) (sym one) here)
        by false e =
            let ne : x ≢ g = eqb-false x g e in
            let was : slice_get p.tasks x ≡ Some other = sym (set_there p.tasks g x (next_task (get_or p.tasks g (new_task g)) given.carried) ne) ∙ at in
            rw (said_there x ne) (scene.follows got extends x other was)

    scene_early : IsScene b inbox (after p g given None)
    scene_early = record { plan = scene.plan; unkeyed = scene.unkeyed; inside = scene.inside; serves = scene.serves; slots = scene.slots; progress = early_progress; follows = early_follows }

  -- a party goes by the equations when it has taken what a stage gave
  pub taken : IsScene b inbox (progress_after p g given)
  taken = by given.value refl
    where
      by : (o : Option ValueInMemory) → given.value ≡ o → IsScene b inbox (after p g given given.value)
      by (Some v) is = subst (λ (o : Option ValueInMemory). IsScene b inbox (after p g given o)) (sym is) (scene_last v is)
      by None is = subst (λ (o : Option ValueInMemory). IsScene b inbox (after p g given o)) (sym is) (scene_early is)

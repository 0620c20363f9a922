-- A core that is run to the end.
use Rattle.std.proofs.Common.{◌≡◌, ◌≢◌, ℕ, zero, suc, ◌+◌, ◌^◌, ◌<◌, Bool, true, false, not, cond, List, [], ◌∷◌, ◌++◌, length, get_or, map, refl, sym, ap, ◌∙◌, subst, arith, inl, inr, ⊎_elim}
use Rattle.std.specs.List.{count_by}
use Rattle.std.proofs.lemmas.Bool.{cases_eq, cases_Bool}
use Rattle.std.proofs.lemmas.List.Sums.{sum_by-set, count_by-le-length}
use Rattle.turn_core.specs.Graph.{Graph, source, target, outgoing}
use Rattle.turn_core.specs.Core.{Flags, IsIn, IsOut, with_one, left_of, Core, Event, HandsOut, Leaves, IsReady, after_all, Leads, IsCore, IsSettled, HasInputs}
use Rattle.turn_core.specs.Runs.{hands_out}
use Rattle.turn_core.proofs.Counts.{one_if, left-cons}
use Rattle.turn_core.proofs.Events.{graph-all, stays-all, leads-append, ready-inputs}
use Rattle.turn_core.proofs.Order.{flag, counted}
use Rattle.turn_core.proofs.Leaving.{after_turn, turn-graph, turn-handed, turn-leads, turn-settles}

-- ---- how many are left

pub left-one : (s : Flags) (k : ℕ) → k < length s → IsOut s k → left_of (with_one s k) + 1 ≡ left_of s
left-one s k within out =
    let change = sum_by-set (λ (b : Bool). cond (not b) 1 0) s k true false within in
    let up : one_if (not (get_or s k false)) ≡ 1 = rw out refl in
    omega (arith, change, up)

left-none : (s : Flags) → ((k : ℕ) → k < length s → IsIn s k) → left_of s ≡ 0
left-none [] all = refl
left-none (b ∷ bs) all =
    let rest = left-none bs (λ k within. all (suc k) (omega arith)) in
    let down : one_if (not b) ≡ 0 = rw (all 0 (omega arith)) refl in
    omega (arith, rest, down, left-cons b bs)

-- ---- where no item may be handed out, all were

abbrev NoneReady : Core → Type 0
NoneReady c = (k : ℕ) → IsReady c k → ⊥

-- an item is handed out if all before it are
next_handed : (c : Core) (k : ℕ) → IsCore c → IsSettled c → NoneReady c → ((j : ℕ) → j < k → j < c.graph.items → IsIn c.handed j) → k < c.graph.items → IsIn c.handed k
next_handed c k core settled none before item =
    ⊎_elim
    (λ (inside : IsIn c.handed k). inside)
    (λ (outside : IsOut c.handed k).
    absurd (none k (record {
      is_item = item;
      is_new = outside;
      has_all = λ e within to.
          ⊎_elim
          (λ (inner : source c.graph e < c.graph.items).
          let into : target c.graph e < c.graph.items = subst (λ (m : ℕ). m < c.graph.items) (sym to) item in
          let rises : source c.graph e < k = subst (λ (m : ℕ). source c.graph e < m) to (core.sound.forward e within inner into) in
          settled e within (inr (before (source c.graph e) rises inner)))
          (λ out. settled e within (inl out))
          (core.sound.sources_known e within);
    })))
    (cases_Bool (get_or c.handed k false))

up_to : (c : Core) (n : ℕ) → IsCore c → IsSettled c → NoneReady c → (k : ℕ) → k < n → k < c.graph.items → IsIn c.handed k
up_to c zero core settled none k less item = absurd (omega arith)
up_to c (suc n) core settled none k less item =
    ⊎_elim
    (λ (same : k ≡ n). next_handed c k core settled none (λ j low inner. up_to c n core settled none j (omega arith) inner) item)
    (λ (other : k ≢ n). up_to c n core settled none k (omega (arith, other)) item)
    (cases_eq k n)

pub all_handed : (c : Core) → IsCore c → IsSettled c → NoneReady c → (k : ℕ) → k < c.graph.items → IsIn c.handed k
all_handed c core settled none k item = up_to c c.graph.items core settled none k item item

-- ---- the loop

-- how far the run from one state has come: the state now, what the work tells, and the counts
pub record IsDraining (old now : Core) (graph : Graph) (turned : Flags) (count first_count steps first_steps turns : ℕ) : Type 0 where
  pub core : IsCore old
  pub events : List Event
  pub run : Leads old events now
  pub settled : IsSettled now
  pub graph_is : graph ≡ now.graph
  pub turned_is : turned ≡ now.handed
  pub number : turns + left_of now.handed ≡ left_of old.handed
  pub count_is : count ≡ first_count + turns
  pub steps_is : steps ≡ first_steps + turns

pub core_now : (old now : Core) (graph : Graph) (turned : Flags) (count first_count steps first_steps turns : ℕ) → IsDraining old now graph turned count first_count steps first_steps turns → IsCore now
core_now old now graph turned count first_count steps first_steps turns d =
    subst (λ (c : Core). IsCore c) (sym d.run.1) (stays-all old d.events d.core d.run.0)

-- fewer turns were taken than there are items
pub turns_fit : (old now : Core) (graph : Graph) (turned : Flags) (count first_count steps first_steps turns k : ℕ) → IsDraining old now graph turned count first_count steps first_steps turns → IsReady now k → turns + 1 < 2 ^ 32
turns_fit old now graph turned count first_count steps first_steps turns k d ready =
    let core = core_now old now graph turned count first_count steps first_steps turns d in
    let fewer = left-one now.handed k (omega (arith, core.items, ready.is_item)) ready.is_new in
    omega (arith, d.number, fewer, count_by-le-length not old.handed, d.core.items, d.core.sound.items_fit)

-- what the work asks for, in its own words
pub work_inputs : (c : Core) (graph : Graph) (turned : Flags) (k : ℕ) → IsCore c → graph ≡ c.graph → turned ≡ c.handed → IsReady c k → HasInputs graph turned k
work_inputs c graph turned k core same told ready =
    let here = subst (λ (g : Graph). HasInputs g c.handed k) (sym same) (ready-inputs c k core ready) in
    subst (λ (s : Flags). HasInputs graph s k) (sym told) here

-- one turn more
pub drains_more : (old now : Core) (graph : Graph) (turned : Flags) (count first_count steps first_steps turns k : ℕ) (next_graph : Graph) (next_turned : Flags) (next_count next_steps : ℕ) → IsDraining old now graph turned count first_count steps first_steps turns → IsReady now k → next_graph ≡ graph → next_turned ≡ with_one turned k → next_count ≡ count + 1 → next_steps ≡ steps + 1 → IsDraining old (after_turn now k) next_graph next_turned next_count first_count next_steps first_steps (turns + 1)
drains_more old now graph turned count first_count steps first_steps turns k next_graph next_turned next_count next_steps d ready same_graph more_turned more_count more_steps =
    let core = core_now old now graph turned count first_count steps first_steps turns d in
    let leads = turn-leads now k core ready in
    let handed = turn-handed now k in
    let fewer = left-one now.handed k (omega (arith, core.items, ready.is_item)) ready.is_new in
    let left : left_of (after_turn now k).handed ≡ left_of (with_one now.handed k) = ap left_of handed in
    record {
      core = d.core;
      events = d.events ++ (HandsOut k ∷ map Leaves (outgoing now.graph k));
      run = leads-append old now (after_turn now k) d.events (HandsOut k ∷ map Leaves (outgoing now.graph k)) d.run leads;
      settled = turn-settles now k core ready d.settled;
      graph_is = same_graph ∙ d.graph_is ∙ sym (turn-graph now k);
      turned_is = more_turned ∙ ap (λ (s : Flags). with_one s k) d.turned_is ∙ sym handed;
      number = omega (arith, d.number, fewer, left);
      count_is = omega (arith, d.count_is, more_count);
      steps_is = omega (arith, d.steps_is, more_steps);
    }

-- the end: no item may be handed out
pub record IsDrained (old now : Core) (events : List Event) : Type 0 where
  pub run : Leads old events now
  pub handed : (k : ℕ) → k < old.graph.items → IsIn now.handed k
  pub left : left_of now.handed ≡ 0
  pub once : (k : ℕ) → k < old.graph.items → IsOut old.handed k → count_by (hands_out k) events ≡ 1

pub drained : (old now : Core) (graph : Graph) (turned : Flags) (count first_count steps first_steps turns : ℕ) → (d : IsDraining old now graph turned count first_count steps first_steps turns) → NoneReady now → IsDrained old now d.events
drained old now graph turned count first_count steps first_steps turns d none =
    let core = core_now old now graph turned count first_count steps first_steps turns d in
    let all = all_handed now core d.settled none in
    let same : now.graph ≡ old.graph = ap (λ (c : Core). c.graph) d.run.1 ∙ graph-all old d.events in
    let items : now.graph.items ≡ old.graph.items = ap (λ (g : Graph). g.items) same in
    record {
      run = d.run;
      handed = λ k item. all k (omega (arith, items));
      left = left-none now.handed (λ k within. all k (omega (arith, core.items)));
      once = λ k item out.
          let rise = counted old d.events k d.core d.run.0 in
          let here : IsIn now.handed k = all k (omega (arith, items)) in
          let up : flag (after_all old d.events).handed k ≡ 1 = subst (λ (c : Core). flag c.handed k ≡ 1) d.run.1 (rw here refl) in
          let down : flag old.handed k ≡ 0 = rw out refl in
          omega (arith, rise, up, down);
    }

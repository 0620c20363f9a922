-- What a run of events did: each item at most once, and the sets as the events tell them.
use Rattle.std.proofs.Common.{◌≡◌, ◌≢◌, ℕ, ◌+◌, ◌<◌, ◌≤◌, ◌⊎◌, Bool, true, false, cond, eqb, ◌||◌, List, [], ◌∷◌, ◌++◌, length, get_or, refl, sym, ap, ◌∙◌, subst, arith, inl, inr, ⊎_elim}
use Rattle.std.specs.List.{count_by, list_any}
use Rattle.std.proofs.lemmas.Bool.{cases_eq, eq-eqb, ne_eqb}
use Rattle.std.proofs.lemmas.List.{get_or-set_same, get_or-set_other}
use Rattle.std.proofs.lemmas.List.Sums.{sum_by-cons}
use Rattle.turn_core.specs.declared.edge.TheConstants.{OUTSIDE}
use Rattle.turn_core.specs.Graph.{Graph, IsSound, source, target}
use Rattle.turn_core.specs.Core.{Flags, IsIn, IsOut, with_one, Core, Event, Arrives, HandsOut, Leaves, IsReady, May, after, after_all, at_start, IsRun, IsCore}
use Rattle.turn_core.specs.Runs.{hands_out, marks, IsHandedOutIn, RunsKeepOrder}
use Rattle.turn_core.proofs.Events.{in-lt, none_in, run-split, graph-all, stays, stays-all, starts}
use Rattle.mot_base.proofs.Lists.{or_false as or-last}

-- a flag as a number
abbrev pub flag : Flags → ℕ → ℕ
flag s k = cond (get_or s k false) 1 0

-- the flag at a number after another is put in
flag-set : (s : Flags) (j k : ℕ) → j < length s → get_or (with_one s j) k false ≡ (eqb j k || get_or s k false)
flag-set s j k within =
    ⊎_elim
    (λ (same : j ≡ k).
    let test = eq-eqb j k same in
    rw test (subst (λ (m : ℕ). get_or (with_one s j) m false ≡ true) same (get_or-set_same s j true false within)))
    (λ (other : j ≢ k).
    let test = ne_eqb j k other in
    rw test (get_or-set_other s j k true false (λ (e : k ≡ j). other (sym e))))
    (cases_eq j k)

count-cons : (k : ℕ) (x : Event) (xs : List Event) → count_by (hands_out k) (x ∷ xs) ≡ cond (hands_out k x) 1 0 + count_by (hands_out k) xs
count-cons k x xs = sum_by-cons (λ event. cond (hands_out k event) 1 0) x xs

-- one handing out raises the flag of its item from 0
raised : (s : Flags) (j k : ℕ) → j < length s → IsOut s j → flag (with_one s j) k ≡ cond (eqb j k) 1 0 + flag s k
raised s j k within out =
    ⊎_elim
    (λ (same : j ≡ k).
    let test = eq-eqb j k same in
    let low : get_or s k false ≡ false = subst (λ (m : ℕ). get_or s m false ≡ false) same out in
    rw (flag-set s j k within, test, low) refl)
    (λ (other : j ≢ k).
    let test = ne_eqb j k other in
    rw (flag-set s j k within, test) (omega arith))
    (cases_eq j k)

flag-one : (c : Core) (x : Event) (k : ℕ) → IsCore c → May c x → cond (hands_out k x) 1 0 + flag c.handed k ≡ flag (after c x).handed k
flag-one c (Arrives e) k core may = omega arith
flag-one c (HandsOut j) k core may = sym (raised c.handed j k (omega (arith, core.items, may.is_item)) may.is_new)
flag-one c (Leaves e) k core may = omega arith

-- how often an item is handed out is how its flag rises
pub counted : (c : Core) (events : List Event) (k : ℕ) → IsCore c → IsRun c events → count_by (hands_out k) events + flag c.handed k ≡ flag (after_all c events).handed k
counted c [] k core run = omega arith
counted c (x ∷ xs) k core run =
    let rest = counted (after c x) xs k (stays c x core run.0) run.1 in
    let here = flag-one c x k core run.0 in
    omega (arith, rest, here, count-cons k x xs)

-- a flag is 0 or 1
pub flag-small : (s : Flags) (k : ℕ) → flag s k ≤ 1
flag-small s k = small (get_or s k false)
  where
    small : (b : Bool) → cond b 1 0 ≤ 1
    small true = omega arith
    small false = omega arith

or-swap : (a b c : Bool) → (a || (b || c)) ≡ ((b || a) || c)
or-swap true true c = refl
or-swap true false c = refl
or-swap false true c = refl
or-swap false false c = refl

handed-one : (c : Core) (x : Event) (k : ℕ) → IsCore c → May c x → get_or (after c x).handed k false ≡ (hands_out k x || get_or c.handed k false)
handed-one c (Arrives e) k core may = refl
handed-one c (HandsOut j) k core may = flag-set c.handed j k (omega (arith, core.items, may.is_item))
handed-one c (Leaves e) k core may = refl

marked-one : (c : Core) (x : Event) (e : ℕ) → IsCore c → May c x → get_or (after c x).marked e false ≡ (marks e x || get_or c.marked e false)
marked-one c (Arrives j) e core may = flag-set c.marked j e (omega (arith, core.edges, may.0))
marked-one c (HandsOut k) e core may = refl
marked-one c (Leaves j) e core may = flag-set c.marked j e (omega (arith, core.edges, may.0))

-- an item is in the set where it was before or one of the events hands it out
handed-all : (c : Core) (events : List Event) (k : ℕ) → IsCore c → IsRun c events → get_or (after_all c events).handed k false ≡ (list_any (hands_out k) events || get_or c.handed k false)
handed-all c [] k core run = refl
handed-all c (x ∷ xs) k core run =
    handed-all (after c x) xs k (stays c x core run.0) run.1
    ∙ rw (handed-one c x k core run.0) (or-swap (list_any (hands_out k) xs) (hands_out k x) (get_or c.handed k false))

marked-all : (c : Core) (events : List Event) (e : ℕ) → IsCore c → IsRun c events → get_or (after_all c events).marked e false ≡ (list_any (marks e) events || get_or c.marked e false)
marked-all c [] e core run = refl
marked-all c (x ∷ xs) e core run =
    marked-all (after c x) xs e (stays c x core run.0) run.1
    ∙ rw (marked-one c x e core run.0) (or-swap (list_any (marks e) xs) (marks e x) (get_or c.marked e false))

-- from the empty state
handed-told : (g : Graph) (events : List Event) (k : ℕ) → IsSound g → IsRun (at_start g) events → get_or (after_all (at_start g) events).handed k false ≡ list_any (hands_out k) events
handed-told g events k sound run = handed-all (at_start g) events k (starts g sound) run ∙ rw (none_in g.items k) (or-last (list_any (hands_out k) events))

marked-told : (g : Graph) (events : List Event) (e : ℕ) → IsSound g → IsRun (at_start g) events → get_or (after_all (at_start g) events).marked e false ≡ list_any (marks e) events
marked-told g events e sound run = marked-all (at_start g) events e (starts g sound) run ∙ rw (none_in (length g.edges) e) (or-last (list_any (marks e) events))

-- where an item is handed out, what was before led to a state in which it is ready
record ReadyThen (g : Graph) (before : List Event) (k : ℕ) : Type 0 where
  run : IsRun (at_start g) before
  core : IsCore (after_all (at_start g) before)
  ready : IsReady (after_all (at_start g) before) k
  graph : (after_all (at_start g) before).graph ≡ g

ready_then : (g : Graph) (events before behind : List Event) (k : ℕ) → IsSound g → IsRun (at_start g) events → events ≡ before ++ (HandsOut k ∷ behind) → ReadyThen g before k
ready_then g events before behind k sound run split =
    let parts = run-split (at_start g) before (HandsOut k ∷ behind) (subst (λ (es : List Event). IsRun (at_start g) es) split run) in
    record {
      run = parts.0;
      core = stays-all (at_start g) before (starts g sound) parts.0;
      ready = parts.1.0;
      graph = graph-all (at_start g) before;
    }

-- the edges to an item are marked before it is handed out
edge_marked : (c : Core) (g : Graph) (k e : ℕ) → c.graph ≡ g → IsReady c k → e < length g.edges → target g e ≡ k → IsIn c.marked e
edge_marked c g k e same ready within to =
    ready.has_all e (subst (λ (h : Graph). e < length h.edges) (sym same) within) (subst (λ (h : Graph). target h e ≡ k) (sym same) to)

edge_from : (c : Core) (g : Graph) (e : ℕ) → c.graph ≡ g → IsCore c → IsIn c.marked e → (source g e ≡ OUTSIDE) ⊎ IsIn c.handed (source g e)
edge_from c g e same core marked = subst (λ (h : Graph). (source h e ≡ OUTSIDE) ⊎ IsIn c.handed (source h e)) same (core.begun e marked)

item_of : (c : Core) (g : Graph) (k : ℕ) → c.graph ≡ g → IsCore c → IsIn c.handed k → k < g.items
item_of c g k same core here =
    let few : length c.handed ≡ g.items = core.items ∙ ap (λ (h : Graph). h.items) same in
    let within = in-lt c.handed k here in
    omega (arith, few, within)

comes_first : (g : Graph) (before : List Event) (k e : ℕ) → IsSound g → ReadyThen g before k → e < length g.edges → target g e ≡ k → (source g e ≡ OUTSIDE) ⊎ ((source g e < k) × IsHandedOutIn (source g e) before)
comes_first g before k e sound then within to =
    let c = after_all (at_start g) before in
    let marked = edge_marked c g k e then.graph then.ready within to in
    ⊎_elim
    (λ out. inl out)
    (λ (inside : IsIn c.handed (source g e)).
    let from : source g e < g.items = item_of c g (source g e) then.graph then.core inside in
    let here : k < g.items = subst (λ (h : Graph). k < h.items) then.graph then.ready.is_item in
    let into : target g e < g.items = subst (λ (m : ℕ). m < g.items) (sym to) here in
    let rises : source g e < k = subst (λ (m : ℕ). source g e < m) to (sound.forward e within from into) in
    inr (rises, sym (handed-told g before (source g e) sound then.run) ∙ inside))
    (edge_from c g e then.graph then.core marked)

pub keeps_order : RunsKeepOrder
keeps_order g events sound run = record {
  once = λ k.
      let rise = counted (at_start g) events k (starts g sound) run in
      omega (arith, rise, flag-small (after_all (at_start g) events).handed k);
  edges_first = λ before behind k e split within to.
      let then = ready_then g events before behind k sound run split in
      sym (marked-told g before e sound then.run) ∙ edge_marked (after_all (at_start g) before) g k e then.graph then.ready within to;
  items_first = λ before behind k e split within to. comes_first g before k e sound (ready_then g events before behind k sound run split) within to;
  handed = λ k. handed-told g events k sound run;
  marked = λ e. marked-told g events e sound run;
}

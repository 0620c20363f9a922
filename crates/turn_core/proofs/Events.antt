-- Runs of events: what each event keeps, and what a run did.
use Rattle.std.proofs.Common.{◌≡◌, ℕ, ◌<◌, ◌⊎◌, true, false, List, [], ◌∷◌, ◌++◌, length, replicate, refl, sym, ap, ◌∙◌, subst, arith, inl, inr, ⊎_elim, eqb, get_or}
use Rattle.std.specs.List.{list_any}
use Rattle.std.proofs.lemmas.Bool.{false≢true, cases_eq, cases_lt, eq-eqb}
use Rattle.std.proofs.lemmas.List.{length-set, get_or-set_same, get_or-set_other, get_or_past, get_or-replicate, length-replicate, get_or-map}
use Rattle.std.proofs.lemmas.List.Sums.{fold-append}
use Rattle.std.proofs.lemmas.List.Folds.{list_any_at}
use Rattle.turn_core.specs.declared.edge.Edge.{Edge}
use Rattle.turn_core.specs.declared.edge.TheConstants.{OUTSIDE}
use Rattle.turn_core.specs.Graph.{Graph, IsSound, source}
use Rattle.turn_core.specs.Core.{Flags, IsIn, IsOut, with_one, Core, Event, Arrives, HandsOut, Leaves, IsReady, May, after, after_all, at_start, IsRun, Leads, IsReached, IsCore, IsSettled, HasInputs}

-- ---- sets

-- a number that is in the set is below its length
pub in-lt : (s : Flags) (k : ℕ) → IsIn s k → k < length s
in-lt s k here = ⊎_elim (λ h. h) (λ past. absurd (false≢true (sym (get_or_past s k false past) ∙ here))) (cases_lt k (length s))

-- what was in the set stays there
pub in-with_one : (s : Flags) (j k : ℕ) → IsIn s k → IsIn (with_one s j) k
in-with_one s j k here =
    ⊎_elim
    (λ (same : k ≡ j). subst (λ (m : ℕ). IsIn (with_one s m) k) same (get_or-set_same s k true false (in-lt s k here)))
    (λ other. get_or-set_other s j k true false other ∙ here)
    (cases_eq k j)

-- what is in it now was there before, or is the one number
pub with_one-cases : (s : Flags) (j k : ℕ) → IsIn (with_one s j) k → (k ≡ j) ⊎ IsIn s k
with_one-cases s j k here =
    ⊎_elim (λ (same : k ≡ j). inl same) (λ other. inr (sym (get_or-set_other s j k true false other) ∙ here)) (cases_eq k j)

pub none_in : (n k : ℕ) → IsOut (replicate n false) k
none_in n k =
    ⊎_elim
    (λ within. get_or-replicate n k false false within)
    (λ past. get_or_past (replicate n false) k false (omega (arith, length-replicate n false)))
    (cases_lt k n)

-- ---- runs

pub run-append : (c : Core) (xs ys : List Event) → IsRun c xs → IsRun (after_all c xs) ys → IsRun c (xs ++ ys)
run-append c [] ys first rest = rest
run-append c (x ∷ xs) ys first rest = (first.0, run-append (after c x) xs ys first.1 rest)

pub run-split : (c : Core) (xs ys : List Event) → IsRun c (xs ++ ys) → IsRun c xs × IsRun (after_all c xs) ys
run-split c [] ys run = (tt, run)
run-split c (x ∷ xs) ys run =
    let parts = run-split (after c x) xs ys run.1 in
    ((run.0, parts.0), parts.1)

-- events that lead somewhere, and more from there on
pub leads-append : (c mid new : Core) (xs ys : List Event) → Leads c xs mid → Leads mid ys new → Leads c (xs ++ ys) new
leads-append c mid new xs ys first rest =
    let there : IsRun (after_all c xs) ys = subst (λ (m : Core). IsRun m ys) first.1 rest.0 in
    let end : new ≡ after_all (after_all c xs) ys = rest.1 ∙ ap (λ (m : Core). after_all m ys) first.1 in
    (run-append c xs ys first.0 there, end ∙ sym (fold-append after c xs ys))

pub leads-one : (c : Core) (event : Event) → May c event → Leads c (event ∷ []) (after c event)
leads-one c event may = ((may, tt), refl)

-- ---- what each event keeps

graph-same : (c : Core) (event : Event) → (after c event).graph ≡ c.graph
graph-same c (Arrives e) = refl
graph-same c (HandsOut k) = refl
graph-same c (Leaves e) = refl

pub graph-all : (c : Core) (events : List Event) → (after_all c events).graph ≡ c.graph
graph-all c [] = refl
graph-all c (x ∷ xs) = graph-all (after c x) xs ∙ graph-same c x

reached-more : (c : Core) (event : Event) → (after c event).graph ≡ c.graph → IsReached c → May c event → IsReached (after c event)
reached-more c event same reached may =
    let more = leads-append (at_start c.graph) c (after c event) reached.0 (event ∷ []) reached.1 (leads-one c event may) in
    (reached.0 ++ event ∷ [], subst (λ (g : Graph). Leads (at_start g) (reached.0 ++ event ∷ []) (after c event)) (sym same) more)

-- after an event that may come, what holds of every core holds
pub stays : (c : Core) (event : Event) → IsCore c → May c event → IsCore (after c event)
stays c (Arrives e) core may = record {
  sound = core.sound;
  edges = length-set c.marked e true ∙ core.edges;
  items = core.items;
  begun = λ j here. ⊎_elim (λ (same : j ≡ e). inl (ap (source c.graph) same ∙ may.1)) (core.begun j) (with_one-cases c.marked e j here);
  reached = reached-more c (Arrives e) refl core.reached may;
}
stays c (HandsOut k) core may = record {
  sound = core.sound;
  edges = core.edges;
  items = length-set c.handed k true ∙ core.items;
  begun = λ j here. ⊎_elim (λ out. inl out) (λ inside. inr (in-with_one c.handed k (source c.graph j) inside)) (core.begun j here);
  reached = reached-more c (HandsOut k) refl core.reached may;
}
stays c (Leaves e) core may = record {
  sound = core.sound;
  edges = length-set c.marked e true ∙ core.edges;
  items = core.items;
  begun = λ j here. ⊎_elim (λ (same : j ≡ e). inr (subst (λ (m : ℕ). IsIn c.handed (source c.graph m)) (sym same) may.1)) (core.begun j) (with_one-cases c.marked e j here);
  reached = reached-more c (Leaves e) refl core.reached may;
}

pub stays-all : (c : Core) (events : List Event) → IsCore c → IsRun c events → IsCore (after_all c events)
stays-all c [] core run = core
stays-all c (x ∷ xs) core run = stays-all (after c x) xs (stays c x core run.0) run.1

-- the empty state
pub starts : (g : Graph) → IsSound g → IsCore (at_start g)
starts g sound = record {
  sound = sound;
  edges = length-replicate (length g.edges) false;
  items = length-replicate g.items false;
  begun = λ e here. absurd (false≢true (sym (none_in (length g.edges) e) ∙ here));
  reached = ([], (tt, refl));
}

-- where no edge comes from outside, nothing is to be marked in the empty state
pub settled-start : (g : Graph) → list_any (λ edge. eqb edge.source OUTSIDE) g.edges ≡ false → IsSettled (at_start g)
settled-start g none e within from =
    let nowhere : Edge = record { source = OUTSIDE; target = OUTSIDE } in
    ⊎_elim
    (λ (out : source g e ≡ OUTSIDE).
    let read = get_or-map (λ (edge : Edge). edge.source) g.edges e nowhere OUTSIDE within in
    let test = eq-eqb (get_or g.edges e nowhere).source OUTSIDE (sym read ∙ out) in
    let some = list_any_at (λ (edge : Edge). eqb edge.source OUTSIDE) g.edges e nowhere within test in
    absurd (false≢true (sym none ∙ some)))
    (λ handed. absurd (false≢true (sym (none_in g.items (source g e)) ∙ handed)))
    from

-- the items from which edges to a ready item come
pub ready-inputs : (c : Core) (k : ℕ) → IsCore c → IsReady c k → HasInputs c.graph c.handed k
ready-inputs c k core ready e within to = core.begun e (ready.has_all e within to)

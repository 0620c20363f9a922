-- The edges of an item are marked one after another.
use Rattle.std.proofs.Common.{◌≡◌, ◌≢◌, ℕ, zero, suc, ◌<◌, ◌⊎◌, true, false, List, [], ◌∷◌, length, get_or, map, refl, sym, ap, ◌∙◌, subst, arith, inl, inr, ⊎_elim}
use Rattle.std.proofs.lemmas.List.{length-set, length-map, get_or-set_same, get_or-set_other}
use Rattle.turn_core.specs.declared.edge.TheConstants.{OUTSIDE}
use Rattle.turn_core.specs.Graph.{Graph, sources, source, outgoing}
use Rattle.turn_core.specs.Core.{Flags, IsIn, with_one, Core, HandsOut, Leaves, IsReady, May, after, after_all, IsRun, Leads, IsCore, MarksFrom, IsSettled}
use Rattle.turn_core.proofs.Events.{in-with_one, with_one-cases, graph-all}
use Rattle.turn_core.proofs.Places.{places-each, places-has}

leaving-handed : (c : Core) (es : List ℕ) → (after_all c (map Leaves es)).handed ≡ c.handed
leaving-handed c [] = refl
leaving-handed c (e ∷ es) = leaving-handed (after c (Leaves e)) es

leaving-keeps : (c : Core) (es : List ℕ) (j : ℕ) → IsIn c.marked j → IsIn (after_all c (map Leaves es)).marked j
leaving-keeps c [] j here = here
leaving-keeps c (e ∷ es) j here = leaving-keeps (after c (Leaves e)) es j (in-with_one c.marked e j here)

leaving-marks : (c : Core) (es : List ℕ) (i e : ℕ) → i < length es → get_or es i 0 ≡ e → e < length c.marked → IsIn (after_all c (map Leaves es)).marked e
leaving-marks c [] i e within here fits = absurd (omega arith)
leaving-marks c (x ∷ xs) zero e within here fits =
    leaving-keeps (after c (Leaves x)) xs e (subst (λ (m : ℕ). IsIn (with_one c.marked m) e) (sym here) (get_or-set_same c.marked e true false fits))
leaving-marks c (x ∷ xs) (suc i) e within here fits =
    leaving-marks (after c (Leaves x)) xs i e (omega arith) here (omega (arith, fits, length-set c.marked x true))

leaving-run : (c : Core) (es : List ℕ) → ((j : ℕ) → j < length es → May c (Leaves (get_or es j 0))) → IsRun c (map Leaves es)
leaving-run c [] may = tt
leaving-run c (e ∷ es) may = (may 0 (omega arith), leaving-run (after c (Leaves e)) es (λ j within. may (suc j) (omega arith)))

many_sources : (g : Graph) → length (sources g) ≡ length g.edges
many_sources g = length-map g.edges (λ e. e.source)

-- an edge among those that start at an item starts there
record IsOutgoing (g : Graph) (k e : ℕ) : Type 0 where
  is_edge : e < length g.edges
  starts : source g e ≡ k

outgoing-each : (g : Graph) (k j : ℕ) → j < length (outgoing g k) → IsOutgoing g k (get_or (outgoing g k) j 0)
outgoing-each g k j within =
    let place = places-each k (sources g) j within in
    let same : get_or (outgoing g k) j 0 ≡ place.at = omega (arith, place.is) in
    record {
      is_edge = omega (arith, same, place.within, many_sources g);
      starts = ap (λ (m : ℕ). get_or (sources g) m OUTSIDE) same ∙ place.here OUTSIDE;
    }

-- an edge of an item that was handed out may be marked
pub may_leave : (c : Core) (k j : ℕ) → IsIn c.handed k → j < length (outgoing c.graph k) → May c (Leaves (get_or (outgoing c.graph k) j 0))
may_leave c k j handed within =
    let out = outgoing-each c.graph k j within in
    (out.is_edge, subst (λ (m : ℕ). IsIn c.handed m) (sym out.starts) handed)

may_same : (c d : Core) (event : ℕ) → d.graph ≡ c.graph → d.handed ≡ c.handed → May c (Leaves event) → May d (Leaves event)
may_same c d e graph handed may =
    let one = subst (λ (g : Graph). (e < length g.edges) × IsIn c.handed (source g e)) (sym graph) may in
    subst (λ (s : Flags). (e < length d.graph.edges) × IsIn s (source d.graph e)) (sym handed) one

-- also after some of them were marked
pub may_leave_next : (c d : Core) (k j : ℕ) (es done : List ℕ) → es ≡ outgoing c.graph k → d ≡ after_all c (map Leaves done) → IsIn c.handed k → j < length es → May d (Leaves (get_or es j 0))
may_leave_next c d k j es done all now handed within =
    let short : j < length (outgoing c.graph k) = subst (λ (xs : List ℕ). j < length xs) all within in
    let may = subst (λ (xs : List ℕ). May c (Leaves (get_or xs j 0))) (sym all) (may_leave c k j handed short) in
    may_same c d (get_or es j 0)
    (ap (λ (x : Core). x.graph) now ∙ graph-all c (map Leaves done))
    (ap (λ (x : Core). x.handed) now ∙ leaving-handed c done) may

-- ---- a whole turn

-- the state after an item was handed out and its edges were marked
abbrev pub after_turn : Core → ℕ → Core
after_turn c k = after_all (after c (HandsOut k)) (map Leaves (outgoing c.graph k))

-- a state that is reached by handing out and marking
pub turn-now : (c mid new : Core) (k : ℕ) → mid ≡ after c (HandsOut k) → new ≡ after_all mid (map Leaves (outgoing mid.graph k)) → new ≡ after_turn c k
turn-now c mid new k handed marked = marked ∙ ap (λ (x : Core). after_all x (map Leaves (outgoing x.graph k))) handed

pub turn-handed : (c : Core) (k : ℕ) → (after_turn c k).handed ≡ with_one c.handed k
turn-handed c k = leaving-handed (after c (HandsOut k)) (outgoing c.graph k)

pub turn-graph : (c : Core) (k : ℕ) → (after_turn c k).graph ≡ c.graph
turn-graph c k = graph-all (after c (HandsOut k)) (map Leaves (outgoing c.graph k))

pub in-new : (c : Core) (k : ℕ) → IsCore c → IsReady c k → IsIn (with_one c.handed k) k
in-new c k core ready = get_or-set_same c.handed k true false (omega (arith, core.items, ready.is_item))

-- the events of a turn lead there
pub turn-leads : (c : Core) (k : ℕ) → IsCore c → IsReady c k → Leads c (HandsOut k ∷ map Leaves (outgoing c.graph k)) (after_turn c k)
turn-leads c k core ready =
    ((ready, leaving-run (after c (HandsOut k)) (outgoing c.graph k) (λ j within. may_leave (after c (HandsOut k)) k j (in-new c k core ready) within)), refl)

-- a turn leaves no edge of the item unmarked
pub turn-settles : (c : Core) (k : ℕ) → IsCore c → IsReady c k → IsSettled c → IsSettled (after_turn c k)
turn-settles c k core ready settled e within from =
    let mid = after c (HandsOut k) in
    let es = outgoing c.graph k in
    let graph = graph-all mid (map Leaves es) in
    let short : e < length c.graph.edges = subst (λ (g : Graph). e < length g.edges) graph within in
    let one = subst (λ (g : Graph). (source g e ≡ OUTSIDE) ⊎ IsIn (after_turn c k).handed (source g e)) graph from in
    let two = subst (λ (s : Flags). (source c.graph e ≡ OUTSIDE) ⊎ IsIn s (source c.graph e)) (turn-handed c k) one in
    ⊎_elim
    (λ out. leaving-keeps mid es e (settled e short (inl out)))
    (λ inside.
    ⊎_elim
    (λ (own : source c.graph e ≡ k).
    let stands = places-has k (sources c.graph) e OUTSIDE (omega (arith, short, many_sources c.graph)) own in
    leaving-marks mid es stands.at e stands.within stands.here (omega (arith, short, core.edges)))
    (λ was. leaving-keeps mid es e (settled e short (inr was)))
    (with_one-cases c.handed k (source c.graph e) inside))
    two

-- ---- all edges of an item

leaving-others : (c : Core) (es : List ℕ) (e : ℕ) → ((j : ℕ) → j < length es → get_or es j 0 ≢ e) → get_or (after_all c (map Leaves es)).marked e false ≡ get_or c.marked e false
leaving-others c [] e apart = refl
leaving-others c (x ∷ xs) e apart =
    leaving-others (after c (Leaves x)) xs e (λ j within. apart (suc j) (omega arith))
    ∙ get_or-set_other c.marked x e true false (λ (same : e ≡ x). apart 0 (omega arith) (sym same))

-- the edges of an item are marked, and no others
pub marks_from : (c new : Core) (k : ℕ) → IsCore c → k < c.graph.items → new ≡ after_all c (map Leaves (outgoing c.graph k)) → MarksFrom c new k
marks_from c new k core item now =
    let es = outgoing c.graph k in
    subst (λ (x : Core). MarksFrom c x k) (sym now) (record {
      graph = graph-all c (map Leaves es);
      handed = leaving-handed c es;
      own = λ e within here.
          let stands = places-has k (sources c.graph) e OUTSIDE (omega (arith, within, many_sources c.graph)) here in
          leaving-marks c es stands.at e stands.within stands.here (omega (arith, within, core.edges));
      others = λ e other. leaving-others c es e (λ j within same. other (ap (source c.graph) (sym same) ∙ (outgoing-each c.graph k j within).starts));
    })

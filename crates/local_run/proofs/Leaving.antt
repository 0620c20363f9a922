-- The edges that start at an item carry what its stage gives.
use Rattle.std.proofs.Common.{◌≡◌, false, ℕ, zero, suc, ◌<◌, List, [], ◌∷◌, length, map, get_or, Option, Some, None, refl, sym, ap, ◌∙◌, subst, arith}
use Rattle.std.specs.Prelude.{slice_get, is_some}
use Rattle.std.specs.List.{AllByRecursion}
use Rattle.std.proofs.lemmas.List.{length-map, get_or-map}
use Rattle.mot_base.specs.declared.Party.{Party}
use Rattle.turn_core.specs.declared.edge.TheConstants.{OUTSIDE}
use Rattle.turn_core.specs.Graph.{source, outgoing}
use Rattle.turn_core.proofs.Listed.{edges_listed}
use Rattle.task_pool.specs.Meanings.{AreMeanings, HasNoOutside}
use Rattle.plan_gates.specs.Plan.{Gates, IsPlan, has_keys}
use Rattle.plan_gates.specs.Messages.{rounds, awaits, message}
use Rattle.plan_gates.proofs.MessageLemmas.{waits}
use Rattle.gate_tasks.specs.declared.stage.StageOut.{StageOut}
use Rattle.joint_run.specs.Party.{Own}
use Rattle.gate_tasks.specs.Stage.{operands_at, senders, receivers}
use Rattle.joint_run.proofs.Grown.{there_is}
use Rattle.joint_run.proofs.Unique.{one_joint_run}
use Rattle.local_run.specs.declared.item.Item.{Item}
use Rattle.local_run.specs.declared.item.Load.{Load}
use Rattle.local_run.specs.declared.item.Load.TheVariants.{Wire, Kept, Message}
use Rattle.local_run.specs.declared.cargo.Cargo.{Cargo}
use Rattle.local_run.specs.Items.{all_items, number_of, IsItem}
use Rattle.local_run.specs.Loads.{party, wires_to, waited_for, loads_to, loads_at, sent_round, sent_at, sent_before, report_loads, reports_loads, loads_before, all_loads, all_edges, giver, IsGiven, graph_of}
use Rattle.local_run.specs.Meaning.{IsMeantAt, edge_means, HasCargoAt, IsCargoAt, HasRun}
use Rattle.local_run.proofs.Numbers.{item_found, number_within, few_items}
use Rattle.gate_tasks.specs.Report.{told_to}
use Rattle.local_run.proofs.Valid.{all_map, all_flat_each, all_passing, Passes, item_is, loads_given, reports_given}
use Rattle.local_run.proofs.Sending.{IsReal, all_trivial, has_cargo, is_meant}
use Rattle.local_run.proofs.Ranges.{all_sources}
use Rattle.mot_base.proofs.Lists.{same_some as some_is, all_append, all_implied as all_more, all_at}

-- ---- what edges carry is given and real

wires_real : (plan : Gates) (p : Party) (xs : List ℕ) → AllByRecursion (IsReal plan) (map (λ x. Wire x p) xs)
wires_real plan p xs = all_map (IsReal plan) (λ x. Wire x p) (λ _. Unit {0}) (λ x _. tt) xs (all_trivial xs)

waited_real : (plan : Gates) (g : ℕ) (p : Party) (stage : ℕ) (o : Option ℕ) → p.0 < plan.parties → awaits plan p.0 g stage ≡ o → AllByRecursion (IsReal plan) (waited_for plan g p o)
waited_real plan g p stage None member e = tt
waited_real plan g p stage (Some round) member e =
    let known = waits plan p.0 g stage round e in (
      (known.inside, known.heard),
      all_map (IsReal plan) (λ from. Message g round (party from) p) (Passes (λ from. is_some (message plan from p.0 g round)) plan.parties)
          (λ from is. (member, is.passes)) (senders plan p.0 g round) (all_passing (λ from. is_some (message plan from p.0 g round)) plan.parties),
    )

loads_real : (plan : Gates) (i : Item) → IsItem plan i → AllByRecursion (IsReal plan) (loads_to plan i)
loads_real plan i is =
    all_append (IsReal plan) (wires_to plan i.gate i.party) (waited_for plan i.gate i.party (awaits plan i.party.0 i.gate i.stage))
    (wires_real plan i.party (operands_at plan.gates i.gate))
    (waited_real plan i.gate i.party i.stage (awaits plan i.party.0 i.gate i.stage) is.party refl)

sent_round_real : (plan : Gates) (p : Party) (g round : ℕ) → AllByRecursion (IsReal plan) (sent_round plan p g round)
sent_round_real plan p g round =
    all_map (IsReal plan) (λ to. Message g round p (party to)) (Passes (λ to. is_some (message plan p.0 to g round)) plan.parties)
    (λ to is. (is.below, is.passes)) (receivers plan p.0 g round) (all_passing (λ to. is_some (message plan p.0 to g round)) plan.parties)

sent_at_real : (plan : Gates) (p : Party) (g : ℕ) → AllByRecursion (IsReal plan) (sent_at plan p g)
sent_at_real plan p g = all_flat_each (IsReal plan) (rounds plan g) (sent_round plan p g) (λ round inside. sent_round_real plan p g round)

pub sent_real : (plan : Gates) (p : Party) (n : ℕ) → AllByRecursion (IsReal plan) (sent_before plan p n)
sent_real plan p zero = tt
sent_real plan p (suc n) = all_append (IsReal plan) (sent_before plan p n) (sent_at plan p n) (sent_real plan p n) (sent_at_real plan p n)

reports_real : (plan : Gates) (n : ℕ) → AllByRecursion (IsReal plan) (reports_loads plan n)
reports_real plan zero = tt
reports_real plan (suc n) =
    all_append (IsReal plan) (reports_loads plan n) (report_loads plan (party n)) (reports_real plan n)
    (all_append (IsReal plan) (map (λ g. Wire g (party n)) (told_to plan n)) (sent_before plan (party n) (length plan.gates))
    (wires_real plan (party n) (told_to plan n)) (sent_real plan (party n) (length plan.gates)))

-- both of what an edge carries
record IsSound (plan : Gates) (load : Load) : Type 0 where
  given : IsGiven plan load
  real : IsReal plan load

both : (plan : Gates) (ls : List Load) → AllByRecursion (IsGiven plan) ls → AllByRecursion (IsReal plan) ls → AllByRecursion (IsSound plan) ls
both plan [] given real = tt
both plan (l ∷ ls) given real = (record { given = given.0; real = real.0 }, both plan ls given.1 real.1)

block_sound : (plan : Gates) (o : Option Item) (k : ℕ) → IsPlan plan → slice_get (all_items plan) k ≡ o → AllByRecursion (IsSound plan) (loads_at plan o)
block_sound plan None k is there = tt
block_sound plan (Some i) k is there =
    let item = item_is plan k i there in
    both plan (loads_to plan i) (loads_given plan i is item) (loads_real plan i item)

before_sound : (plan : Gates) (n : ℕ) → IsPlan plan → AllByRecursion (IsSound plan) (loads_before plan (all_items plan) n)
before_sound plan zero is = tt
before_sound plan (suc n) is =
    all_append (IsSound plan) (loads_before plan (all_items plan) n) (loads_at plan (slice_get (all_items plan) n)) (before_sound plan n is) (block_sound plan (slice_get (all_items plan) n) n is refl)

all_sound : (plan : Gates) → IsPlan plan → AllByRecursion (IsSound plan) (all_loads plan)
all_sound plan is =
    all_append (IsSound plan) (loads_before plan (all_items plan) (length (all_items plan))) (reports_loads plan plan.parties)
    (before_sound plan (length (all_items plan)) is)
    (both plan (reports_loads plan plan.parties) (reports_given plan) (reports_real plan plan.parties))

-- ---- the edges from an item

-- what the edge carries comes from the item
record ComesFrom (plan : Gates) (i : Item) (e : ℕ) : Type 0 where
  load : Load
  there : slice_get (all_loads plan) e ≡ Some load
  given : IsGiven plan load
  real : IsReal plan load
  same : giver plan load ≡ i

zero_load : Load
zero_load = Kept 0 0 (record { 0 = 0 })

comes_from : (plan : Gates) (k e : ℕ) (i : Item) → IsPlan plan → slice_get (all_items plan) k ≡ Some i → e < length (all_edges plan) → source (graph_of plan) e ≡ k → ComesFrom plan i e
comes_from plan k e i is there within from =
    let f : Load → ℕ = λ load. number_of plan (giver plan load) in
    let long = ap length (all_sources plan) in
    let short : e < length (all_loads plan) = omega (arith, long, within, length-map (all_edges plan) (λ edge. edge.source), length-map (all_loads plan) f) in
    let load : Load = get_or (all_loads plan) e zero_load in
    let here = there_is (all_loads plan) e zero_load short in
    let sound = all_at (IsSound plan) (all_loads plan) e load (all_sound plan is) here in
    let number : number_of plan (giver plan load) ≡ k =
    sym (ap (λ (xs : List ℕ). get_or xs e OUTSIDE) (all_sources plan) ∙ get_or-map f (all_loads plan) e zero_load OUTSIDE short) ∙ from in
    let found = item_found plan (giver plan load) sound.given in
    record {
      load = load;
      there = here;
      given = sound.given;
      real = sound.real;
      same = some_is (giver plan load) i (sym found ∙ ap (slice_get (all_items plan)) number ∙ there);
    }

module _ (plan : Gates) (owns : List Own) (count : length owns ≡ plan.parties) (k : ℕ) (i : Item) (is : IsPlan plan) (unkeyed : has_keys plan ≡ false) (there : slice_get (all_items plan) k ≡ Some i) (given : StageOut) (run : HasRun plan owns i given) where
  has_at : (e : ℕ) → e < length (all_edges plan) → source (graph_of plan) e ≡ k → HasCargoAt given (slice_get (all_loads plan) e)
  has_at e within from =
      let c = comes_from plan k e i is there within from in
      let joint = one_joint_run plan owns in
      let here = has_cargo plan owns is unkeyed count joint.0 c.load given joint.1 c.given c.real (subst (λ (j : Item). HasRun plan owns j given) (sym c.same) run) in
      subst (λ o. HasCargoAt given o) (sym c.there) here

  means_at : (e : ℕ) (v : Cargo) → e < length (all_edges plan) → source (graph_of plan) e ≡ k → IsCargoAt given (slice_get (all_loads plan) e) v → edge_means plan owns e v
  means_at e v within from cargo =
      let c = comes_from plan k e i is there within from in
      let joint = one_joint_run plan owns in
      let here = is_meant plan owns is unkeyed count joint.0 c.load v given joint.1 c.given c.real (subst (λ (j : Item). HasRun plan owns j given) (sym c.same) run) (subst (λ o. IsCargoAt given o v) c.there cargo) in
      subst (λ o. IsMeantAt plan owns o v) (sym c.there) here

  abbrev Leaves : ℕ → Type 0
  Leaves e = (e < length (all_edges plan)) × (source (graph_of plan) e ≡ k)

  all_leave_from : (es : List ℕ) → ((j : ℕ) → j < length es → Leaves (get_or es j 0)) → AllByRecursion Leaves es
  all_leave_from [] each = tt
  all_leave_from (e ∷ es) each = (each 0 (omega arith), all_leave_from es (λ j less. each (suc j) (omega (arith, less))))

  all_leave : AllByRecursion Leaves (outgoing (graph_of plan) k)
  all_leave =
      let list = (edges_listed (graph_of plan) k).0 in
      all_leave_from (outgoing (graph_of plan) k) (λ j less. (list.within j less, list.each j less))

  pub all_have : AllByRecursion (λ e. HasCargoAt given (slice_get (all_loads plan) e)) (outgoing (graph_of plan) k)
  all_have = all_more Leaves (λ e. HasCargoAt given (slice_get (all_loads plan) e)) (λ e leaves. has_at e leaves.0 leaves.1) (outgoing (graph_of plan) k) all_leave

  mean_from : (es : List ℕ) (vs : List Cargo) → AllByRecursion Leaves es → AreMeanings (λ e v. IsCargoAt given (slice_get (all_loads plan) e) v) es vs → AreMeanings (edge_means plan owns) es vs
  mean_from [] [] leave are = tt
  mean_from [] (v ∷ vs) leave are = absurd are
  mean_from (e ∷ es) [] leave are = absurd are
  mean_from (e ∷ es) (v ∷ vs) leave are = (means_at e v leave.0.0 leave.0.1 are.0, mean_from es vs leave.1 are.1)

  pub outputs_mean : (vs : List Cargo) → AreMeanings (λ e v. IsCargoAt given (slice_get (all_loads plan) e) v) (outgoing (graph_of plan) k) vs → AreMeanings (edge_means plan owns) (outgoing (graph_of plan) k) vs
  outputs_mean vs are = mean_from (outgoing (graph_of plan) k) vs all_leave are

-- ---- no edge comes from outside

pub none_outside : (plan : Gates) → IsPlan plan → HasNoOutside (graph_of plan)
none_outside plan is e within out =
    let f : Load → ℕ = λ load. number_of plan (giver plan load) in
    let long = ap length (all_sources plan) in
    let short : e < length (all_loads plan) = omega (arith, long, within, length-map (all_edges plan) (λ edge. edge.source), length-map (all_loads plan) f) in
    let load : Load = get_or (all_loads plan) e zero_load in
    let sound = all_at (IsSound plan) (all_loads plan) e load (all_sound plan is) (there_is (all_loads plan) e zero_load short) in
    let number : number_of plan (giver plan load) ≡ OUTSIDE =
    sym (ap (λ (xs : List ℕ). get_or xs e OUTSIDE) (all_sources plan) ∙ get_or-map f (all_loads plan) e zero_load OUTSIDE short) ∙ out in
    let few = few_items plan (length plan.gates) is (omega arith) in
    let less = number_within plan (giver plan load) sound.given in
    absurd (omega (arith, number, few, less))

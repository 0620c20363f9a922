-- What flows into an item is what its stage takes.
use Rattle.std.proofs.Common.{◌≡◌, ℕ, zero, suc, ◌<◌, List, [], ◌∷◌, ◌++◌, length, map, get_or, Option, Some, None, refl, sym, ap, ap₂, ◌∙◌, subst, arith}
use Rattle.std.specs.Prelude.{slice_get, IfSome}
use Rattle.std.specs.List.{AllByRecursion, flat_map}
use Rattle.std.proofs.lemmas.Grind.{flat_map-append}
use Rattle.std.proofs.lemmas.List.{append-nil}
use Rattle.mot_base.specs.declared.Party.{Party}
use Rattle.plan_gates.specs.Gate.{Gate}
use Rattle.plan_gates.specs.declared.message.Message.{Message as Sent}
use Rattle.plan_gates.specs.Plan.{Gates, IsPlan}
use Rattle.plan_gates.specs.Messages.{message, awaits, sent_in}
use Rattle.plan_gates.proofs.MessageLemmas.{waits}
use Rattle.gate_tasks.specs.declared.value.Value.{Value as ValueInMemory}
use Rattle.joint_run.specs.Party as party
use Rattle.joint_run.specs.Party.{Own, Payload, wires_before, party_value}
use Rattle.joint_run.specs.Joint.{Payloads, column, IsJoint}
use Rattle.joint_run.specs.Honest.{own_at}
use Rattle.gate_tasks.specs.Stage.{value_of, operands_at, senders, heard_in, carried_to, IsStage, IsOf, HasShape, AreOperands, AreAwaited}
use Rattle.joint_run.proofs.Grown.{got, grown-get}
use Rattle.local_run.specs.declared.item.Item.{Item}
use Rattle.local_run.specs.declared.item.Load.{Load}
use Rattle.local_run.specs.declared.item.Load.TheVariants.{Wire, Kept, Message}
use Rattle.local_run.specs.declared.cargo.Cargo.{Cargo}
use Rattle.local_run.specs.declared.cargo.Cargo.TheVariants as cargo
use Rattle.local_run.specs.Cargo.{values_of, payloads_of, kept_after}
use Rattle.local_run.specs.Items.{IsItem}
use Rattle.local_run.specs.Loads as loads
use Rattle.local_run.specs.Loads.{wires_to, waited_for, loads_to}
use Rattle.local_run.specs.Meaning.{place_in, IsMeant, AreMeant}
use Rattle.local_run.proofs.Numbers.{awaits_none}
use Rattle.local_run.proofs.Valid.{operands_are_before}
use Rattle.mot_base.proofs.Lists.{same_some as some_is}

-- a party's value of a gate in a run
abbrev value_in : Gates → List Own → Payloads → ℕ → ℕ → party.Value
value_in plan owns table p g = party_value plan p (own_at owns p) (column table p) g

-- ---- values

-- values that are those of gates at a party
record AreValues (plan : Gates) (owns : List Own) (p : Party) (xs : List ℕ) (cs : List Cargo) : Type 0 where
  count : length (flat_map values_of cs) ≡ length xs
  values : (table : Payloads) → IsJoint plan owns table → map value_of (flat_map values_of cs) ≡ map (value_in plan owns table p.0) xs
  payloads : flat_map payloads_of cs ≡ []
  kept : (before : Option (List (List ℕ))) → kept_after before cs ≡ before

values_are : (plan : Gates) (owns : List Own) (p : Party) (xs : List ℕ) (cs : List Cargo) → AreMeant plan owns (map (λ x. Wire x p) xs) cs → AreValues plan owns p xs cs
values_are plan owns p [] [] meant = record { count = refl; values = λ table joint. refl; payloads = refl; kept = λ before. refl }
values_are plan owns p [] (c ∷ cs) meant = absurd meant
values_are plan owns p (x ∷ xs) [] meant = absurd meant
values_are plan owns p (x ∷ xs) (cargo.Value v ∷ cs) meant =
    let rest = values_are plan owns p xs cs meant.1 in
    record {
      count = let more = rest.count in omega (arith, more);
      values = λ table joint. ap₂ (λ (y : party.Value) (ys : List party.Value). y ∷ ys) (meant.0.1 table joint) (rest.values table joint);
      payloads = rest.payloads;
      kept = rest.kept;
    }
values_are plan owns p (x ∷ xs) (cargo.Kept k ∷ cs) meant = absurd meant.0.0
values_are plan owns p (x ∷ xs) (cargo.Message bytes ∷ cs) meant = absurd meant.0.0

-- each is of its gate's kind and width
types_are : (plan : Gates) (owns : List Own) (p : Party) (xs : List ℕ) (cs : List Cargo) → AreMeant plan owns (map (λ x. Wire x p) xs) cs →
    (i x : ℕ) (gate : Gate) (v : ValueInMemory) → slice_get xs i ≡ Some x → slice_get plan.gates x ≡ Some gate → slice_get (flat_map values_of cs) i ≡ Some v → IsOf gate v
types_are plan owns p [] cs meant i x gate v there found read = cc
types_are plan owns p (y ∷ xs) [] meant i x gate v there found read = absurd meant
types_are plan owns p (y ∷ xs) (cargo.Value w ∷ cs) meant zero x gate v there found read =
    let same : y ≡ x = some_is y x there in
    let value : w ≡ v = some_is w v read in
    let fits : IsOf gate w = subst (λ (o : Option Gate). IfSome o (λ (other : Gate). IsOf other w)) (ap (slice_get plan.gates) same ∙ found) meant.0.0 in
    subst (λ (u : ValueInMemory). IsOf gate u) value fits
types_are plan owns p (y ∷ xs) (cargo.Value w ∷ cs) meant (suc i) x gate v there found read = types_are plan owns p xs cs meant.1 i x gate v there found read
types_are plan owns p (y ∷ xs) (cargo.Kept k ∷ cs) meant i x gate v there found read = absurd meant.0.0
types_are plan owns p (y ∷ xs) (cargo.Message bytes ∷ cs) meant i x gate v there found read = absurd meant.0.0

-- ---- payloads

record ArePayloads (plan : Gates) (owns : List Own) (g round : ℕ) (p : Party) (froms : List ℕ) (cs : List Cargo) : Type 0 where
  count : length (flat_map payloads_of cs) ≡ length froms
  payloads : (table : Payloads) → IsJoint plan owns table → flat_map payloads_of cs ≡ map (λ from. table g round from p.0) froms
  values : flat_map values_of cs ≡ []
  kept : (before : Option (List (List ℕ))) → kept_after before cs ≡ before

abbrev messages : ℕ → ℕ → Party → List ℕ → List Load
messages g round p froms = map (λ from. Message g round (loads.party from) p) froms

payloads_are : (plan : Gates) (owns : List Own) (g round : ℕ) (p : Party) (froms : List ℕ) (cs : List Cargo) → AreMeant plan owns (messages g round p froms) cs → ArePayloads plan owns g round p froms cs
payloads_are plan owns g round p [] [] meant = record { count = refl; payloads = λ table joint. refl; values = refl; kept = λ before. refl }
payloads_are plan owns g round p [] (c ∷ cs) meant = absurd meant
payloads_are plan owns g round p (from ∷ froms) [] meant = absurd meant
payloads_are plan owns g round p (from ∷ froms) (cargo.Message bytes ∷ cs) meant =
    let rest = payloads_are plan owns g round p froms cs meant.1 in
    record {
      count = let more = rest.count in omega (arith, more);
      payloads = λ table joint. ap₂ (λ (y : Payload) (ys : List Payload). y ∷ ys) (meant.0.1 table joint) (rest.payloads table joint);
      values = rest.values;
      kept = rest.kept;
    }
payloads_are plan owns g round p (from ∷ froms) (cargo.Kept k ∷ cs) meant = absurd meant.0.0
payloads_are plan owns g round p (from ∷ froms) (cargo.Value v ∷ cs) meant = absurd meant.0.0

shapes_are : (plan : Gates) (owns : List Own) (g round : ℕ) (p : Party) (froms : List ℕ) (cs : List Cargo) → AreMeant plan owns (messages g round p froms) cs →
    (i from : ℕ) (m : Sent) (payload : Payload) → slice_get froms i ≡ Some from → message plan from p.0 g round ≡ Some m → slice_get (flat_map payloads_of cs) i ≡ Some payload → HasShape m payload
shapes_are plan owns g round p [] cs meant i from m payload there found read = cc
shapes_are plan owns g round p (f ∷ froms) [] meant i from m payload there found read = absurd meant
shapes_are plan owns g round p (f ∷ froms) (cargo.Message bytes ∷ cs) meant zero from m payload there found read =
    let same : f ≡ from = some_is f from there in
    let value : bytes ≡ payload = some_is bytes payload read in
    let fits : HasShape m bytes = subst (λ (o : Option Sent). IfSome o (λ (other : Sent). HasShape other bytes)) (ap (λ (n : ℕ). message plan n p.0 g round) same ∙ found) meant.0.0 in
    subst (λ (u : Payload). HasShape m u) value fits
shapes_are plan owns g round p (f ∷ froms) (cargo.Message bytes ∷ cs) meant (suc i) from m payload there found read = shapes_are plan owns g round p froms cs meant.1 i from m payload there found read
shapes_are plan owns g round p (f ∷ froms) (cargo.Kept k ∷ cs) meant i from m payload there found read = absurd meant.0.0
shapes_are plan owns g round p (f ∷ froms) (cargo.Value v ∷ cs) meant i from m payload there found read = absurd meant.0.0

-- ---- both, one behind the other

pub record IsSplit (plan : Gates) (owns : List Own) (ls ms : List Load) (cs : List Cargo) : Type 0 where
  pub front : List Cargo
  pub back : List Cargo
  pub same : cs ≡ front ++ back
  pub front_meant : AreMeant plan owns ls front
  pub back_meant : AreMeant plan owns ms back

pub split : (plan : Gates) (owns : List Own) (ls ms : List Load) (cs : List Cargo) → AreMeant plan owns (ls ++ ms) cs → IsSplit plan owns ls ms cs
split plan owns [] ms cs meant = record { front = []; back = cs; same = refl; front_meant = tt; back_meant = meant }
split plan owns (l ∷ ls) ms [] meant = absurd meant
split plan owns (l ∷ ls) ms (c ∷ cs) meant =
    let rest = split plan owns ls ms cs meant.1 in
    record { front = c ∷ rest.front; back = rest.back; same = ap (λ (xs : List Cargo). c ∷ xs) rest.same; front_meant = (meant.0, rest.front_meant); back_meant = rest.back_meant }

kept_append : (before : Option (List (List ℕ))) (xs ys : List Cargo) → kept_after before (xs ++ ys) ≡ kept_after (kept_after before xs) ys
kept_append before [] ys = refl
kept_append before (cargo.Value v ∷ xs) ys = kept_append before xs ys
kept_append before (cargo.Kept k ∷ xs) ys = kept_append (Some k) xs ys
kept_append before (cargo.Message bytes ∷ xs) ys = kept_append before xs ys

-- ---- the wires of a party

map_same : {X Y : Type 0} (f h : X → Y) (P : X → Type 0) → ((x : X) → P x → f x ≡ h x) → (xs : List X) → AllByRecursion P xs → map f xs ≡ map h xs
map_same f h P same [] all = refl
map_same f h P same (x ∷ xs) all = ap₂ (λ y ys. y ∷ ys) (same x all.0) (map_same f h P same xs all.1)

wire_at : (plan : Gates) (owns : List Own) (table : Payloads) (p g x : ℕ) → x < g →
    value_in plan owns table p x ≡ get_or (place_in plan owns table p g).wires x (party.Told None)
wire_at plan owns table p g x less =
    sym (got (wires_before plan p (own_at owns p) (column table p) g) x (value_in plan owns table p x) (party.Told None)
    (grown-get (wires_before plan p (own_at owns p) (column table p)) (λ j. value_in plan owns table p j) refl (λ j. refl) g x less))

operand_values : (plan : Gates) (owns : List Own) (table : Payloads) (p g : ℕ) → IsPlan plan →
    map (value_in plan owns table p) (operands_at plan.gates g) ≡ map (λ x. get_or (place_in plan owns table p g).wires x (party.Told None)) (operands_at plan.gates g)
operand_values plan owns table p g is =
    map_same (value_in plan owns table p) (λ x. get_or (place_in plan owns table p g).wires x (party.Told None)) (λ x. x < g)
    (λ x less. wire_at plan owns table p g x less) (operands_at plan.gates g) (operands_are_before plan g is)

-- ---- the stage

-- what the parts are taken for by a stage
pub record IsTaken (plan : Gates) (owns : List Own) (p : Party) (g stage : ℕ) (cs : List Cargo) : Type 0 where
  pub operands : AreOperands plan g (flat_map values_of cs)
  pub awaited : AreAwaited plan p.0 g (awaits plan p.0 g stage) (flat_map payloads_of cs)
  pub stage_is : (table : Payloads) → IsJoint plan owns table →
      IsStage (place_in plan owns table p.0 g) (column table p.0 g) stage (flat_map values_of cs) (kept_after None cs) (flat_map payloads_of cs)

first_taken : (plan : Gates) (owns : List Own) (p : Party) (g : ℕ) (cs : List Cargo) → IsPlan plan → AreMeant plan owns (wires_to plan g p) cs → IsTaken plan owns p g 0 cs
first_taken plan owns p g cs is meant =
    let xs = operands_at plan.gates g in
    let values = values_are plan owns p xs cs meant in
    record {
      operands = record { count = values.count; types = types_are plan owns p xs cs meant };
      awaited = record {
        count = ap length values.payloads;
        shapes = λ r i from m payload never a b c. cc;
      };
      stage_is = λ table joint. record {
        wires_are = values.values table joint ∙ operand_values plan owns table p.0 g is;
        carried_is = values.kept None;
        heard_is = values.payloads;
      };
    }

-- what waits for a round
later_taken : (plan : Gates) (owns : List Own) (p : Party) (g stage round : ℕ) (front : List Cargo) (c : Cargo) (back : List Cargo) → IsPlan plan → awaits plan p.0 g stage ≡ Some round →
    AreMeant plan owns (wires_to plan g p) front → IsMeant plan owns (Kept g round p) c → AreMeant plan owns (messages g round p (senders plan p.0 g round)) back → IsTaken plan owns p g stage (front ++ (c ∷ back))
later_taken plan owns p g stage round front (cargo.Value v) back is waiting wires kept heards = absurd kept.0
later_taken plan owns p g stage round front (cargo.Message bytes) back is waiting wires kept heards = absurd kept.0
later_taken plan owns p g stage round front (cargo.Kept k) back is waiting wires kept heards =
    let xs = operands_at plan.gates g in
    let froms = senders plan p.0 g round in
    let cs : List Cargo = front ++ (cargo.Kept k ∷ back) in
    let values = values_are plan owns p xs front wires in
    let payloads = payloads_are plan owns g round p froms back heards in
    let same_values : flat_map values_of cs ≡ flat_map values_of front =
    flat_map-append values_of front (cargo.Kept k ∷ back) ∙ ap (λ ys. flat_map values_of front ++ ys) payloads.values ∙ append-nil (flat_map values_of front) in
    let same_payloads : flat_map payloads_of cs ≡ flat_map payloads_of back =
    flat_map-append payloads_of front (cargo.Kept k ∷ back) ∙ ap (λ ys. ys ++ flat_map payloads_of back) values.payloads in
    let same_kept : kept_after None cs ≡ Some k = kept_append None front (cargo.Kept k ∷ back) ∙ payloads.kept (Some k) in
    let behind : suc (sent_in plan p.0 g round) ≡ stage = let known = waits plan p.0 g stage round waiting in omega (arith, known.behind) in
    record {
      operands = record {
        count = ap length same_values ∙ values.count;
        types = λ i x gate v there found read. types_are plan owns p xs front wires i x gate v there found (ap (λ ys. slice_get ys i) (sym same_values) ∙ read);
      };
      awaited = subst (λ (o : Option ℕ). AreAwaited plan p.0 g o (flat_map payloads_of cs)) (sym waiting) (record {
        count = ap length same_payloads ∙ payloads.count;
        shapes = λ r i from m payload is_round there found read.
            let round_is : round ≡ r = some_is round r is_round in
            shapes_are plan owns g round p froms back heards i from m payload
            (ap (λ (n : ℕ). slice_get (senders plan p.0 g n) i) round_is ∙ there)
            (ap (λ (n : ℕ). message plan from p.0 g n) round_is ∙ found)
            (ap (λ ys. slice_get ys i) (sym same_payloads) ∙ read);
      });
      stage_is = λ table joint. record {
        wires_are = ap (map value_of) same_values ∙ values.values table joint ∙ operand_values plan owns table p.0 g is;
        carried_is = same_kept ∙ kept.1 table joint ∙ ap (carried_to (place_in plan owns table p.0 g) (column table p.0 g)) behind;
        heard_is =
            same_payloads ∙ payloads.payloads table joint
            ∙ ap (λ (o : Option ℕ). heard_in (place_in plan owns table p.0 g) (column table p.0 g) o) (sym waiting);
      };
    }

-- what flows into an item
pub taken : (plan : Gates) (owns : List Own) (i : Item) (cs : List Cargo) → IsPlan plan → IsItem plan i → AreMeant plan owns (loads_to plan i) cs → IsTaken plan owns i.party i.gate i.stage cs
taken plan owns i cs is item meant = by (awaits plan i.party.0 i.gate i.stage) refl meant
  where
    behind : (round : ℕ) (front back : List Cargo) → awaits plan i.party.0 i.gate i.stage ≡ Some round → cs ≡ front ++ back → AreMeant plan owns (wires_to plan i.gate i.party) front → AreMeant plan owns (waited_for plan i.gate i.party (Some round)) back → IsTaken plan owns i.party i.gate i.stage cs
    behind round front [] e same wires rest = absurd rest
    behind round front (c ∷ back) e same wires rest =
        subst (λ (xs : List Cargo). IsTaken plan owns i.party i.gate i.stage xs) (sym same)
        (later_taken plan owns i.party i.gate i.stage round front c back is e wires rest.0 rest.1)

    by : (o : Option ℕ) → awaits plan i.party.0 i.gate i.stage ≡ o → AreMeant plan owns (wires_to plan i.gate i.party ++ waited_for plan i.gate i.party o) cs → IsTaken plan owns i.party i.gate i.stage cs
    by None e all =
        let first = awaits_none plan i.party.0 i.gate i.stage item.stage e in
        let wires = subst (λ (ls : List Load). AreMeant plan owns ls cs) (append-nil (wires_to plan i.gate i.party)) all in
        subst (λ (s : ℕ). IsTaken plan owns i.party i.gate s cs) (sym first) (first_taken plan owns i.party i.gate cs is wires)
    by (Some round) e all =
        let parts = split plan owns (wires_to plan i.gate i.party) (waited_for plan i.gate i.party (Some round)) cs all in
        behind round parts.front parts.back e parts.same parts.front_meant parts.back_meant

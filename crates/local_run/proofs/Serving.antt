-- A stage is run on what serves it, and gives what the joint run has.
use Rattle.std.proofs.Common.{◌≡◌, ℕ, zero, suc, ◌<◌, List, [], ◌∷◌, length, Some, None, refl, sym, ap₂, ◌∙◌, subst, arith}
use Rattle.std.specs.Prelude.{slice_get, IfSome}
use Rattle.std.specs.List.{flat_map}
use Rattle.dealer_files.specs.Part.{Part}
use Rattle.plan_gates.specs.Gate.{Gate}
use Rattle.plan_gates.specs.Plan.{Gates}
use Rattle.plan_gates.specs.Messages.{stages}
use Rattle.joint_run.specs.declared.own.Own.{Own as OwnInMemory}
use Rattle.gate_tasks.specs.declared.stage.StageOut.{StageOut}
use Rattle.joint_run.specs.Party as party
use Rattle.joint_run.specs.Party.{Own, Hand, Rounds, hand, wires_before}
use Rattle.joint_run.specs.Joint.{column}
use Rattle.joint_run.specs.Honest.{own_at, nobody}
use Rattle.gate_tasks.specs.Stage.{own_with, IsOf, IsStage, Gives, Serves}
use Rattle.gate_tasks.proofs.Serving.{serves as serves_gate}
use Rattle.joint_run.proofs.Grown.{got}
use Rattle.local_run.specs.declared.item.Item.{Item}
use Rattle.local_run.specs.declared.cargo.Cargo.{Cargo}
use Rattle.local_run.specs.Cargo.{values_of, payloads_of, kept_after}
use Rattle.local_run.specs.Items.{IsItem}
use Rattle.local_run.specs.Job.{IsJob}
use Rattle.local_run.specs.Meaning.{owns_with, place_in, HasRun}
use Rattle.local_run.proofs.Staging.{IsTaken}
use Rattle.mot_base.proofs.Lists.{same_some as some_is}

-- ---- own data

pub serves : (plan : Gates) (owns : List OwnInMemory) (parts : List Part) (p g : ℕ) (own : OwnInMemory) (part : Part) → IsJob plan owns parts → slice_get owns p ≡ Some own → slice_get parts p ≡ Some part → g < length plan.gates → Serves plan own part g
serves plan owns parts p g own part job own_there part_there known = serves_gate plan p g own part (job.each p own part own_there part_there) job.keyless known

with_there : (owns : List OwnInMemory) (parts : List Part) (p : ℕ) (own : OwnInMemory) (part : Part) → slice_get owns p ≡ Some own → slice_get parts p ≡ Some part → slice_get (owns_with owns parts) p ≡ Some (own_with own part)
with_there [] parts p own part a b = cc
with_there (o ∷ owns) [] p own part a b = cc
with_there (o ∷ owns) (q ∷ parts) zero own part a b = ap₂ (λ x y. Some (own_with x y)) (some_is o own a) (some_is q part b)
with_there (o ∷ owns) (q ∷ parts) (suc p) own part a b = with_there owns parts p own part a b

pub own_is : (owns : List OwnInMemory) (parts : List Part) (p : ℕ) (own : OwnInMemory) (part : Part) → slice_get owns p ≡ Some own → slice_get parts p ≡ Some part → own_at (owns_with owns parts) p ≡ own_with own part
own_is owns parts p own part a b = got (owns_with owns parts) p (own_with own part) nobody (with_there owns parts p own part a b)

with_length : (owns : List OwnInMemory) (parts : List Part) → length owns ≡ length parts → length (owns_with owns parts) ≡ length owns
with_length [] parts same = refl
with_length (o ∷ owns) [] same = absurd (omega (arith, same))
with_length (o ∷ owns) (q ∷ parts) same = let rest = with_length owns parts (omega (arith, same)) in omega (arith, rest)

pub with_count : (plan : Gates) (owns : List OwnInMemory) (parts : List Part) → IsJob plan owns parts → length (owns_with owns parts) ≡ plan.parties
with_count plan owns parts job = with_length owns parts (job.owns_count ∙ sym job.parts_count) ∙ job.owns_count

-- ---- the whole item

pub has_run : (plan : Gates) (owns : List OwnInMemory) (parts : List Part) (i : Item) (own : OwnInMemory) (part : Part) (cs : List Cargo) (given : StageOut) → IsJob plan owns parts →
    slice_get owns i.party.0 ≡ Some own → slice_get parts i.party.0 ≡ Some part → IsTaken plan (owns_with owns parts) i.party i.gate i.stage cs →
    ((wires : List party.Value) (got : Rounds) → IsStage (hand plan own.me.0 (own_with own part) i.gate wires) got i.stage (flat_map values_of cs) (kept_after None cs) (flat_map payloads_of cs) →
    Gives (hand plan own.me.0 (own_with own part) i.gate wires) got i.stage given) →
    IfSome given.value (λ v. (gate : Gate) → slice_get plan.gates i.gate ≡ Some gate → IsOf gate v) → HasRun plan (owns_with owns parts) i given
has_run plan owns parts i own part cs given job own_there part_there takes gives typed =
    let p : ℕ = i.party.0 in
    let all : List Own = owns_with owns parts in
    let one = job.each i.party.0 own part own_there part_there in
    record {
      typed = typed;
      gives = λ table joint.
          let wires = wires_before plan p (own_at all p) (column table p) i.gate in
          let same : hand plan own.me.0 (own_with own part) i.gate wires ≡ place_in plan all table p i.gate =
          ap₂ (λ (m : ℕ) (o : Own). hand plan m o i.gate wires) one.me (sym (own_is owns parts p own part own_there part_there)) in
          let stage = subst (λ (h : Hand). IsStage h (column table p i.gate) i.stage (flat_map values_of cs) (kept_after None cs) (flat_map payloads_of cs)) (sym same) (takes.stage_is table joint) in
          subst (λ (h : Hand). Gives h (column table p i.gate) i.stage given) same (gives wires (column table p i.gate) stage);
    }

-- ---- what the code reads

pub stage_within : (plan : Gates) (i : Item) (me : ℕ) → IsItem plan i → me ≡ i.party.0 → i.stage < stages plan me i.gate
stage_within plan i me is same = subst (λ (p : ℕ). i.stage < stages plan p i.gate) (sym same) is.stage

-- What the values on the edges of a run mean.
use Rattle.std.specs.Prelude.{ℕ, suc, ◌≡◌, List, [], ◌∷◌, slice_get, Option, Some, None, IfSome, IsSome}
use Rattle.mot_base.specs.declared.Party.{Party}
use Rattle.dealer_files.specs.Part.{Part}
use Rattle.plan_gates.specs.Gate.{Gate}
use Rattle.plan_gates.specs.Plan.{Gates}
use Rattle.plan_gates.specs.Messages.{message, sent_in}
use Rattle.joint_run.specs.declared.own.Own.{Own as OwnInMemory}
use Rattle.gate_tasks.specs.declared.outgoing.Out.{Out}
use Rattle.gate_tasks.specs.declared.stage.StageOut.{StageOut}
use Rattle.joint_run.specs.Party.{Own, Payload, Hand, hand_at, party_value}
use Rattle.joint_run.specs.Joint.{Payloads, column, IsJoint}
use Rattle.joint_run.specs.Honest.{own_at}
use Rattle.gate_tasks.specs.Stage.{value_of, own_with, carried_to, Gives, IsOf, HasShape}
use Rattle.local_run.specs.declared.item.Item.{Item}
use Rattle.local_run.specs.declared.item.Load.{Load}
use Rattle.local_run.specs.declared.item.Load.TheVariants.{Wire, Kept, Message}
use Rattle.local_run.specs.declared.cargo.Cargo.{Cargo}
use Rattle.local_run.specs.declared.cargo.Cargo.TheVariants as cargo
use Rattle.local_run.specs.Loads.{all_loads}

-- the own data of all parties with their parts of a deal
abbrev pub owns_with : List OwnInMemory → List Part → List Own
owns_with [] parts = []
owns_with (own ∷ owns) [] = []
owns_with (own ∷ owns) (part ∷ parts) = own_with own part ∷ owns_with owns parts

-- a party's place at a gate of a joint run
abbrev pub place_in : Gates → List Own → Payloads → ℕ → ℕ → Hand
place_in plan owns table p g = hand_at plan p (own_at owns p) (column table p) g

-- in a joint run it is the party's value of the gate, what the party carries to the stage that waits for the round, or the payload
abbrev pub IsOfRun : Gates → List Own → Payloads → Load → Cargo → Type 0
IsOfRun plan owns table (Wire g p) (cargo.Value v) =
    value_of v ≡ party_value plan p.0 (own_at owns p.0) (column table p.0) g
IsOfRun plan owns table (Kept g round p) (cargo.Kept kept) =
    Some kept ≡ carried_to (place_in plan owns table p.0 g) (column table p.0 g) (suc (sent_in plan p.0 g round))
IsOfRun plan owns table (Message g round from to) (cargo.Message payload) = payload ≡ table g round from.0 to.0
IsOfRun plan owns table _ _ = ⊥

-- it has the kind, width and shape that the plan states
abbrev pub IsFit : Gates → Load → Cargo → Type 0
IsFit plan (Wire g p) (cargo.Value v) = IfSome (slice_get plan.gates g) (λ gate. IsOf gate v)
IsFit plan (Kept g round p) (cargo.Kept kept) = Unit {0}
IsFit plan (Message g round from to) (cargo.Message payload) =
    IfSome (message plan from.0 to.0 g round) (λ m. HasShape m payload)
IsFit plan _ _ = ⊥

-- it is what the edge carries in the joint run
abbrev pub IsMeant : Gates → List Own → Load → Cargo → Type 0
IsMeant plan owns load c =
    IsFit plan load c × ((table : Payloads) → IsJoint plan owns table → IsOfRun plan owns table load c)

-- the same of the edge with a number
abbrev pub IsMeantAt : Gates → List Own → Option Load → Cargo → Type 0
IsMeantAt plan owns None c = ⊥
IsMeantAt plan owns (Some load) c = IsMeant plan owns load c

abbrev pub edge_means : Gates → List Own → ℕ → Cargo → Type 0
edge_means plan owns e c = IsMeantAt plan owns (slice_get (all_loads plan) e) c

-- two lists are as long, and what stands at one place in them belongs together
abbrev pub ArePairs : (Load → Cargo → Type 0) → List Load → List Cargo → Type 0
ArePairs Belong [] [] = Unit {0}
ArePairs Belong (load ∷ loads) (c ∷ cs) = Belong load c × ArePairs Belong loads cs
ArePairs Belong [] (c ∷ cs) = ⊥
ArePairs Belong (load ∷ loads) [] = ⊥

-- values that are what these edges carry, one after another
abbrev pub AreMeant : Gates → List Own → List Load → List Cargo → Type 0
AreMeant plan owns loads cs = ArePairs (IsMeant plan owns) loads cs

abbrev pub AreFit : Gates → List Load → List Cargo → Type 0
AreFit plan loads cs = ArePairs (IsFit plan) loads cs

-- ---- what a stage gives, edge by edge

-- the message of a round to a party
pub record IsTo (outs : List Out) (round : ℕ) (to : Party) (i : ℕ) (o : Out) : Type 0 where
  pub there : slice_get outs i ≡ Some o
  pub receiver : o.to ≡ to
  pub of_round : o.round ≡ round

abbrev pub Sends : List Out → ℕ → Party → Payload → Type 0
Sends outs round to payload = (i : ℕ) × (o : Out) × IsTo outs round to i o × (o.payload ≡ payload)

-- the stage has what the edge carries
abbrev pub HasCargo : StageOut → Load → Type 0
HasCargo given (Wire g p) = IsSome given.value
HasCargo given (Kept g round p) = IsSome given.carried
HasCargo given (Message g round from to) = (payload : Payload) × Sends given.out round to payload

-- and it is this
abbrev pub IsCargo : StageOut → Load → Cargo → Type 0
IsCargo given (Wire g p) (cargo.Value v) = given.value ≡ Some v
IsCargo given (Kept g round p) (cargo.Kept kept) = given.carried ≡ Some kept
IsCargo given (Message g round from to) (cargo.Message payload) = Sends given.out round to payload
IsCargo given _ _ = ⊥

-- the same of the edge with a number
abbrev pub HasCargoAt : StageOut → Option Load → Type 0
HasCargoAt given None = ⊥
HasCargoAt given (Some load) = HasCargo given load

abbrev pub IsCargoAt : StageOut → Option Load → Cargo → Type 0
IsCargoAt given None c = ⊥
IsCargoAt given (Some load) c = IsCargo given load c

-- what the stage of an item has given, whatever the joint run is: what the equations say, and a value of the kind and width
-- that the plan states
pub record HasRun (plan : Gates) (owns : List Own) (i : Item) (given : StageOut) : Type 0 where
  pub typed : IfSome given.value (λ v. (gate : Gate) → slice_get plan.gates i.gate ≡ Some gate → IsOf gate v)
  pub gives : (table : Payloads) → IsJoint plan owns table →
      Gives (place_in plan owns table i.party.0 i.gate) (column table i.party.0 i.gate) i.stage given

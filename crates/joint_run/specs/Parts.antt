-- The parts of a value that the parties enter on their own: their shares of it.
use Rattle.std.specs.Prelude.{ℕ, ◌≡◌, ◌<◌, List, Option, Some, None, slice_get}
use Rattle.plan_gates.specs.Gate.{Gate, Given, Word, ShareAOnline, ShareBOnline, gives}
use Rattle.plan_gates.specs.Plan.{Gates, StandsAt}
use Rattle.plan_gates.specs.Plain.{Outside}
use Rattle.joint_run.specs.Party.{Own, Value, word_share, vector_share, party_value}
use Rattle.joint_run.specs.Joint.{Payloads, column}
use Rattle.joint_run.specs.Honest.{own_at}

-- a party's value of a gate in a joint run
abbrev pub value_in : Gates → List Own → Payloads → ℕ → ℕ → Value
value_in plan owns table p x = party_value plan p (own_at owns p) (column table p) x

-- the parts that come from outside are the parties' shares of each value of which some party enters its own
pub record AreShares (plan : Gates) (owns : List Own) (table : Payloads) (outside : Outside) : Type 0 where
  pub words : (o party x m w : ℕ) → StandsAt plan.gates o (ShareAOnline party x m) w → (p : ℕ) → p < plan.parties →
      outside.parts p x ≡ word_share (value_in plan owns table p x)
  pub vectors : (o party x m w : ℕ) → StandsAt plan.gates o (ShareBOnline party x m) w → (p : ℕ) → p < plan.parties →
      outside.parts p x ≡ vector_share (value_in plan owns table p x)

-- a party's share of what a gate gives
abbrev pub share_of : Given → Value → ℕ
share_of Word value = word_share value
share_of _ value = vector_share value

abbrev pub share_at : Option Gate → Value → ℕ
share_at None value = 0
share_at (Some gate) value = share_of (gives gate.kind) value

-- the inputs of a run, and the parties' own shares as the parts that they enter
abbrev pub with_shares : Gates → List Own → Payloads → List ℕ → Outside
with_shares plan owns table inputs = record {
  inputs = inputs;
  parts = λ p x. share_at (slice_get plan.gates x) (value_in plan owns table p x);
}

-- What each party has and is sent in a joint run.
use Rattle.std.proofs.Common.{ℕ, ◌≡◌, ◌<◌, List, [], length, Some, None, refl, sym, ◌∙◌, ap, subst}
use Rattle.std.specs.Prelude.{slice_get, get_or, if◌then◌else◌, option_map}
use Rattle.plan_gates.specs.Gate.{Gate, width_at}
use Rattle.plan_gates.specs.Plan.{Gates}
use Rattle.std.specs.Option.{unwrap_or}
use Rattle.joint_run.specs.Party as party
use Rattle.joint_run.specs.Party.{Own, Value, Hand, word_share, vector_share, hand_at, wires_before, party_value, sends_at, gate_sends, before, silence}
use Rattle.joint_run.specs.Joint.{Payloads, column, sent_by, IsJoint}
use Rattle.joint_run.specs.Honest.{own_at, nobody}
use Rattle.joint_run.proofs.Grown.{got, there_is, grown-get}
use Rattle.joint_run.proofs.Sharing.{two}

module _ (plan : Gates) (owns : List Own) (table : Payloads) (each : length owns ≡ plan.parties) (joint : IsJoint plan owns table) where
  abbrev n : ℕ
  n = plan.parties

  abbrev own : ℕ → Own
  own p = own_at owns p

  abbrev at : ℕ → ℕ → Hand
  at g p = hand_at plan p (own p) (column table p) g

  abbrev value : ℕ → ℕ → Value
  value g p = party_value plan p (own p) (column table p) g

  wires_get : (g k p : ℕ) → k < g → slice_get (wires_before plan p (own p) (column table p) g) k ≡ Some (value k p)
  wires_get g k p less = grown-get (wires_before plan p (own p) (column table p)) (λ j. value j p) refl (λ j. refl) g k less

  -- the value of an earlier gate stands among the party's wires
  pub wire_is : (g k p : ℕ) → k < g → get_or (wires_before plan p (own p) (column table p) g) k (party.Told None) ≡ value k p
  wire_is g k p less = got (wires_before plan p (own p) (column table p) g) k (value k p) (party.Told None) (wires_get g k p less)

  pub word_is : (g k p : ℕ) → k < g → party.word (at g p) k ≡ word_share (value k p)
  word_is g k p less =
      ap word_share (wire_is g k p less)

  pub vector_is : (g k p : ℕ) → k < g → party.vector (at g p) k ≡ vector_share (value k p)
  vector_is g k p less =
      ap vector_share (wire_is g k p less)

  own_there : (p : ℕ) → p < n → slice_get owns p ≡ Some (own p)
  own_there p small = there_is owns p nobody (subst (λ m. p < m) (sym each) small)

  -- what one party is sent by another
  pub sent : (g r p q : ℕ) (gate : Gate) → p < n → q < n → (q ≡ p → ⊥) → slice_get plan.gates g ≡ Some gate →
      table g r q p ≡ get_or (gate_sends gate.kind (at g q) (before r (column table q g))) r silence p
  sent g r p q gate a b apart found =
      joint g r q p
      ∙ (ap (λ o. sent_by plan q o (column table q) g r p) (own_there q b)
      ∙ (ap (λ both. if both then get_or (sends_at (slice_get plan.gates g) (at g q) (before r (column table q g))) r silence p else []) (two n q p b a apart)
      ∙ ap (λ o. get_or (sends_at o (at g q) (before r (column table q g))) r silence p) found))

pub wide_is : (plan : Gates) (g : ℕ) (here : Gate) → slice_get plan.gates g ≡ Some here → width_at plan.gates g ≡ here.width
wide_is plan g here found = ap (λ o. unwrap_or (option_map (λ (h : Gate). h.width) o) 0) found

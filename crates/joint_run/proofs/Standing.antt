-- What a kind of gate is shown of a run of all parties: what each hears there, and that its operands recombine and its
-- records are honest. How the payloads came about, what was dealt and which gates stand before it, it does not see.
use Rattle.std.proofs.Common.{ℕ, ◌≡◌, ◌<◌, ◌*◌, ◌%◌, ◌^◌, List, Some}
use Rattle.std.specs.Prelude.{slice_index, get_or, bit_and, bit_xor}
use Rattle.share_types.specs.Sums.{sum_to, xor_to}
use Rattle.share_types.specs.Keys.{AreSharedBit}
use Rattle.bmr_keys.specs.Wires.{IsActive}
use Rattle.plan_gates.specs.Gate.{Kind, width_at, word as word_use, vector as vector_use, mask as mask_use, online as online_use}
use Rattle.plan_gates.specs.Plan.{Gates, IsOperand, IsWire}
use Rattle.plan_gates.specs.Needs.{needs_at}
use Rattle.joint_run.specs.Party.{Own, Value, Hand, Rounds, hand, word, vector, mask, online, key_offset, input, triple, bits_of, shared_bit, gate_sends, before, silence}
use Rattle.joint_run.specs.Honest.{Taken, taken_by}

-- the parties at a gate, each with its own data and its values of the gates before
abbrev pub hands : Gates → (ℕ → Own) → (ℕ → List Value) → ℕ → ℕ → Hand
hands plan own wires g p = hand plan p (own p) g (wires p)

-- what each party hears is what the others send it
pub record Hear (plan : Gates) (kind : Kind) (at : ℕ → Hand) (got : ℕ → Rounds) : Type 0 where
  pub sent : (r p q : ℕ) → p < plan.parties → q < plan.parties → (q ≡ p → ⊥) →
      got p r q ≡ get_or (gate_sends kind (at q) (before r (got q))) r silence p

-- operands recombine to their numbers, a word by sum, a vector by XOR and a wire that is shared as keys at each party, the
-- input is the one that its owner brings, the triples of all parties multiply, and their shared bits match
pub record Stand (plan : Gates) (kind : Kind) (g : ℕ) (inputs plain : List ℕ) (at : ℕ → Hand) : Type 0 where
  pub words : (x : ℕ) → IsOperand plan.gates g (word_use x) →
      sum_to plan.parties (λ p. word (at p) x) % 2 ^ 64 ≡ slice_index plain x % 2 ^ 64
  pub vectors : (x : ℕ) → IsOperand plan.gates g (vector_use x) →
      (xor_to plan.parties (λ p. vector (at p) x) ≡ slice_index plain x)
      × ((p : ℕ) → p < plan.parties → vector (at p) x < 2 ^ width_at plan.gates x)
  pub wires : (m o : ℕ) → IsWire plan.gates m o → m < g → o < g → (p : ℕ) → p < plan.parties →
      IsActive plan.parties (λ q. key_offset (at q)) (λ q. mask (at q) m) (bit_xor (slice_index plain o) (slice_index plain m)) (online (at p) o)
  pub masks : (x : ℕ) → IsOperand plan.gates g (mask_use x) → (p : ℕ) → p < plan.parties → (mask (at p) x).mask < 2 ^ width_at plan.gates x
  pub onlines : (x : ℕ) → IsOperand plan.gates g (online_use x) → (p : ℕ) → p < plan.parties → (online (at p) x).masked < 2 ^ width_at plan.gates x
  pub brought : (t : Taken) → taken_by kind ≡ Some t → slice_index inputs t.k ≡ input (at t.party) t.k
  pub triples : 0 < (needs_at plan g).mult →
      sum_to plan.parties (λ p. (triple (at p)).c) % 2 ^ 64
      ≡ (sum_to plan.parties (λ p. (triple (at p)).a) * sum_to plan.parties (λ p. (triple (at p)).b)) % 2 ^ 64
  pub bit_triples : (needs_at plan g).bit ≡ width_at plan.gates g →
      xor_to plan.parties (λ p. bits_of (at p) 2)
      ≡ bit_and (xor_to plan.parties (λ p. bits_of (at p) 0)) (xor_to plan.parties (λ p. bits_of (at p) 1))
  pub shared_bits : (w : ℕ) → (needs_at plan g).shared ≡ w → (k : ℕ) → k < w →
      AreSharedBit plan.parties (λ p. shared_bit (at p) k)

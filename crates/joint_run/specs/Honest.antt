-- Own data that fit a plan, and when the shares of all parties recombine.
use Rattle.std.specs.Prelude.{ℕ, ◌≡◌, ◌<◌, ◌≤◌, ◌%◌, ◌^◌, List, [], length, map, slice_get, slice_index, get_or, Option, Some, None, if◌then◌else◌}
use Rattle.share_types.specs.declared.needs.Needs.{Needs}
use Rattle.share_types.specs.Bits.{number}
use Rattle.share_types.specs.Sums.{sum_to, xor_to}
use Rattle.dealer_files.specs.Part.{Part}
use Rattle.dealer_files.specs.Honest.{HonestTogether}
use Rattle.plan_gates.specs.Gate.{Kind, Gate, Given, Word, Vector, InA, InB, InOnline, gives}
use Rattle.plan_gates.specs.Gate as plan
use Rattle.plan_gates.specs.Plan.{Gates}
use Rattle.plan_gates.specs.Needs.{all_needs}
use Rattle.share_types.specs.Needs.{sum_of_needs}
use Rattle.plan_gates.specs.Messages.{tells}
use Rattle.joint_run.specs.Party.{Own, Value, Told, word_share, vector_share}

-- a party that brings nothing
abbrev pub no_part : Part
no_part = record { parties = 0; party = 0; id = 0; offset = 0; mult = []; bits = []; shared = []; keys = [] }

abbrev pub nobody : Own
nobody = record { seed = []; inputs = []; session = 0; bases = record { mult = 0; bit = 0; shared = 0; key = 0 }; part = no_part }

-- the own data of a party
abbrev pub own_at : List Own → ℕ → Own
own_at owns p = get_or owns p nobody

-- own data of all parties of a plan, in their order, with equal sessions and bases. Their dealer's parts are honest
-- together, and have enough records from the bases on
pub record AreHonest (plan : Gates) (owns : List Own) (bases : Needs) (session : ℕ) : Type 0 where
  pub each : length owns ≡ plan.parties
  pub bases_are : (p : ℕ) → p < plan.parties → (own_at owns p).bases ≡ bases
  pub session_is : (p : ℕ) → p < plan.parties → (own_at owns p).session ≡ session
  pub id : ℕ
  pub counts : Needs
  pub honest : HonestTogether (map (λ own. own.part) owns) plan.parties id counts
  pub enough_mult : (sum_of_needs bases (all_needs plan)).mult ≤ counts.mult
  pub enough_bits : (sum_of_needs bases (all_needs plan)).bit ≤ counts.bit
  pub enough_shared : (sum_of_needs bases (all_needs plan)).shared ≤ counts.shared
  pub enough_keys : (sum_of_needs bases (all_needs plan)).key ≤ counts.key

-- the party and the number of the input that a gate takes
pub record Taken : Type 0 where
  pub party : ℕ
  pub k : ℕ

abbrev pub taken_by : Kind → Option Taken
taken_by (InA party k) = Some (record { party = party; k = k })
taken_by (InB party k at) = Some (record { party = party; k = k })
taken_by (InOnline party k at m) = Some (record { party = party; k = k })
taken_by _ = None

-- the parties' offsets, as keys of 128 bits
abbrev pub offset_of : List Own → ℕ → ℕ
offset_of owns p = (own_at owns p).part.offset % 2 ^ 128

-- the numbers of the inputs that a plan takes, each from its owner
abbrev pub AreInputs : Gates → List Own → List ℕ → Type 0
AreInputs plan owns inputs =
    (g : ℕ) (gate : Gate) (t : Taken) → slice_get plan.gates g ≡ Some gate → taken_by gate.kind ≡ Some t →
    slice_index inputs t.k ≡ number (get_or (own_at owns t.party).inputs t.k [])

-- the values of a gate of so many parties recombine to a number: shares of a word sum to it modulo 2^64, shares of a
-- vector of the gate's width XOR to it, and who is told knows it. A mask and masked bits have no number of their own: they
-- recombine together, as a wire
abbrev pub RecombineBy : Given → Gate → ℕ → (ℕ → Value) → ℕ → Type 0
RecombineBy Word gate n values x = sum_to n (λ p. word_share (values p)) % 2 ^ 64 ≡ x % 2 ^ 64
RecombineBy Vector gate n values x =
    (xor_to n (λ p. vector_share (values p)) ≡ x) × ((p : ℕ) → p < n → vector_share (values p) < 2 ^ gate.width)
RecombineBy plan.Told gate n values x =
    (p : ℕ) → p < n → values p ≡ Told (if tells p gate then Some x else None)
RecombineBy _ gate n values x = Unit {0}

abbrev pub Recombine : Gate → ℕ → (ℕ → Value) → ℕ → Type 0
Recombine gate n values x = RecombineBy (gives gate.kind) gate n values x

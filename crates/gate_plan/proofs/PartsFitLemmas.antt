-- The gates of a value that the parties enter in parts may stand behind it.
use Rattle.std.proofs.Common.{ℕ, zero, suc, ◌≡◌, ◌<◌, ◌≤◌, ◌+◌, ◌-◌, ◌*◌, true, [], ◌∷◌, length, refl, subst, arith}
use Rattle.std.proofs.lemmas.Nat.{pow_pos}
use Rattle.mot_base.specs.Limits.{most_width}
use Rattle.plan_gates.specs.Gate as planned
use Rattle.plan_gates.specs.Gate.{Gate, Mask, gate_of, KeyMask, ShareAOnline, ShareBOnline}
use Rattle.plan_gates.specs.Plan.{Gates, enters_word, enters_vector}
use Rattle.gate_plan.specs.declared.wire.Wire.{Wire}
use Rattle.gate_plan.specs.declared.convert.Parts.{Parts}
use Rattle.gate_plan.specs.declared.convert.Parts.TheVariants.{Word, Vector}
use Rattle.gate_plan.specs.Blocks.{two, in_row, Stand}
use Rattle.gate_plan.specs.Adder.{pair_at}
use Rattle.gate_plan.specs.Convert.{entry_of, width_of_parts, entry_gates, entries, joiner_of, joined_wire, joint_gates, from_parts}
use Rattle.gate_plan.proofs.StandLemmas.{first_of, IsValue, later, value_width, value_operand, own_value, AreBits, later_bits, bits_gate, AllGates, all_both, all_row}
use Rattle.gate_plan.proofs.BlockLemmas.{Fits, two_fit, xored_fits}
use Rattle.gate_plan.proofs.AdderFitLemmas.{adder_fits}
use Rattle.gate_plan.proofs.PartsLemmas.{entry_row, length_entry, length_joint_row, length_entries, length_parts, StandParts, stand_parts, gate_of_parts}

-- what the value is that is entered in parts
abbrev pub given_of : Parts → planned.Given
given_of (Word x) = planned.Word
given_of (Vector x width) = planned.Vector

-- the entry of a party
entry_fits : (plan : Gates) (parts : Parts) (n party : ℕ) → 1 ≤ width_of_parts parts → width_of_parts parts ≤ most_width →
    party < plan.parties → IsValue plan.gates n (given_of parts) (gate_of_parts parts) (width_of_parts parts) →
    Stand plan.gates n (entry_gates parts n party) →
    Fits plan n (width_of_parts parts) (two n (width_of_parts parts) KeyMask (entry_of parts party n)) true
entry_fits plan (Word x) n party some most h value stand =
    let w : ℕ = 64 in
    let first = first_of plan.gates n (gate_of KeyMask w) (gate_of (ShareAOnline party x n) w ∷ []) stand in
    let second = stand 1 (gate_of (ShareAOnline party x n) w) refl in
    let m = own_value plan.gates n (gate_of KeyMask w) Mask first refl in
    let v = later (n + 1) (omega arith) value in
    two_fit plan n w some most KeyMask (ShareAOnline party x n) refl refl first second
    (bits_gate plan n KeyMask w (λ e. cc) some most (pow_pos w) tt tt tt tt)
    (bits_gate plan (n + 1) (ShareAOnline party x n) w (λ e. cc) some most (pow_pos w)
    (value_operand v, (value_operand m, tt)) (value_width v, (value_width m, tt)) (w, first) h)
    (enters_word n (n + 1) w party x first second)
entry_fits plan (Vector x w) n party some most h value stand =
    let first = first_of plan.gates n (gate_of KeyMask w) (gate_of (ShareBOnline party x n) w ∷ []) stand in
    let second = stand 1 (gate_of (ShareBOnline party x n) w) refl in
    let m = own_value plan.gates n (gate_of KeyMask w) Mask first refl in
    let v = later (n + 1) (omega arith) value in
    two_fit plan n w some most KeyMask (ShareBOnline party x n) refl refl first second
    (bits_gate plan n KeyMask w (λ e. cc) some most (pow_pos w) tt tt tt tt)
    (bits_gate plan (n + 1) (ShareBOnline party x n) w (λ e. cc) some most (pow_pos w)
    (value_operand v, (value_operand m, tt)) (value_width v, (value_width m, tt)) (w, first) h)
    (enters_vector n (n + 1) w party x first second)

record JointFits (plan : Gates) (parts : Parts) (n : ℕ) (a b : Wire) : Type 0 where
  gates : AllGates plan n ((joiner_of parts).gates n a b)
  value : AreBits true plan.gates (n + (joiner_of parts).size) ((joiner_of parts).wire n) (width_of_parts parts)

joint_fits : (plan : Gates) (parts : Parts) (n : ℕ) (a b : Wire) → 1 ≤ width_of_parts parts →
    width_of_parts parts ≤ most_width → AreBits true plan.gates n a (width_of_parts parts) →
    AreBits true plan.gates n b (width_of_parts parts) → Stand plan.gates n ((joiner_of parts).gates n a b) →
    JointFits plan parts n a b
joint_fits plan (Word x) n a b some most left right stand =
    let f = adder_fits plan n 62 a b (omega arith) left right stand in
    record { gates = f.gates; value = f.value }
joint_fits plan (Vector x w) n a b some most left right stand =
    let f = xored_fits plan n w some most true a b left right stand in
    record { gates = f.gates; value = f.value }

module _ (plan : Gates) (parts : Parts) (n : ℕ) (some : 1 ≤ width_of_parts parts)
    (narrow : width_of_parts parts ≤ most_width) (parties_some : 1 ≤ plan.parties)
    (whole : IsValue plan.gates n (given_of parts) (gate_of_parts parts) (width_of_parts parts))
    (stand : Stand plan.gates n (from_parts parts plan.parties n).gates) where
  abbrev w : ℕ
  w = width_of_parts parts

  abbrev m : ℕ
  m = n + 2 * plan.parties

  abbrev size : ℕ
  size = (joiner_of parts).size

  st : StandParts plan.gates parts plan.parties n
  st = stand_parts plan.gates parts plan.parties n stand

  entry_at : (p : ℕ) → p < plan.parties →
      Fits plan (n + 2 * p) w (two (n + 2 * p) w KeyMask (entry_of parts p (n + 2 * p))) true
  entry_at p h =
      entry_fits plan parts (n + 2 * p) p some narrow h (later (n + 2 * p) (omega arith) whole) (st.entry p h)

  -- each entry is a wire
  entry_bits : (p more : ℕ) → p < plan.parties → m ≤ more → AreBits true plan.gates more (pair_at (n + 2 * p)) w
  entry_bits p more h behind =
      later_bits true plan.gates (n + 2 * p + 2) more (pair_at (n + 2 * p)) w (omega (arith, h, behind)) (entry_at p h).value

  joint_at : (k : ℕ) → k < plan.parties - 1 →
      AreBits true plan.gates (m + size * k) (joined_wire (joiner_of parts) n m k) w →
      JointFits plan parts (m + size * k) (joined_wire (joiner_of parts) n m k) (pair_at (n + 2 * (k + 1)))
  joint_at k h before =
      joint_fits plan parts (m + size * k) (joined_wire (joiner_of parts) n m k) (pair_at (n + 2 * (k + 1))) some narrow
      before (entry_bits (k + 1) (m + size * k) (omega (arith, h)) (omega arith)) (st.joint k h)

  -- what entries 0 to k are put together to, behind the gates that do so
  joined_bits : (k : ℕ) → k < plan.parties →
      AreBits true plan.gates (m + size * k) (joined_wire (joiner_of parts) n m k) w
  joined_bits zero h =
      let here : n + 2 * 0 ≡ n = omega arith in
      let P : ℕ → Type 0 = λ j. AreBits true plan.gates (m + size * 0) (pair_at j) w in
      subst P here (entry_bits 0 (m + size * 0) h (omega arith))
  joined_bits (suc k) h =
      let less : k < plan.parties - 1 = omega (arith, h) in
      let is = joint_at k less (joined_bits k (omega (arith, h))) in
      later_bits true plan.gates (m + size * k + size) (m + size * suc k) ((joiner_of parts).wire (m + size * k)) w
      (omega arith) is.value

  pub record PartsFit : Type 0 where
    pub gates : AllGates plan n (from_parts parts plan.parties n).gates
    pub value : AreBits true plan.gates (n + length (from_parts parts plan.parties n).gates)
        (from_parts parts plan.parties n).wire w

  pub parts_fit : PartsFit
  parts_fit =
      let front = entries parts n plan.parties in
      let joints = in_row (plan.parties - 1) (joint_gates (joiner_of parts) n m) in
      let long = length_entries parts n plan.parties in
      let total = length_parts parts plan.parties n in
      record {
        gates = all_both plan n front m joints (omega (arith, long))
            (all_row plan n 2 plan.parties (entry_row parts n) (length_entry parts n) (λ p h. (entry_at p h).gates))
            (all_row plan m size (plan.parties - 1) (joint_gates (joiner_of parts) n m) (length_joint_row parts n m)
            (λ k h. (joint_at k h (joined_bits k (omega (arith, h)))).gates));
        value = later_bits true plan.gates (m + size * (plan.parties - 1))
            (n + length (from_parts parts plan.parties n).gates) (from_parts parts plan.parties n).wire w
            (omega (arith, total)) (joined_bits (plan.parties - 1) (omega (arith, parties_some)));
      }

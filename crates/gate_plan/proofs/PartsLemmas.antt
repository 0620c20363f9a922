-- Values that the parties enter in parts: how many gates they have, that these tell nothing, and the number of the wire.
use Rattle.std.proofs.Common.{ℕ, zero, suc, ◌≡◌, ◌<◌, ◌≤◌, ◌+◌, ◌-◌, ◌*◌, ◌%◌, ◌^◌, List, length, Some, refl, sym, ◌∙◌, ap, ap₂, subst, arith}
use Rattle.std.specs.Prelude.{slice_get, slice_index, bit_xor}
use Rattle.std.specs.List.{AllByRecursion}
use Rattle.std.specs.Int.Bits.{xor_zero_l}
use Rattle.std.proofs.Math.Nat.{add-mod, mod-mod}
use Rattle.std.proofs.lemmas.Nat.{xor_mod}
use Rattle.std.proofs.lemmas.List.{length-append}
use Rattle.mot_base.proofs.Lists.{all_append}
use Rattle.share_types.specs.Sums.{sum_to, xor_to}
use Rattle.plan_gates.specs.Gate.{Gate, gate_of, KeyMask, ShareAOnline, ShareBOnline}
use Rattle.plan_gates.specs.Plan.{Gates, IsPlan}
use Rattle.plan_gates.specs.Plain.{Outside, AreLawful, plain_numbers}
use Rattle.gate_plan.specs.declared.wire.Wire.{Wire}
use Rattle.gate_plan.specs.declared.convert.Parts.{Parts}
use Rattle.gate_plan.specs.declared.convert.Parts.TheVariants.{Word, Vector}
use Rattle.gate_plan.specs.Blocks.{in_row, Stand, HasKeys}
use Rattle.gate_plan.specs.Adder.{pair_at}
use Rattle.gate_plan.specs.Convert.{entry_of, width_of_parts, entry_gates, entries, joiner_of, joined_wire, joint_gates, from_parts}
use Rattle.gate_plan.proofs.StandLemmas.{stand_front, stand_back, stand_row, length_row}
use Rattle.gate_plan.proofs.NumberLemmas.{IsSilent}
use Rattle.gate_plan.proofs.ValueLemmas.{two_made, two_has, xored_has}
use Rattle.gate_plan.proofs.AdderLemmas.{adder_adds}
use Rattle.gate_plan.proofs.AdderFitLemmas.{length_adder, adder_silent, row_silent}

-- ---- how many they are

pub length_joint : (parts : Parts) (n : ℕ) (a b : Wire) →
    length ((joiner_of parts).gates n a b) ≡ (joiner_of parts).size
length_joint (Word x) n a b = length_adder n 62 a b
length_joint (Vector x width) n a b = refl

abbrev pub entry_row : Parts → ℕ → ℕ → List Gate
entry_row parts n party = entry_gates parts (n + 2 * party) party

pub length_entry : (parts : Parts) (n party : ℕ) → length (entry_row parts n party) ≡ 2
length_entry parts n party = refl

pub length_joint_row : (parts : Parts) (n m k : ℕ) → length (joint_gates (joiner_of parts) n m k) ≡ (joiner_of parts).size
length_joint_row parts n m k =
    length_joint parts (m + (joiner_of parts).size * k) (joined_wire (joiner_of parts) n m k) (pair_at (n + 2 * (k + 1)))

pub length_entries : (parts : Parts) (n parties : ℕ) → length (entries parts n parties) ≡ 2 * parties
length_entries parts n parties = length_row 2 parties (entry_row parts n) (length_entry parts n)

pub length_joints : (parts : Parts) (n m count : ℕ) →
    length (in_row count (joint_gates (joiner_of parts) n m)) ≡ (joiner_of parts).size * count
length_joints parts n m count =
    length_row (joiner_of parts).size count (joint_gates (joiner_of parts) n m) (length_joint_row parts n m)

pub length_parts : (parts : Parts) (parties n : ℕ) →
    length (from_parts parts parties n).gates ≡ 2 * parties + (joiner_of parts).size * (parties - 1)
length_parts parts parties n =
    let joints = in_row (parties - 1) (joint_gates (joiner_of parts) n (n + 2 * parties)) in
    length-append (entries parts n parties) joints
    ∙ ap₂ (λ p q. p + q) (length_entries parts n parties) (length_joints parts n (n + 2 * parties) (parties - 1))

-- ---- they tell nothing

entry_silent : (parts : Parts) (n party : ℕ) → AllByRecursion IsSilent (entry_gates parts n party)
entry_silent (Word x) n party = (refl, (refl, tt))
entry_silent (Vector x width) n party = (refl, (refl, tt))

joint_silent : (parts : Parts) (n : ℕ) (a b : Wire) → AllByRecursion IsSilent ((joiner_of parts).gates n a b)
joint_silent (Word x) n a b = adder_silent n 62 a b
joint_silent (Vector x width) n a b = (refl, (refl, tt))

pub parts_silent : (parts : Parts) (parties n : ℕ) → AllByRecursion IsSilent (from_parts parts parties n).gates
parts_silent parts parties n =
    let m : ℕ = n + 2 * parties in
    let joints = in_row (parties - 1) (joint_gates (joiner_of parts) n m) in
    all_append IsSilent (entries parts n parties) joints
    (row_silent parties (entry_row parts n) (λ p. entry_silent parts (n + 2 * p) p))
    (row_silent (parties - 1) (joint_gates (joiner_of parts) n m)
    (λ k. joint_silent parts (m + (joiner_of parts).size * k) (joined_wire (joiner_of parts) n m k) (pair_at (n + 2 * (k + 1)))))

-- ---- where they stand

pub record StandParts (gates : List Gate) (parts : Parts) (parties n : ℕ) : Type 0 where
  pub entry : (p : ℕ) → p < parties → Stand gates (n + 2 * p) (entry_row parts n p)
  pub joint : (k : ℕ) → k < parties - 1 →
      Stand gates (n + 2 * parties + (joiner_of parts).size * k) (joint_gates (joiner_of parts) n (n + 2 * parties) k)

pub stand_parts : (gates : List Gate) (parts : Parts) (parties n : ℕ) → Stand gates n (from_parts parts parties n).gates →
    StandParts gates parts parties n
stand_parts gates parts parties n stand =
    let m : ℕ = n + 2 * parties in
    let front = entries parts n parties in
    let joints = in_row (parties - 1) (joint_gates (joiner_of parts) n m) in
    let size = length_entries parts n parties in
    record {
      entry = λ p h. stand_row gates n 2 parties (entry_row parts n) (length_entry parts n)
          (stand_front gates front joints n stand) p h;
      joint = λ k h. stand_row gates m (joiner_of parts).size (parties - 1) (joint_gates (joiner_of parts) n m)
          (length_joint_row parts n m) (stand_back gates front joints n m (omega (arith, size)) stand) k h;
    }

-- ---- the number of the wire

-- the gate whose value is entered in parts
abbrev pub gate_of_parts : Parts → ℕ
gate_of_parts (Word x) = x
gate_of_parts (Vector x width) = x

-- what the parts of so many parties recombine to
abbrev pub total_of : Parts → (ℕ → ℕ) → ℕ → ℕ
total_of (Word x) f parties = sum_to parties f % 2 ^ 64
total_of (Vector x width) f parties = xor_to parties f % 2 ^ width

first_total : (parts : Parts) (f : ℕ → ℕ) → f 0 % 2 ^ width_of_parts parts ≡ total_of parts f 1
first_total (Word x) f = let e : f 0 ≡ 0 + f 0 = omega arith in ap (λ k. k % 2 ^ 64) e
first_total (Vector x width) f = ap (λ k. k % 2 ^ width) (sym (xor_zero_l (f 0)))

module _ (plan : Gates) (valid : IsPlan plan) (outside : Outside) where
  abbrev Has : Wire → ℕ → ℕ → Type 0
  Has a w x = HasKeys plan.gates (plain_numbers plan outside) a w x

  abbrev part : Parts → ℕ → ℕ
  part parts party = outside.parts party (gate_of_parts parts)

  entry_has : (parts : Parts) (n party : ℕ) → Stand plan.gates n (entry_gates parts n party) →
      Has (pair_at n) (width_of_parts parts) (part parts party % 2 ^ width_of_parts parts)
  entry_has (Word x) n party stand =
      two_has plan valid outside n 64 (outside.parts party x % 2 ^ 64) KeyMask (ShareAOnline party x n) stand
      (two_made plan valid outside n 64 KeyMask (ShareAOnline party x n) (outside.parts party x) stand
      (sym (xor_zero_l (outside.parts party x))))
  entry_has (Vector x width) n party stand =
      two_has plan valid outside n width (outside.parts party x % 2 ^ width) KeyMask (ShareBOnline party x n) stand
      (two_made plan valid outside n width KeyMask (ShareBOnline party x n) (outside.parts party x) stand
      (sym (xor_zero_l (outside.parts party x))))

  joint_has : (parts : Parts) (n k : ℕ) (f : ℕ → ℕ) (a b : Wire) → Stand plan.gates n ((joiner_of parts).gates n a b) →
      Has a (width_of_parts parts) (total_of parts f k) →
      Has b (width_of_parts parts) (f k % 2 ^ width_of_parts parts) →
      Has ((joiner_of parts).wire n) (width_of_parts parts) (total_of parts f (suc k))
  joint_has (Word x) n k f a b stand left right =
      subst (Has ((joiner_of (Word x)).wire n) 64) (sym (add-mod (sum_to k f) (f k) (2 ^ 64)))
      (adder_adds plan outside n 62 (sum_to k f % 2 ^ 64) (f k % 2 ^ 64) a b valid stand left right)
  joint_has (Vector x width) n k f a b stand left right =
      subst (Has (pair_at n) width)
      (ap (λ z. z % 2 ^ width) (sym (xor_mod (xor_to k f) (f k) width)) ∙ mod-mod (bit_xor (xor_to k f) (f k)) (2 ^ width))
      (xored_has plan valid outside n width a b width width (xor_to k f % 2 ^ width) (f k % 2 ^ width) stand left right)

  module _ (parts : Parts) (parties n : ℕ) (stand : Stand plan.gates n (from_parts parts parties n).gates) where
    st : StandParts plan.gates parts parties n
    st = stand_parts plan.gates parts parties n stand

    abbrev w : ℕ
    w = width_of_parts parts

    -- what entries 0 to k are put together to
    joined_to : (k : ℕ) → k < parties →
        Has (joined_wire (joiner_of parts) n (n + 2 * parties) k) w (total_of parts (part parts) (suc k))
    joined_to zero h =
        let here : n + 2 * 0 ≡ n = omega arith in
        let P : ℕ → Type 0 = λ m. Has (pair_at m) w (part parts 0 % 2 ^ w) in
        subst (Has (pair_at n) w) (first_total parts (part parts))
        (subst P here (entry_has parts (n + 2 * 0) 0 (st.entry 0 h)))
    joined_to (suc k) h =
        let m : ℕ = n + 2 * parties in
        let before = joined_to k (omega (arith, h)) in
        let next : k + 1 ≡ suc k = omega arith in
        let entry = entry_has parts (n + 2 * (k + 1)) (k + 1) (st.entry (k + 1) (omega (arith, h))) in
        let Q : ℕ → Type 0 = λ j. Has (pair_at (n + 2 * (k + 1))) w (part parts j % 2 ^ w) in
        joint_has parts (m + (joiner_of parts).size * k) (suc k) (part parts) (joined_wire (joiner_of parts) n m k)
        (pair_at (n + 2 * (k + 1))) (st.joint k (omega (arith, h))) before (subst Q next entry)

    all_has : 1 ≤ parties → Has (from_parts parts parties n).wire w (total_of parts (part parts) parties)
    all_has some =
        let whole : suc (parties - 1) ≡ parties = omega (arith, some) in
        subst (λ k. Has (from_parts parts parties n).wire w (total_of parts (part parts) k)) whole
        (joined_to (parties - 1) (omega (arith, some)))

    -- the entry of party 0 stands there
    first_entry : 1 ≤ parties → slice_get plan.gates (n + 2 * 0 + 1) ≡ Some (gate_of (entry_of parts 0 (n + 2 * 0)) w)
    first_entry some = st.entry 0 (omega (arith, some)) 1 (gate_of (entry_of parts 0 (n + 2 * 0)) w) refl

  -- lawful parts recombine to the number of the value
  recombined : (parts : Parts) (n : ℕ) → AreLawful plan outside (plain_numbers plan outside) → 1 ≤ plan.parties →
      Stand plan.gates n (from_parts parts plan.parties n).gates →
      total_of parts (part parts) plan.parties ≡ slice_index (plain_numbers plan outside) (gate_of_parts parts)
  recombined (Word x) n lawful some stand =
      lawful.words (n + 2 * 0 + 1) 0 x (n + 2 * 0) 64 (first_entry (Word x) plan.parties n stand some)
  recombined (Vector x width) n lawful some stand =
      lawful.vectors (n + 2 * 0 + 1) 0 x (n + 2 * 0) width (first_entry (Vector x width) plan.parties n stand some)

  pub parts_has : (parts : Parts) (n : ℕ) → AreLawful plan outside (plain_numbers plan outside) → 1 ≤ plan.parties →
      Stand plan.gates n (from_parts parts plan.parties n).gates →
      HasKeys plan.gates (plain_numbers plan outside) (from_parts parts plan.parties n).wire (width_of_parts parts)
      (slice_index (plain_numbers plan outside) (gate_of_parts parts))
  parts_has parts n lawful some stand =
      subst (Has (from_parts parts plan.parties n).wire (width_of_parts parts)) (recombined parts n lawful some stand)
      (all_has parts plan.parties n stand some)

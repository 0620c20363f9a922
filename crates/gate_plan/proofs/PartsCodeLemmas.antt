-- What the code that makes the gates of a value does which the parties enter in parts.
use Rattle.std.proofs.Common.{ℕ, suc, ◌≡◌, ◌+◌, ◌-◌, ◌*◌, length, ◌∙◌, ap, ap₂, arith}
use Rattle.plan_gates.specs.Plan.{Gates, with_gates}
use Rattle.gate_plan.specs.declared.wire.Wire.{Wire}
use Rattle.gate_plan.specs.declared.convert.Parts.{Parts}
use Rattle.gate_plan.specs.Blocks.{in_row}
use Rattle.gate_plan.specs.Adder.{pair_at}
use Rattle.gate_plan.specs.Convert.{Joiner, entries, joiner_of, joined_wire, joint_gates, from_parts}
use Rattle.gate_plan.proofs.ChainLemmas.{Adds, length_added, added_at}
use Rattle.gate_plan.proofs.PartsLemmas.{length_entries, length_joint_row}
use Rattle.gate_plan.proofs.BristolCodeLemmas.{row_start, row_next}

-- ---- what puts entries together, one after another

module _ (old now : Gates) (parts : Parts) (first done : ℕ) (wire next : Wire)
    (before : now ≡ with_gates old (in_row done (joint_gates (joiner_of parts) first (length old.gates))))
    (behind : wire ≡ joined_wire (joiner_of parts) first (length old.gates) done)
    (entry : next ≡ pair_at (first + 2 * (done + 1))) where
  abbrev m : ℕ
  m = length old.gates

  abbrev joiner : Joiner
  joiner = joiner_of parts

  start : length now.gates ≡ m + joiner.size * done
  start = row_start old now done joiner.size (joint_gates joiner first m) (length_joint_row parts first m) before

  pub joints_next : (after : Gates) → after ≡ with_gates now (joiner.gates (length now.gates) wire next) →
      after ≡ with_gates old (in_row (done + 1) (joint_gates joiner first m))
  joints_next after is =
      row_next old now done joiner.size (joint_gates joiner first m) (length_joint_row parts first m) before after
      (joiner.gates (length now.gates) wire next)
      (ap (λ k. joiner.gates k wire next) start
      ∙ ap₂ (λ (a b : Wire). joiner.gates (m + joiner.size * done) a b) behind entry) is

  pub wire_next : (made : Wire) → made ≡ joiner.wire (length now.gates) → made ≡ joined_wire joiner first m (done + 1)
  wire_next made is =
      let later : suc done ≡ done + 1 = omega arith in
      is ∙ (ap joiner.wire start ∙ ap (joined_wire joiner first m) later)

-- ---- the whole

module _ (old now after : Gates) (parts : Parts) (parties : ℕ)
    (before : now ≡ with_gates old (entries parts (length old.gates) parties)) where
  abbrev n : ℕ
  n = length old.gates

  entered : Adds old now (entries parts n parties)
  entered = record { is = before }

  pub joints_start : length now.gates ≡ n + 2 * parties
  joints_start =
      let all = length_added entered in
      let size = length_entries parts n parties in
      omega (arith, all, size)

  place : n + 2 * parties ≡ n + length (entries parts n parties)
  place = let size = length_entries parts n parties in omega (arith, size)

  pub parts_next : (first : ℕ) → first ≡ n →
      after ≡ with_gates now (in_row (parties - 1) (joint_gates (joiner_of parts) first (length now.gates))) →
      after ≡ with_gates old (from_parts parts parties n).gates
  parts_next first own is =
      (added_at (λ k. in_row (parties - 1) (joint_gates (joiner_of parts) n k)) (n + 2 * parties) entered place
      (is ∙ ap (λ k. with_gates now (in_row (parties - 1) (joint_gates (joiner_of parts) k (length now.gates)))) own)).is

  pub parts_given : (made : Wire) (first : ℕ) → first ≡ n →
      made ≡ joined_wire (joiner_of parts) first (length now.gates) (parties - 1) →
      made ≡ (from_parts parts parties n).wire
  parts_given made first own is = is ∙ ap₂ (λ j k. joined_wire (joiner_of parts) j k (parties - 1)) own joints_start

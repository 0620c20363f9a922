-- A value whose parts the parties enter as wires that are shared as keys, which are then put together from the left: as a
-- sum where the value is a word, and by XOR where it is a vector.
use Rattle.std.specs.Prelude.{ℕ, zero, suc, ◌+◌, ◌-◌, ◌*◌, true, List, [], ◌∷◌, ◌++◌, length}
use Rattle.plan_gates.specs.Gate.{Kind, Gate, gate_of, KeyMask, ShareAOnline, ShareBOnline}
use Rattle.gate_plan.specs.declared.wire.Wire.{Wire}
use Rattle.gate_plan.specs.declared.convert.Parts.{Parts}
use Rattle.gate_plan.specs.declared.convert.Parts.TheVariants.{Word, Vector}
use Rattle.gate_plan.specs.Blocks.{Block, single, two, xored, in_row}
use Rattle.gate_plan.specs.Adder.{pair_at, adder, adder_wire}

-- what a party enters behind a mask with a number, and how wide it is
abbrev pub entry_of : Parts → ℕ → ℕ → Kind
entry_of (Word x) party m = ShareAOnline party x m
entry_of (Vector x width) party m = ShareBOnline party x m

abbrev pub width_of_parts : Parts → ℕ
width_of_parts (Word x) = 64
width_of_parts (Vector x width) = width

-- a fresh mask and the entry of a party, of which the first gate has the number n
abbrev pub entry_gates : Parts → ℕ → ℕ → List Gate
entry_gates parts n party = (two n (width_of_parts parts) KeyMask (entry_of parts party n)).gates

-- those of so many parties, one after another
abbrev pub entries : Parts → ℕ → ℕ → List Gate
entries parts n parties = in_row parties (λ party. entry_gates parts (n + 2 * party) party)

-- how two wires are put together: the gates, of which the first has a number, the wire that they give, and how many they
-- are
pub record Joiner : Type 0 where
  pub gates : ℕ → Wire → Wire → List Gate
  pub wire : ℕ → Wire
  pub size : ℕ

-- two words are added, and two vectors are put together by XOR
abbrev pub joiner_of : Parts → Joiner
joiner_of (Word x) = record { gates = λ n a b. adder n 62 a b; wire = λ n. adder_wire n 62; size = 1073 }
joiner_of (Vector x width) = record { gates = λ n a b. (xored true n width a b).gates; wire = pair_at; size = 2 }

-- what entries 0 to k are put together to, where the entries begin at n, and what puts them together at m
abbrev pub joined_wire : Joiner → ℕ → ℕ → ℕ → Wire
joined_wire joiner n m zero = pair_at n
joined_wire joiner n m (suc k) = joiner.wire (m + joiner.size * k)

-- the gates that put entry k + 1 to those before it
abbrev pub joint_gates : Joiner → ℕ → ℕ → ℕ → List Gate
joint_gates joiner n m k =
    joiner.gates (m + joiner.size * k) (joined_wire joiner n m k) (pair_at (n + 2 * (k + 1)))

-- a value that so many parties enter in parts: their entries, and what puts these together
abbrev pub from_parts : Parts → ℕ → ℕ → Block
from_parts parts parties n = record {
  gates =
      entries parts n parties
      ++ in_row (parties - 1) (joint_gates (joiner_of parts) n (n + 2 * parties));
  wire = joined_wire (joiner_of parts) n (n + 2 * parties) (parties - 1);
}

-- some gates, of which the first has the number n, and one gate behind them that is made of their wire
abbrev pub then_one : Block → ℕ → ℕ → (Wire → Kind) → Block
then_one block n width kind = record {
  gates = block.gates ++ gate_of (kind block.wire) width ∷ [];
  wire = single (n + length block.gates);
}

-- Gates and numbers as the code keeps them.
use Rattle.std.specs.Prelude.{ℕ, ◌≡◌, ◌+◌, ◌-◌, ◌^◌, ◌≤◌, Bool, not, ◌||◌, List, take, drop, map, slice_get, Option, Some, Result, option_map, min}
use Rattle.std.specs.List.{list_all}
use Rattle.bristol_reader.specs.declared.gates.Placed.{Placed}
use Rattle.bristol_reader.specs.declared.line.Stated.{Stated}
use Rattle.bristol_reader.specs.declared.cause.BristolCause.{BristolCause}
use Rattle.bristol_reader.specs.declared.cause.BristolCause.TheVariants.{Header, GateName, Arity}
use Rattle.bristol_reader.specs.declared.kind.BristolKind.{BristolKind}
use Rattle.bristol_reader.specs.Kinds.{kind_of, is_constant}
use Rattle.bristol_reader.specs.Circuit.{Gate, Sizes, Progress, is_among}
use Rattle.bristol_reader.specs.Line.{numbers_of, last_word, front_words, adds_numbers}
use Rattle.bristol_reader.specs.Grammar.{sizes_in, widths_in}
use Rattle.text_lines.specs.Text.{Text}
use Rattle.text_lines.specs.Chain.{or_cause, ◌>>=◌}

-- a number that is kept in 64 bits: the greatest of these stands for every greater one
abbrev pub capped : ℕ → ℕ
capped n = min n (2 ^ 64 - 1)

-- the gate whose inputs and outputs stand in a row among all wires of gates
abbrev pub placed_gate : List ℕ → Placed → Gate
placed_gate wires p = record { kind = p.kind; ins = take p.ins (drop p.at wires); outs = take p.outs (drop (p.at + p.ins) wires) }

-- each of some gates stands among so many wires of gates
pub record ArePlaced (gates : List Placed) (count : ℕ) : Type 0 where
  pub each : (k : ℕ) (p : Placed) → slice_get gates k ≡ Some p → p.at + p.ins + p.outs ≤ count

-- the gate that a line states, without where its numbers lie in memory
abbrev pub stated_gate : Stated → Gate
stated_gate g = record { kind = g.kind; ins = g.ins.now; outs = g.outs.now }

-- the numbers that words spell, as they are kept
abbrev pub capped_numbers : List Text → Option (List ℕ)
capped_numbers words = option_map (map capped) (numbers_of words)

-- what lines say, by the numbers as they are kept
unfoldable pub sizes_kept : Bool → List Text → Result Sizes BristolCause
sizes_kept ends words = do
  ns ← or_cause Header (capped_numbers words)
  sizes_in ends ns

unfoldable pub widths_kept : Bool → ℕ → List Text → Result (List ℕ) BristolCause
widths_kept ends wires words = do
  ns ← or_cause Header (capped_numbers words)
  widths_in ends wires ns

-- what the numbers of a gate say, which stand in words
unfoldable pub adds_words : Progress → BristolKind → List Text → Result Progress BristolCause
adds_words p kind words = do
  numbers ← or_cause Arity (capped_numbers words)
  adds_numbers p kind numbers

unfoldable pub adds_kept : Progress → List Text → Result Progress BristolCause
adds_kept p words = do
  kind ← or_cause GateName (kind_of (last_word words))
  adds_words p kind (front_words words)

-- a gate of these parts
abbrev pub a_gate : BristolKind → List ℕ → List ℕ → Gate
a_gate kind ins outs = record { kind = kind; ins = ins; outs = outs }

-- whether no input wire of a gate is one of its outputs
abbrev pub reads_none_of : Gate → Bool
reads_none_of g = is_constant g.kind || list_all (λ w. not (is_among g.outs w)) g.ins

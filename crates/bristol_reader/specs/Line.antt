-- What the line of a gate says behind the gates before it, or the first cause that it shows.
use Rattle.std.specs.Prelude.{ℕ, ◌+◌, ◌-◌, ◌==◌, Bool, not, ◌&&◌, ◌||◌, nat_lt, List, [], ◌∷◌, length, take, drop, slice_index_or, Option, Some, None, Result, Ok, option_map, option_and_then, if◌then◌else◌}
use Rattle.std.specs.List.{list_all}
use Rattle.std.specs.Str.Parse.{digits_value}
use Rattle.bristol_reader.specs.declared.kind.BristolKind.{BristolKind}
use Rattle.bristol_reader.specs.declared.cause.BristolCause.{BristolCause}
use Rattle.bristol_reader.specs.declared.cause.BristolCause.TheVariants.{GateName, Arity, WireRange, UsedBeforeSet, SetTwice}
use Rattle.bristol_reader.specs.Kinds.{is_arity, is_constant, kind_of}
use Rattle.bristol_reader.specs.Circuit.{Gate, Circuit, Progress, more_gates, is_set, are_apart}
use Rattle.text_lines.specs.Text.{Text}
use Rattle.text_lines.specs.Word.{are_digits}
use Rattle.text_lines.specs.Chain.{◌>>=◌, or_cause, unless}

-- the number that a word spells: decimal digits, with zeros in front or none, and as great as it may be
abbrev pub decimal_of : Text → Option ℕ
decimal_of word = if are_digits 10 word then Some (digits_value 10 word) else None

-- the numbers that words spell, if each spells one
abbrev pub numbers_of : List Text → Option (List ℕ)
numbers_of [] = Some []
numbers_of (word ∷ words) = option_and_then (λ n. option_map (λ ns. n ∷ ns) (numbers_of words)) (decimal_of word)

-- the gate of a kind that numbers state: how many inputs and how many outputs, as the kind has them, and then as many
-- wires
abbrev pub gate_stated : BristolKind → List ℕ → Option Gate
gate_stated kind (ins ∷ outs ∷ wires) = if length wires == ins + outs && is_arity kind ins outs then Some (record { kind = kind; ins = take ins wires; outs = drop ins wires }) else None
gate_stated kind (ins ∷ []) = None
gate_stated kind [] = None

-- numbers below this may be inputs of a gate of the kind, in a circuit of so many wires
abbrev pub input_bound : BristolKind → ℕ → ℕ
input_bound kind wires = if is_constant kind then 2 else wires

-- whether each wire of a gate is one of so many, and a constant is 0 or 1
abbrev pub is_in_range : ℕ → Gate → Bool
is_in_range wires g = list_all (λ x. nat_lt x (input_bound g.kind wires)) g.ins && list_all (λ w. nat_lt w wires) g.outs

-- whether each input wire of a gate is an input of the circuit or set
abbrev pub are_ins_set : Circuit → Gate → Bool
are_ins_set c g = is_constant g.kind || list_all (is_set c) g.ins

-- whether no output wire of a gate is an input of the circuit, is set, or stands twice
abbrev pub are_outs_new : Circuit → List ℕ → Bool
are_outs_new c outs = list_all (λ w. not (is_set c w)) outs && are_apart outs

-- the gate of a kind that numbers state behind the gates of a circuit, or the first cause that they show
unfoldable pub gate_used : Circuit → BristolKind → List ℕ → Result Gate BristolCause
gate_used c kind ns = do
  gate ← or_cause Arity (gate_stated kind ns)
  range ← unless WireRange (is_in_range c.wires gate)
  used ← unless UsedBeforeSet (are_ins_set c gate)
  Ok gate

-- the circuit with one gate more, the outputs of which have to be new
unfoldable pub added : Progress → Gate → Result Progress BristolCause
added p gate = do
  once ← unless SetTwice (are_outs_new p.circuit gate.outs)
  Ok (more_gates p gate)

-- the circuit with the gate of a kind that numbers state, or the first cause that they show
unfoldable pub adds_numbers : Progress → BristolKind → List ℕ → Result Progress BristolCause
adds_numbers p kind ns = do
  gate ← gate_used p.circuit kind ns
  added p gate

-- the last of some words
abbrev pub last_word : List Text → Text
last_word words = slice_index_or words (length words - 1) []

-- and those before it
abbrev pub front_words : List Text → List Text
front_words words = take (length words - 1) words

-- the circuit with the gate that a line says, or the first cause that the line shows
unfoldable pub adds : Progress → List Text → Result Progress BristolCause
adds p words = do
  kind ← or_cause GateName (kind_of (last_word words))
  numbers ← or_cause Arity (numbers_of (front_words words))
  adds_numbers p kind numbers

-- The canonical text of a circuit: single spaces, decimal numbers without zeros in front, no blank line, and a line end
-- behind every line.
use Rattle.std.specs.Prelude.{ℕ, List, [], ◌∷◌, ◌++◌, length, map}
use Rattle.std.specs.List.{flat_map, join_with_byte}
use Rattle.std.specs.Fmt.{decimal}
use Rattle.bristol_reader.specs.Kinds.{name_of}
use Rattle.bristol_reader.specs.Circuit.{Gate, Circuit}
use Rattle.text_lines.specs.Text.{Text}

-- words as a line: with a space between each two, and a line end behind them
abbrev pub line_of : List Text → Text
line_of words = join_with_byte 32 words ++ 10 ∷ []

-- the words of the first header line
abbrev pub sizes_words : Circuit → List Text
sizes_words c = decimal (length c.gates) ∷ decimal c.wires ∷ []

-- the words of another header line
abbrev pub widths_words : List ℕ → List Text
widths_words widths = decimal (length widths) ∷ map decimal widths

-- the words of a gate's line
abbrev pub gate_words : Gate → List Text
gate_words g = (decimal (length g.ins) ∷ decimal (length g.outs) ∷ map decimal (g.ins ++ g.outs)) ++ name_of g.kind ∷ []

-- the lines of a circuit, each as its words
abbrev pub all_words : Circuit → List (List Text)
all_words c = sizes_words c ∷ widths_words c.inputs ∷ widths_words c.outputs ∷ map gate_words c.gates

-- the canonical text of a circuit
unfoldable pub canonical : Circuit → Text
canonical c = flat_map line_of (all_words c)

-- numbers, each with a space before it
abbrev pub spaced : List ℕ → Text
spaced numbers = flat_map (λ n. 32 ∷ decimal n) numbers

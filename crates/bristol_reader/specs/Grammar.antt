-- The language of circuits in Bristol Fashion: which texts read as a circuit, and which line of any other text shows the
-- first fault. Some causes stand at the last line, and take part in the order of the causes of that line, so the reader
-- of a text knows how many lines it has.
use Rattle.std.specs.Prelude.{ℕ, ◌≡◌, ◌+◌, ◌-◌, ◌==◌, Bool, true, false, not, ◌&&◌, ◌||◌, nat_lt, nat_le, List, [], ◌∷◌, length, sum, Option, Some, None, Result, Ok, Err, if◌then◌else◌}
use Rattle.std.specs.List.{list_all}
use Rattle.mot_base.specs.Limits.{most_statements, most_wires}
use Rattle.bristol_reader.specs.declared.cause.BristolCause.{BristolCause}
use Rattle.bristol_reader.specs.declared.cause.BristolCause.TheVariants.{NotText, Header, TooMany, Counts, Leftover, OutputUnset}
use Rattle.bristol_reader.specs.declared.stage.Stage.{Stage}
use Rattle.bristol_reader.specs.declared.stage.Stage.TheVariants.{Start, Sized, Entered, Body}
use Rattle.bristol_reader.specs.Circuit.{Circuit, Sizes, Progress, no_gates, are_outputs_set}
use Rattle.bristol_reader.specs.Line.{numbers_of, adds}
use Rattle.text_lines.specs.Chain.{or_cause, unless, ◌>>=◌}
use Rattle.text_lines.specs.Text.{Text, is_allowed, words, lines}
use Rattle.text_lines.specs.LineReader.{LineReader, ReadsAs, FirstFaultOf, ReadsOrFaults}
use Rattle.text_lines.specs.declared.cause.TextError.{TextError}
use Rattle.text_lines.specs.Gives.{IsFirstFaultOf}

-- ---- the header lines

-- the numbers of gates and of wires, where there are two numbers
abbrev pub sizes_of : List ℕ → Option Sizes
sizes_of (gates ∷ wires ∷ []) = Some (record { gates = gates; wires = wires })
sizes_of _ = None

-- the widths of some values, where numbers are how many values there are and then the width of each, which is not 0
abbrev pub widths_of : List ℕ → Option (List ℕ)
widths_of [] = None
widths_of (count ∷ widths) = if length widths == count && list_all (λ width. nat_le 1 width) widths then Some widths else None

-- whether a circuit may be as large
abbrev pub are_few : Sizes → Bool
are_few sizes = nat_le sizes.gates most_statements && nat_le sizes.wires most_wires

-- the sizes that the numbers of the first header line state, or the first cause that they show. Whether the text ends
-- with that line is given
unfoldable pub sizes_in : Bool → List ℕ → Result Sizes BristolCause
sizes_in ends ns = do
  sizes ← or_cause Header (sizes_of ns)
  more ← unless Header (not ends)
  few ← unless TooMany (are_few sizes)
  Ok sizes

-- the widths that the numbers of another header line state, which have no more wires than there are, or the first cause
-- that they show. Whether the text ends with that line, before the third header line, is given
unfoldable pub widths_in : Bool → ℕ → List ℕ → Result (List ℕ) BristolCause
widths_in ends wires ns = do
  widths ← or_cause Header (widths_of ns)
  more ← unless Header (not ends)
  few ← unless Counts (nat_le (sum widths) wires)
  Ok widths

-- what the words of the first header line state, or the first cause that they show
unfoldable pub sizes_said : Bool → List Text → Result Sizes BristolCause
sizes_said ends words = do
  ns ← or_cause Header (numbers_of words)
  sizes_in ends ns

-- and those of another header line
unfoldable pub widths_said : Bool → ℕ → List Text → Result (List ℕ) BristolCause
widths_said ends wires words = do
  ns ← or_cause Header (numbers_of words)
  widths_in ends wires ns

-- ---- lines

-- what is read behind the third header line or a later one, if it is the last: by then all gates stand, and each output
-- wire is set
unfoldable pub ended : Bool → Progress → Result Stage BristolCause
ended last p = do
  enough ← unless Counts (not last || nat_le p.stated (length p.circuit.gates))
  set ← unless OutputUnset (not last || are_outputs_set p.circuit)
  Ok (Body p)

-- what is read behind a line of no words: before the third header line it may not be the last
abbrev pub behind_blank : Bool → Stage → Result Stage BristolCause
behind_blank last (Body p) = ended last p
behind_blank last stage = if last then Err Header else Ok stage

-- what is read behind a line's words, of which there are some, or the first cause that they show. Each such line behind
-- the third header line counts as a gate
unfoldable pub behind_words : Bool → Stage → List Text → Result Stage BristolCause
behind_words last Start words = do
  sizes ← sizes_said last words
  Ok (Sized sizes)
behind_words last (Sized sizes) words = do
  widths ← widths_said last sizes.wires words
  Ok (Entered (record { sizes = sizes; inputs = widths }))
behind_words last (Entered h) words = do
  widths ← widths_said false h.sizes.wires words
  ended last (no_gates h widths)
behind_words last (Body p) words = do
  enough ← unless Counts (not last || nat_le p.stated (length p.circuit.gates + 1))
  room ← unless Leftover (nat_lt (length p.circuit.gates) p.stated)
  next ← adds p words
  ended last next

abbrev pub behind_content : Bool → Stage → List Text → Result Stage BristolCause
behind_content last stage [] = behind_blank last stage
behind_content last stage (word ∷ words) = behind_words last stage (word ∷ words)

-- what is read behind a line, of which it is told whether it is the last, or the first cause that the line shows
unfoldable pub behind_line : Bool → Stage → Text → Result Stage BristolCause
behind_line last stage line = do
  text ← unless NotText (list_all is_allowed line)
  behind_content last stage (words line)

-- ---- texts

-- what is known behind some lines: how many lines are left, and what is read
pub record Known : Type 0 where
  pub left : ℕ
  pub stage : Stage

unfoldable pub behind : Known → Text → Result Known BristolCause
behind known line = do
  stage ← behind_line (known.left == 1) known.stage line
  Ok (record { left = known.left - 1; stage = stage })

-- the circuit that is read behind all lines
abbrev pub circuit_of : Stage → Result Circuit BristolCause
circuit_of (Body p) = Ok p.circuit
circuit_of _ = Err Header

-- all headers stand, and each output wire is an input or set. So it is behind the last line
abbrev pub IsDone : Stage → Type 0
IsDone (Body p) = are_outputs_set p.circuit ≡ true
IsDone _ = ⊥

-- the circuit that is read behind the last line, or the first cause that the line shows
abbrev pub read_last : Stage → Text → Result Circuit BristolCause
read_last stage line = behind_line true stage line >>= circuit_of

abbrev pub whole : Known → Result Circuit BristolCause
whole known = circuit_of known.stage

-- the language of circuits, in texts of so many lines
abbrev pub circuits : ℕ → LineReader Known Circuit BristolCause
circuits count = record { start = record { left = count; stage = Start }; behind = behind; whole = whole }

-- a text reads as a circuit: no line shows a cause, and they are the three headers and the circuit's gates
abbrev pub Reads : Text → Circuit → Type 0
Reads text c = ReadsAs Known Circuit BristolCause (circuits (length (lines text))) text c

-- the first line of a text that shows a cause, and the first cause of that line
abbrev pub FirstFault : Text → ℕ → BristolCause → Type 0
FirstFault text line cause = FirstFaultOf (circuits (length (lines text))) text line cause

-- an error is the first fault of a text, or memory ran out
abbrev pub IsFirstFault : Text → TextError BristolCause → Type 0
IsFirstFault text e = IsFirstFaultOf (circuits (length (lines text))) text e

-- of every text exactly one is the case: it reads as one circuit, or one line and cause are its first fault
abbrev pub EachReadsOrFaults : Type 0
EachReadsOrFaults = (text : Text) → ReadsOrFaults Known Circuit BristolCause (circuits (length (lines text))) text

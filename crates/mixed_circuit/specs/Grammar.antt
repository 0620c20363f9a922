-- The language of circuits: which texts read as a circuit, and which line of any other text shows the first
-- fault.
use Rattle.std.specs.Prelude.{ℕ, Bool, false, ◌&&◌, List, [], ◌∷◌, Option, None, Result, Ok, Err, if◌then◌else◌, codes}
use Rattle.std.specs.List.{list_all}
use Rattle.std.specs.Str.{bytes_eq}
use Rattle.mot_base.specs.Limits.{least_parties, most_parties}
use Rattle.mixed_circuit.specs.declared.cause.CircuitCause.{CircuitCause}
use Rattle.mixed_circuit.specs.declared.cause.CircuitCause.TheVariants.{NotText, Header}
use Rattle.mixed_circuit.specs.declared.read.Stage.{Stage}
use Rattle.mixed_circuit.specs.declared.read.Stage.TheVariants.{Start, Titled, Body}
use Rattle.mixed_language.specs.Circuit.{Circuit, no_statements, with_statement}
use Rattle.mixed_circuit.specs.Line.{said, number_within}
use Rattle.text_lines.specs.Chain.{or_cause, unless, ◌>>=◌}
use Rattle.text_lines.specs.Text.{Text, is_allowed, line_words}
use Rattle.text_lines.specs.LineReader.{LineReader, ReadsAs, FirstFaultOf, ReadsOrFaults}
use Rattle.text_lines.specs.declared.cause.TextError.{TextError}
use Rattle.text_lines.specs.Gives.{IsFirstFaultOf}

-- the words are `mixed 1`
abbrev pub is_title : List Text → Bool
is_title (first ∷ second ∷ []) = bytes_eq first (codes "mixed") && bytes_eq second (codes "1")
is_title _ = false

-- the number of parties, where the words are `parties` and such a number
abbrev pub parties_of : List Text → Option ℕ
parties_of (first ∷ second ∷ []) =
    if bytes_eq first (codes "parties") then number_within least_parties most_parties second else None
parties_of _ = None

-- the circuit with the statement that a line says, or the first cause that the line shows
unfoldable pub adds : Circuit → List Text → Result Circuit CircuitCause
adds c words = do
  statement ← said c words
  Ok (with_statement c statement)

-- the stage behind a line's words, of which there are some, or the first cause that they show
unfoldable pub behind_words : Stage → List Text → Result Stage CircuitCause
behind_words Start words = if is_title words then Ok Titled else Err Header
behind_words Titled words = do
  parties ← or_cause Header (parties_of words)
  Ok (Body (no_statements parties))
behind_words (Body c) words = do
  next ← adds c words
  Ok (Body next)

-- a line of no words is passed over
abbrev pub behind_content : Stage → List Text → Result Stage CircuitCause
behind_content stage [] = Ok stage
behind_content stage (word ∷ words) = behind_words stage (word ∷ words)

-- the stage behind a line, or the first cause that the line shows
unfoldable pub behind : Stage → Text → Result Stage CircuitCause
behind stage line = do
  text ← unless NotText (list_all is_allowed line)
  behind_content stage (line_words line)

-- the circuit behind the last line: both headers have to stand by then
abbrev pub whole : Stage → Result Circuit CircuitCause
whole Start = Err Header
whole Titled = Err Header
whole (Body c) = Ok c

-- the language of circuits, line by line
abbrev pub circuits : LineReader Stage Circuit CircuitCause
circuits = record { start = Start; behind = behind; whole = whole }

-- a text reads as a circuit: no line shows a cause, and they are both headers and the circuit's statements
abbrev pub Reads : Text → Circuit → Type 0
Reads text c = ReadsAs Stage Circuit CircuitCause circuits text c

-- the first line of a text that shows a cause, and the first cause of that line
abbrev pub FirstFault : Text → ℕ → CircuitCause → Type 0
FirstFault text line cause = FirstFaultOf circuits text line cause

-- an error is the first fault of a text, or memory ran out
abbrev pub IsFirstFault : Text → TextError CircuitCause → Type 0
IsFirstFault text e = IsFirstFaultOf circuits text e

-- of every text exactly one is the case: it reads as one circuit, or one line and cause are its first fault
abbrev pub EachReadsOrFaults : Type 0
EachReadsOrFaults = (text : Text) → ReadsOrFaults Stage Circuit CircuitCause circuits text

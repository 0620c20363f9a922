-- What a part of a reader returned, against what is to be read.
use Rattle.std.specs.Prelude.{ℕ, ◌≡◌, Result, Ok, Err}
use Rattle.text_lines.specs.declared.cause.LineError.{LineError}
use Rattle.text_lines.specs.declared.cause.LineError.TheVariants as line_error
use Rattle.text_lines.specs.declared.cause.TextError.{TextError}
use Rattle.text_lines.specs.declared.cause.TextError.TheVariants as text_error
use Rattle.text_lines.specs.LineReader.{LineReader, FirstFaultOf}
use Rattle.text_lines.specs.Text.{Text}

-- an error is the cause that is read, or memory ran out
abbrev pub Fails : {Z C : Type 0} → LineError C → Result Z C → Type 0
Fails line_error.NoMemory read = Unit {0}
Fails (line_error.Shows cause) read = read ≡ Err cause

-- a result, seen by view, is what is read, unless memory ran out
abbrev pub Gives : {X Z C : Type 0} → (X → Z) → Result X (LineError C) → Result Z C → Type 0
Gives view (Ok x) read = read ≡ Ok (view x)
Gives view (Err e) read = Fails e read

-- the error of a line, whose number is given
abbrev pub error_at : {C : Type 0} → ℕ → LineError C → TextError C
error_at line (line_error.Shows cause) = text_error.At line cause
error_at line line_error.NoMemory = text_error.NoMemory

-- an error is the cause that is read, at a line, or memory ran out
abbrev pub FailsAt : {Z C : Type 0} → ℕ → TextError C → Result Z C → Type 0
FailsAt number text_error.NoMemory read = Unit {0}
FailsAt number (text_error.At line cause) read = (line ≡ number) × (read ≡ Err cause)

-- a result, seen by view, is what is read at a line, unless memory ran out
abbrev pub GivesAt : {X Z C : Type 0} → (X → Z) → ℕ → Result X (TextError C) → Result Z C → Type 0
GivesAt view number (Ok x) read = read ≡ Ok (view x)
GivesAt view number (Err e) read = FailsAt number e read

-- an error is the first fault of a text, or memory ran out
abbrev pub IsFirstFaultOf : {S X C : Type 0} → LineReader S X C → Text → TextError C → Type 0
IsFirstFaultOf r text text_error.NoMemory = Unit {0}
IsFirstFaultOf r text (text_error.At line cause) = FirstFaultOf r text line cause

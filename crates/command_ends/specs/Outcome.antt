-- What a command comes to: a report, or the first cause of a refusal with its status and its line.
use Rattle.std.specs.Prelude.{ℕ, List, [], ◌∷◌, ◌++◌, codes, Option, None}
use Rattle.std.specs.Fmt.{decimal}
use Rattle.text_lines.specs.Text.{Text}
use Rattle.command_ends.specs.declared.status.Status.{Status}
use Rattle.command_ends.specs.declared.status.Status.TheVariants as status

-- the number that the process ends with
abbrev pub code_of : Status → ℕ
code_of status.Done = 0
code_of status.Usage = 1
code_of status.Circuit = 2
code_of status.Values = 3
code_of status.Dealer = 4
code_of status.TooFew = 5
code_of status.File = 8
code_of status.Write = 9
code_of status.Memory = 11

-- a report that is cut is not done, and a refusal keeps its status
pub data Kind : Type 0 where
  report : Kind
  refusal : Kind

-- what a command comes to: its kind, its status and its text; the files that it stored, in order, each with
-- its content; and the name of which nothing is known any more, if there is one
pub record Outcome : Type 0 where
  pub kind : Kind
  pub status : Status
  pub text : Text
  pub stored : List (Text × Text)
  pub torn : Option Text

-- LF, which ends a line
abbrev pub line_end : Text
line_end = 10 ∷ []

-- a refusal with this text, where no file was stored
abbrev pub refused : Status → Text → Outcome
refused given text = record { kind = refusal; status = given; text = text; stored = []; torn = None }

-- a report, where no file was stored
abbrev pub reported : Text → Outcome
reported text = record { kind = report; status = status.Done; text = text; stored = []; torn = None }

-- The lines of refusals.

-- a line of one word or more
abbrev pub line : Text → Text
line words = words ++ line_end

-- the line about a file of some kind, which ends so
abbrev pub about : Text → Text → Text → Text
about kind name rest = kind ++ (codes " " ++ (name ++ (codes ": " ++ rest)))

-- how such a line ends where a cause stands at a line of the file
abbrev pub at_line : ℕ → Text → Text
at_line number cause = codes "line " ++ (decimal number ++ (codes ": " ++ line cause))

-- the name of the file of a party's part: the prefix, a dot and the party's number
abbrev pub part_name : Text → ℕ → Text
part_name prefix party = prefix ++ (codes "." ++ decimal party)

-- The refusals.

abbrev pub usage : Outcome
usage = refused status.Usage (line (codes "usage"))

abbrev pub memory : Outcome
memory = refused status.Memory (line (codes "memory"))

abbrev pub file_refused : Text → Text → Outcome
file_refused name cause = refused status.File (about (codes "file") name (line cause))

abbrev pub circuit_refused : Text → Text → Outcome
circuit_refused name rest = refused status.Circuit (about (codes "circuit") name rest)

abbrev pub values_refused : Text → Text → Outcome
values_refused name rest = refused status.Values (about (codes "values") name rest)

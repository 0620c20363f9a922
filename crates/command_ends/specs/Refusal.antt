-- The status and the line of each refusal.
use Rattle.std.specs.Fmt.{decimal}
use Rattle.std.specs.Prelude.{◌++◌, codes, Result, Ok, Err, String, string_bytes}
use Rattle.std.specs.declared.alloc.Global.{Global}
use Rattle.text_lines.specs.Text.{Text}
use Rattle.circuit_values.specs.declared.cause.ValuesCause.{ValuesCause}
use Rattle.circuit_values.specs.declared.cause.ValuesCause.TheVariants as values
use Rattle.share_types.specs.declared.needs.Kind.{Kind}
use Rattle.share_types.specs.declared.needs.Kind.TheVariants as kind
use Rattle.share_types.specs.declared.needs.TooFew.{TooFew}
use Rattle.dealer_files.specs.declared.fault.DealerError.{DealerError}
use Rattle.dealer_files.specs.declared.fault.DealerError.TheVariants as dealer
use Rattle.mixed_circuit.specs.declared.cause.CircuitCause.{CircuitCause}
use Rattle.mixed_circuit.specs.declared.cause.CircuitCause.TheVariants as circuit
use Rattle.bristol_reader.specs.declared.cause.BristolCause.{BristolCause}
use Rattle.bristol_reader.specs.declared.cause.BristolCause.TheVariants as bristol
use Rattle.cli_words.specs.declared.read.WordsError.{WordsError}
use Rattle.cli_words.specs.declared.read.WordsError.TheVariants as words
use Rattle.command_ends.specs.declared.status.Status.{Status}
use Rattle.command_ends.specs.declared.status.Status.TheVariants as status
use Rattle.command_ends.specs.declared.fault.CircuitFault.{CircuitFault}
use Rattle.command_ends.specs.declared.fault.CircuitFault.TheVariants as fault
use Rattle.command_ends.specs.declared.fault.Field.{Field}
use Rattle.command_ends.specs.declared.fault.Field.TheVariants as field
use Rattle.command_ends.specs.declared.fault.PartFault.{PartFault}
use Rattle.command_ends.specs.declared.fault.PartFault.TheVariants.{Unread, Differs}
use Rattle.command_ends.specs.declared.refusal.FileCause.{FileCause}
use Rattle.command_ends.specs.declared.refusal.FileCause.TheVariants.{Missing, TooLong, Fault}
use Rattle.command_ends.specs.declared.refusal.Refusal.{Refusal}
use Rattle.command_ends.specs.declared.refusal.Refusal.TheVariants.{Usage, Circuit, NotBuilt, Gates, Values, File, Part, Dealer, Few, Memory}
use Rattle.command_ends.specs.Outcome.{Outcome, refused, reported, line, about, at_line, part_name}

abbrev pub cause_of : FileCause → Text
cause_of Missing = codes "missing"
cause_of TooLong = codes "too long"
cause_of Fault = codes "fault"

-- the name of a cause in the text of a mixed circuit
abbrev pub mixed_cause : CircuitCause → Text
mixed_cause circuit.NotText = codes "NotText"
mixed_cause circuit.Header = codes "Header"
mixed_cause circuit.Word = codes "Word"
mixed_cause circuit.NameTwice = codes "NameTwice"
mixed_cause circuit.NameUnknown = codes "NameUnknown"
mixed_cause circuit.WrongSharing = codes "WrongSharing"
mixed_cause circuit.WrongWidth = codes "WrongWidth"
mixed_cause circuit.BadNumber = codes "BadNumber"
mixed_cause circuit.BadParty = codes "BadParty"
mixed_cause circuit.TooMany = codes "TooMany"

-- the name of a cause in a text in Bristol Fashion
abbrev pub bristol_cause : BristolCause → Text
bristol_cause bristol.NotText = codes "NotText"
bristol_cause bristol.Header = codes "Header"
bristol_cause bristol.Counts = codes "Counts"
bristol_cause bristol.GateName = codes "GateName"
bristol_cause bristol.Arity = codes "Arity"
bristol_cause bristol.WireRange = codes "WireRange"
bristol_cause bristol.UsedBeforeSet = codes "UsedBeforeSet"
bristol_cause bristol.SetTwice = codes "SetTwice"
bristol_cause bristol.OutputUnset = codes "OutputUnset"
bristol_cause bristol.Leftover = codes "Leftover"
bristol_cause bristol.TooMany = codes "TooMany"

-- the name of a cause in a circuit's text
abbrev pub circuit_cause : CircuitFault → Text
circuit_cause (fault.Mixed cause) = mixed_cause cause
circuit_cause (fault.Bristol cause) = bristol_cause cause

-- the name of a cause in a text of values
abbrev pub values_cause : ValuesCause → Text
values_cause values.NameUnknown = codes "NameUnknown"
values_cause values.Missing = codes "Missing"
values_cause values.Twice = codes "Twice"
values_cause values.TooWide = codes "TooWide"
values_cause values.Word = codes "Word"

-- the name of a cause in a dealer's file
abbrev pub dealer_word : DealerError → Text
dealer_word dealer.Magic = codes "Magic"
dealer_word dealer.Version = codes "Version"
dealer_word dealer.Party = codes "Party"
dealer_word dealer.OffsetEven = codes "OffsetEven"
dealer_word dealer.Counts = codes "Counts"
dealer_word (dealer.RecordBits place) = codes "RecordBits"
dealer_word dealer.Short = codes "Short"
dealer_word dealer.Long = codes "Long"
dealer_word dealer.NoMemory = codes "NoMemory"

-- and, of a record, the place
abbrev pub dealer_cause : DealerError → Text
dealer_cause (dealer.RecordBits place) = codes "RecordBits at " ++ decimal place
dealer_cause cause = dealer_word cause

-- the name of a field of a part
abbrev pub field_name : Field → Text
field_name field.Parties = codes "parties"
field_name field.Party = codes "party"
field_name field.Id = codes "id"
field_name field.Mult = codes "mult"
field_name field.Bit = codes "bit"
field_name field.Shared = codes "shared"
field_name field.Key = codes "key"

-- what is wrong with a part
abbrev pub part_fault : PartFault → Text
part_fault (Unread cause) = dealer_cause cause
part_fault (Differs found) =
    field_name found.field
    ++ (codes " expected " ++ (decimal found.expected ++ (codes " found " ++ decimal found.found)))

abbrev pub dealer_refused : Text → PartFault → Outcome
dealer_refused name fault = refused status.Dealer (about (codes "dealer") name (line (part_fault fault)))

-- the name of a kind of correlations
abbrev pub kind_name : Kind → Text
kind_name kind.Mult = codes "mult"
kind_name kind.Bit = codes "bit"
kind_name kind.Shared = codes "shared"
kind_name kind.Key = codes "key"

-- that there are too few of a kind
abbrev pub few_line : TooFew → Text
few_line few =
    codes "too few " ++ (kind_name few.kind ++ (codes ": before " ++ (decimal few.before
    ++ (codes " asked " ++ (decimal few.asked ++ (codes " stock " ++ line (decimal few.stock)))))))

abbrev pub few_refused : TooFew → Outcome
few_refused few = refused status.TooFew (few_line few)

abbrev pub status_of : Refusal → Status
status_of Usage = status.Usage
status_of (Circuit name number cause) = status.Circuit
status_of (NotBuilt name) = status.Circuit
status_of (Gates name gates) = status.Circuit
status_of (Values name number cause) = status.Values
status_of (File name cause) = status.File
status_of (Part prefix party cause) = status.File
status_of (Dealer prefix party fault) = status.Dealer
status_of (Few few) = status.TooFew
status_of Memory = status.Memory

abbrev pub line_of : Refusal → Text
line_of Usage = line (codes "usage")
line_of (Circuit name number cause) =
    about (codes "circuit") name.now (at_line number (circuit_cause cause))
line_of (NotBuilt name) = about (codes "circuit") name.now (line (codes "not built"))
line_of (Gates name gates) = about (codes "circuit") name.now (codes "gates " ++ line (decimal gates))
line_of (Values name number cause) = about (codes "values") name.now (at_line number (values_cause cause))
line_of (File name cause) = about (codes "file") name.now (line (cause_of cause))
line_of (Part prefix party cause) = about (codes "file") (part_name prefix.now party) (line (cause_of cause))
line_of (Dealer prefix party fault) =
    about (codes "dealer") (part_name prefix.now party) (line (part_fault fault))
line_of (Few few) = few_line few
line_of Memory = line (codes "memory")

-- what a command comes to that ends with a refusal
abbrev pub outcome_of : Refusal → Outcome
outcome_of given = refused (status_of given) (line_of given)

-- what a command comes to that gives a report or ends with a refusal
abbrev pub came_to : Result (String Global) Refusal → Outcome
came_to (Ok report) = reported (string_bytes report)
came_to (Err given) = outcome_of given

-- the refusal of words that were not read
abbrev pub read_refused : WordsError → Refusal
read_refused words.Usage = Usage
read_refused words.NoMemory = Memory

-- The parts of a deal that a run takes: dealt for it, or read from the files that a dealer left.
use Rattle.std.specs.Prelude.{ℕ, ◌≡◌, ◌≤◌, ◌⊎◌, nat_eq, List, [], length, take, slice_get, get_or, Option, Some, None, if◌then◌else◌}
use Rattle.std.specs.Option.{option_or}
use Rattle.share_types.specs.Sums.{each}
use Rattle.share_types.specs.declared.needs.Needs.{Needs}
use Rattle.share_types.specs.declared.needs.Kind.{Kind}
use Rattle.share_types.specs.declared.needs.TooFew.{TooFew}
use Rattle.share_types.specs.Needs.{count_of, IsFirstShort}
use Rattle.cli_words.specs.Request.{LocalRequest}
use Rattle.dealer_files.specs.Part.{Part, counts_of}
use Rattle.dealer_files.specs.File.{IsFile}
use Rattle.dealer_files.specs.Checks.{IsFirstFault}
use Rattle.dealer_files.specs.Laws.{IsOfNumbers}
use Rattle.dealer_maker.specs.Draws.{parts_drawn}
use Rattle.plan_gates.specs.Needs.{all_needs}
use Rattle.joint_run.specs.Honest.{no_part}
use Rattle.text_lines.specs.Text.{Text}
use Rattle.command_ends.specs.declared.fault.Field.{Field}
use Rattle.command_ends.specs.declared.fault.Field.TheVariants.{Parties, Party, Id, Mult, Bit, Shared, Key}
use Rattle.command_ends.specs.declared.fault.Difference.{Difference}
use Rattle.command_ends.specs.declared.fault.PartFault.{PartFault}
use Rattle.command_ends.specs.declared.fault.PartFault.TheVariants.{Unread, Differs}
use Rattle.any_circuit.specs.Circuits.{Circuit, parties_of, plan_of}
use Rattle.command_ends.specs.Outcome.{Outcome, part_name}
use Rattle.motion_cli.specs.Parts.{dealer_seed}
use Rattle.command_ends.specs.Refusal.{dealer_refused, few_refused}

-- the files that the words name, one for each party, or none
abbrev pub part_names : Option Text → ℕ → List Text
part_names None parties = []
part_names (Some prefix) parties = each parties (part_name prefix)

-- ---- what is wrong with a part

-- a field that is not as expected
abbrev pub differs : Field → ℕ → ℕ → Option Difference
differs field expected found =
    if nat_eq expected found
    then None
    else Some (record { field = field; expected = expected; found = found })

-- the first difference between the counts of two parts
abbrev pub count_difference : Needs → Needs → Option Difference
count_difference expected found =
    option_or (differs Mult expected.mult found.mult)
    (option_or (differs Bit expected.bit found.bit)
    (option_or (differs Shared expected.shared found.shared) (differs Key expected.key found.key)))

-- the first difference of the part at a place: it is to be for the circuit's parties, for the party of its place, and of the
-- deal and with the counts of the first part
abbrev pub difference : ℕ → ℕ → Part → Part → Option Difference
difference parties place first part =
    option_or (differs Parties parties part.parties)
    (option_or (differs Party place part.party)
    (option_or (differs Id first.id part.id) (count_difference (counts_of first) (counts_of part))))

-- a file is that of a part, whose numbers are of 64 and of 128 bits
abbrev pub Holds : Text → Part → Type 0
Holds file part = IsFile file part × IsOfNumbers part

-- parts are read of files, in their order, and each is as expected
pub record AreRead (parties : ℕ) (files : List Text) (parts : List Part) : Type 0 where
  pub count : length parts ≡ length files
  pub each : (at : ℕ) (file : Text) (part : Part) →
      slice_get files at ≡ Some file → slice_get parts at ≡ Some part →
      Holds file part × (difference parties at (get_or parts 0 part) part ≡ None)

-- a file shows this first, where these are the parts before it
abbrev pub Shows : ℕ → List Part → Text → PartFault → Type 0
Shows parties before file (Unread cause) = IsFirstFault file cause
Shows parties before file (Differs found) =
    (part : Part) × Holds file part
    × (difference parties (length before) (get_or before 0 part) part ≡ Some found)

-- the first file with a fault: those before it are read
pub record IsFaulty (parties : ℕ) (files : List Text) (at : ℕ) (fault : PartFault) : Type 0 where
  pub before : List Part
  pub read : AreRead parties (take at files) before
  pub file : Text
  pub there : slice_get files at ≡ Some file
  pub shows : Shows parties before file fault

-- ---- the parts of a run

-- how many records of each kind each part has
abbrev pub stock_of : List Part → Needs
stock_of parts = counts_of (get_or parts 0 no_part)

-- there are as many records of each kind as a circuit needs
abbrev pub AreEnough : Circuit → List Part → Type 0
AreEnough c parts = (kind : Kind) → count_of (all_needs (plan_of c)) kind ≤ count_of (stock_of parts) kind

-- more records of a kind are needed than there are, and none was used before
abbrev pub shortage : Needs → Needs → Kind → TooFew
shortage needs stock kind =
    record { kind = kind; before = 0; asked = count_of needs kind; stock = count_of stock kind }

-- a run has these parts: exactly what it needs, dealt under its seed, or those of the files, which are enough
abbrev pub AreTaken : Option Text → List ℕ → Circuit → List Text → List Part → Type 0
AreTaken None seed c files parts =
    parts ≡ parts_drawn (dealer_seed seed) (parties_of c) (all_needs (plan_of c))
AreTaken (Some prefix) seed c files parts = AreRead (parties_of c) files parts × AreEnough c parts

-- or it has none: a file shows a fault, or there are too few records
pub record IsDealerFault (prefix : Text) (parties : ℕ) (files : List Text) (end : Outcome) : Type 0 where
  pub at : ℕ
  pub fault : PartFault
  pub faulty : IsFaulty parties files at fault
  pub told : end ≡ dealer_refused (part_name prefix at) fault

pub record IsShort (c : Circuit) (files : List Text) (end : Outcome) : Type 0 where
  pub parts : List Part
  pub read : AreRead (parties_of c) files parts
  pub kind : Kind
  pub short : IsFirstShort (all_needs (plan_of c)) (stock_of parts) kind
  pub told : end ≡ few_refused (shortage (all_needs (plan_of c)) (stock_of parts) kind)

abbrev pub IsUntaken : Option Text → Circuit → List Text → Outcome → Type 0
IsUntaken None c files end = ⊥
IsUntaken (Some prefix) c files end = IsDealerFault prefix (parties_of c) files end ⊎ IsShort c files end

-- the parts of a run are taken, and lead on
abbrev pub TakesParts : LocalRequest → Circuit → List Text → (List Part → Outcome → Type 0) → Outcome → Type 0
TakesParts request c files next end =
    IsUntaken request.dealer c files end
    ⊎ ((parts : List Part) × AreTaken request.dealer request.seed c files parts × next parts end)

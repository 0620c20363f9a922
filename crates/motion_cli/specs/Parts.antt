-- What `deal` stores: the parts of all parties, each in a file of its own.
use Rattle.std.specs.Prelude.{ℕ, ◌-◌, nat_lt, false, List, [], ◌++◌, length, map, replicate, codes, if◌then◌else◌}
use Rattle.std.specs.Fmt.{decimal, digits}
use Rattle.mot_base.specs.Limits.{most_file_bytes}
use Rattle.mot_base.specs.Tape.{derived_seed, long_word_of_tape}
use Rattle.share_types.specs.declared.needs.Needs.{Needs}
use Rattle.cli_words.specs.Request.{DealRequest}
use Rattle.dealer_files.specs.Part.{Part}
use Rattle.dealer_files.specs.File.{file_of, file_length}
use Rattle.dealer_maker.specs.Draws.{parts_drawn}
use Rattle.text_lines.specs.Text.{Text}
use Rattle.command_ends.specs.Outcome.{line, part_name}

-- how many records of each kind are asked for
abbrev pub counts_asked : DealRequest → Needs
counts_asked request = record {
  mult = request.mult;
  bit = request.bit;
  shared = request.shared;
  key = request.key;
}

-- the label under which the seed of the dealer's tape is derived; a party's is its number
abbrev pub dealer_label : ℕ
dealer_label = 255

-- the seed of the dealer's tape
abbrev pub dealer_seed : List ℕ → List ℕ
dealer_seed seed = derived_seed seed dealer_label

-- the file of a part, with its name
abbrev pub part_file : Text → Part → Text × Text
part_file prefix part = (part_name prefix part.party, file_of part)

-- the files of all parties' parts, in the order of the parties
abbrev pub part_files : DealRequest → List (Text × Text)
part_files request =
    map (part_file request.prefix)
    (parts_drawn (dealer_seed request.seed) request.parties (counts_asked request))

-- the length of each of them
abbrev pub part_length : DealRequest → ℕ
part_length request = file_length request.parties (counts_asked request)

-- the files that are stored: none where they are too long
abbrev pub deal_files : DealRequest → List (Text × Text)
deal_files request = if nat_lt most_file_bytes (part_length request) then [] else part_files request

-- a number of 64 bits as 16 lower-case hexadecimal digits
abbrev pub hexadecimal : ℕ → Text
hexadecimal number = let shown = digits 16 false number in replicate (16 - length shown) 48 ++ shown

-- what is reported: how many parts there are, and the number of the deal
abbrev pub dealt_line : ℕ → ℕ → Text
dealt_line parties id =
    codes "dealt " ++ (decimal parties ++ (codes " parts, id " ++ line (hexadecimal id)))

-- the number of the deal
abbrev pub deal_id : DealRequest → ℕ
deal_id request = long_word_of_tape (dealer_seed request.seed) 0

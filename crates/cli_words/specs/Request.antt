-- What a whole line of words asks for.
use Rattle.std.specs.Prelude.{ℕ, List, slice_get, Option, Some, None, option_map, option_and_then, unwrap_or, string_bytes}
use Rattle.share_types.specs.declared.sharing.Sharing.{Sharing}
use Rattle.text_lines.specs.Text.{Text}
use Rattle.cli_words.specs.Table.{Meaning, name, seed, sharing, parties, workers, number}
use Rattle.cli_words.specs.declared.table.Command.{Command}
use Rattle.cli_words.specs.declared.table.Command.TheVariants.{Plain, Needs, Deal, Local}
use Rattle.cli_words.specs.declared.table.OptionName.{OptionName}
use Rattle.cli_words.specs.declared.table.OptionName.TheVariants.{As, Parties, Dealer, Workers}
use Rattle.cli_words.specs.declared.words.CommandWords.{CommandWords}
use Rattle.cli_words.specs.declared.words.CommandWords.TheVariants as words
use Rattle.cli_words.specs.declared.words.BristolWords.{BristolWords}
use Rattle.cli_words.specs.declared.words.PlainWords.{PlainWords}
use Rattle.cli_words.specs.declared.words.NeedsWords.{NeedsWords}
use Rattle.cli_words.specs.declared.words.DealWords.{DealWords}
use Rattle.cli_words.specs.declared.words.LocalWords.{LocalWords}

-- the circuit is a Bristol text: `--as` and `--parties`, which come together
pub record Bristol : Type 0 where
  pub sharing : Sharing
  pub parties : ℕ

-- the plain evaluation of a circuit
pub record PlainRequest : Type 0 where
  pub circuit : Text
  pub values : Text
  pub bristol : Option Bristol

-- the correlations that a circuit needs
pub record NeedsRequest : Type 0 where
  pub circuit : Text
  pub bristol : Option Bristol

-- dealer parts, with these counts of correlations
pub record DealRequest : Type 0 where
  pub prefix : Text
  pub seed : List ℕ
  pub parties : ℕ
  pub mult : ℕ
  pub bit : ℕ
  pub shared : ℕ
  pub key : ℕ

-- a run of all parties in one process, by so many workers
pub record LocalRequest : Type 0 where
  pub circuit : Text
  pub values : Text
  pub seed : List ℕ
  pub bristol : Option Bristol
  pub dealer : Option Text
  pub workers : ℕ

pub data Request : Type 0 where
  plain : PlainRequest → Request
  needs : NeedsRequest → Request
  deal : DealRequest → Request
  local : LocalRequest → Request

abbrev pub command_of : Request → Command
command_of (plain r) = Plain
command_of (needs r) = Needs
command_of (deal r) = Deal
command_of (local r) = Local

-- What the words of a line say: the positional ones in order, and each option that is there.
pub record Said : Type 0 where
  pub words : List Meaning
  pub option : OptionName → Option Meaning

-- What one of them says as a name, and so on.

abbrev pub as_name : Meaning → Option Text
as_name (name text) = Some text
as_name _ = None

abbrev pub as_seed : Meaning → Option (List ℕ)
as_seed (seed bytes) = Some bytes
as_seed _ = None

abbrev pub as_sharing : Meaning → Option Sharing
as_sharing (sharing way) = Some way
as_sharing _ = None

abbrev pub as_parties : Meaning → Option ℕ
as_parties (parties n) = Some n
as_parties _ = None

abbrev pub as_workers : Meaning → Option ℕ
as_workers (workers n) = Some n
as_workers _ = None

abbrev pub as_number : Meaning → Option ℕ
as_number (number n) = Some n
as_number _ = None

-- the word at a place, read so
abbrev pub word_as : {X : Type 0} → (Meaning → Option X) → Said → ℕ → Option X
word_as reads said at = option_and_then reads (slice_get said.words at)

-- an option is not there, or is read so
abbrev pub option_as : {X : Type 0} → (Meaning → Option X) → Option Meaning → Option (Option X)
option_as reads None = Some None
option_as reads (Some meaning) = option_map (λ x. Some x) (reads meaning)

-- both options of a Bristol text are there, or neither
abbrev pub both_of : Option Sharing → Option ℕ → Option (Option Bristol)
both_of None None = Some None
both_of (Some way) (Some n) = Some (Some (record { sharing = way; parties = n }))
both_of None (Some n) = None
both_of (Some way) None = None

abbrev pub bristol_said : Said → Option (Option Bristol)
bristol_said said =
    option_and_then (λ way.
    option_and_then (λ n. both_of way n)
    (option_as as_parties (said.option Parties)))
    (option_as as_sharing (said.option As))

-- What the words of each command ask for.

abbrev pub plain_said : Said → Option PlainRequest
plain_said said =
    option_and_then (λ circuit.
    option_and_then (λ values.
    option_map (λ bristol. record { circuit = circuit; values = values; bristol = bristol })
    (bristol_said said))
    (word_as as_name said 1))
    (word_as as_name said 0)

abbrev pub needs_said : Said → Option NeedsRequest
needs_said said =
    option_and_then (λ circuit.
    option_map (λ bristol. record { circuit = circuit; bristol = bristol })
    (bristol_said said))
    (word_as as_name said 0)

abbrev pub deal_said : Said → Option DealRequest
deal_said said =
    option_and_then (λ prefix.
    option_and_then (λ seed.
    option_and_then (λ parties.
    option_and_then (λ mult.
    option_and_then (λ bit.
    option_and_then (λ shared.
    option_map (λ key. record {
      prefix = prefix;
      seed = seed;
      parties = parties;
      mult = mult;
      bit = bit;
      shared = shared;
      key = key;
    })
    (word_as as_number said 6))
    (word_as as_number said 5))
    (word_as as_number said 4))
    (word_as as_number said 3))
    (word_as as_parties said 2))
    (word_as as_seed said 1))
    (word_as as_name said 0)

abbrev pub local_said : Said → Option LocalRequest
local_said said =
    option_and_then (λ circuit.
    option_and_then (λ values.
    option_and_then (λ seed.
    option_and_then (λ bristol.
    option_and_then (λ dealer.
    option_map (λ workers. record {
      circuit = circuit;
      values = values;
      seed = seed;
      bristol = bristol;
      dealer = dealer;
      workers = unwrap_or workers 1;
    })
    (option_as as_workers (said.option Workers)))
    (option_as as_name (said.option Dealer)))
    (bristol_said said))
    (word_as as_seed said 2))
    (word_as as_name said 1))
    (word_as as_name said 0)

-- what a line of a command asks for, by what its words say
abbrev pub request_said : Command → Said → Option Request
request_said Plain said = option_map plain (plain_said said)
request_said Needs said = option_map needs (needs_said said)
request_said Deal said = option_map deal (deal_said said)
request_said Local said = option_map local (local_said said)

-- What the code keeps of the words.

abbrev pub bristol_of : BristolWords → Bristol
bristol_of words = record { sharing = words.sharing; parties = words.parties }

abbrev pub plain_request : PlainWords → PlainRequest
plain_request r = record {
  circuit = string_bytes r.circuit;
  values = string_bytes r.values;
  bristol = option_map bristol_of r.bristol;
}

abbrev pub needs_request : NeedsWords → NeedsRequest
needs_request r = record {
  circuit = string_bytes r.circuit;
  bristol = option_map bristol_of r.bristol;
}

abbrev pub deal_request : DealWords → DealRequest
deal_request r = record {
  prefix = string_bytes r.prefix;
  seed = r.seed.0;
  parties = r.parties;
  mult = r.mult;
  bit = r.bit;
  shared = r.shared;
  key = r.key;
}

abbrev pub local_request : LocalWords → LocalRequest
local_request r = record {
  circuit = string_bytes r.circuit;
  values = string_bytes r.values;
  seed = r.seed.0;
  bristol = option_map bristol_of r.bristol;
  dealer = option_map string_bytes r.dealer;
  workers = r.workers;
}

abbrev pub request_of : CommandWords → Request
request_of (words.Plain r) = plain (plain_request r)
request_of (words.Needs r) = needs (needs_request r)
request_of (words.Deal r) = deal (deal_request r)
request_of (words.Local r) = local (local_request r)

-- What the steps of a command say to one another: what a command said, and how it left the files.
use Rattle.std.specs.Prelude.{ℕ, ◌≡◌, ◌⊎◌, List, take, slice_get, codes, Option, Some, Result, Ok, Err}
use Rattle.mot_base.specs.Files.{Holding}
use Rattle.cli_words.specs.declared.read.WordsError.{WordsError}
use Rattle.cli_words.specs.declared.read.WordsError.TheVariants.{Usage, NoMemory}
use Rattle.text_lines.specs.Text.{Text}
use Rattle.command_ends.specs.Ending.{AreLeft, AreFirst}
use Rattle.command_ends.specs.Outcome.{Outcome, file_refused, usage, memory}

-- A command said this, with some first ones of its files stored: an end of it, or want of memory.
pub record Came (ends : Outcome → Type 0) (files : List (Text × Text)) (before after : Option Holding)
    (said : Outcome) : Type 0 where
  pub stored : List (Text × Text)
  pub torn : Option Text
  pub cause : ends (record said { stored = stored; torn = torn }) ⊎ (said ≡ memory)
  pub some : AreFirst files stored torn
  pub left : AreLeft before after stored torn

-- what comes of words as they were read: what they ask for, or the usage, or want of memory
abbrev pub ReadCame : {W R : Type 0} → (W → R) → (R → Outcome → Type 0) → (R → List (Text × Text)) →
    Option Holding → Option Holding → Result W WordsError → Outcome → Type 0
ReadCame request_of ends files before after (Ok words) said =
    Came (ends (request_of words)) (files (request_of words)) before after said
ReadCame request_of ends files before after (Err Usage) said = (after ≡ before) × (said ≡ usage)
ReadCame request_of ends files before after (Err NoMemory) said = (after ≡ before) × (said ≡ memory)

-- The stores of files stopped at one of them: those before it are stored, and of its name nothing is known.
-- The files failed, which is told by that name, or memory ran out.
pub record IsStopped (rose : Type 0) (files : List (Text × Text)) (before after : Option Holding)
    (said : Outcome) : Type 0 where
  pub at : ℕ
  pub file : Text × Text
  pub there : slice_get files at ≡ Some file
  pub left : AreLeft before after (take at files) (Some file.0)
  pub cause : (rose × (said ≡ file_refused file.0 (codes "fault"))) ⊎ (said ≡ memory)

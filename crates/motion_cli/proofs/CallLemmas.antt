-- A call of the program ends as the words that it was given lead to.
use Rattle.std.proofs.Common.{ℕ, ◌≤◌, List, Result}
use Rattle.std.specs.Prelude.{IfOk, IsErrOf}
use Rattle.std.proofs.lemmas.Result.{IfOk-weaker}
use Rattle.mot_base.specs.Faults.{Rose}
use Rattle.cli_words.specs.Grammar.{Asks}
use Rattle.cli_words.specs.Request.{Request, request_of}
use Rattle.cli_words.specs.declared.words.CommandWords.{CommandWords}
use Rattle.cli_words.specs.declared.read.WordsError.{WordsError}
use Rattle.cli_words.specs.declared.read.WordsError.TheVariants.{Usage}
use Rattle.cli_words.specs.declared.table.Offer.{Offer}
use Rattle.text_lines.specs.Text.{Text}
use Rattle.command_ends.specs.Coming.{ReadCame}
use Rattle.motion_cli.specs.Commands.{RequestEnds, request_files}
use Rattle.command_ends.specs.Ending.{Outside, IsWritten}
use Rattle.command_ends.specs.Outcome.{Outcome}
use Rattle.command_ends.specs.Settled.{EndsWell}
use Rattle.motion_cli.specs.Words.{AreRun, AsksFor}
use Rattle.command_ends.proofs.AnswerLemmas.{ends_well}
use Rattle.command_ends.proofs.ProgramLemmas.{ended_with}
use Rattle.motion_cli.proofs.SettledLemmas.{request_settled}
use Rattle.motion_cli.proofs.WordsLemmas.{none_asked}

-- the words that were read ask for what they were read as, and what came of that was written
pub call_ends_well : (offers : List Offer) (words : List Text) (before after : Outside)
    (read : Result CommandWords WordsError) (said : Outcome) (status : ℕ) → AreRun offers →
    IfOk read (λ w. Asks offers words (request_of w)) →
    (IsErrOf read Usage → (r : Request) → ¬ (Asks offers words r)) →
    ReadCame request_of (RequestEnds before.held (Rose before.file_faults after.file_faults)) request_files before.held
    after.held read said →
    IsWritten before.appended after.appended (Rose before.out_faults after.out_faults) said status →
    before.file_faults ≤ after.file_faults → before.out_faults ≤ after.out_faults →
    EndsWell (AsksFor words) RequestEnds request_files before after status
call_ends_well offers words before after read said status run asked none came written files_rise out_rises =
    let asks = IfOk-weaker read (λ w. Asks offers words (request_of w)) (λ w. AsksFor words (request_of w))
    (λ w a. (offers, run, a)) asked in
    let ended = ended_with request_of (AsksFor words) (RequestEnds before.held (Rose before.file_faults after.file_faults))
    request_files before after read said status asks (λ usage. none_asked offers words run (none usage)) came written in
    ends_well (AsksFor words) RequestEnds request_files (request_settled words) before after status ended files_rise out_rises

use Rattle.std.proofs.lemmas.Result.{IfOk-weaker}
use Rattle.mot_base.specs.Faults.{Rose}
use Rattle.cli_words.specs.Grammar.{texts, Asks}
use Rattle.cli_words.specs.Request.{request_of}
use Rattle.motion_cli.specs.Commands.{RequestEnds, request_files}
use Rattle.command_ends.specs.Ending.{outside}
use Rattle.command_ends.specs.Refusal.{came_to}
use Rattle.motion_cli.specs.Words.{NamesCommand, StoresNothing}
use Rattle.motion_cli.proofs.CallLemmas.{call_ends_well}
use Rattle.command_ends.proofs.ProgramLemmas.{unnamed_is_usage}
use Rattle.motion_cli.proofs.WordsLemmas.{asked_is_named}
use Rattle.motion_cli.proofs.program.motion.Goals as goal

pub returns-clause-ends : goal.returns-clause-ends
returns-clause-ends g c =
    let old = c.args.files.now in
    let new = c.run-outcome.new.files in
    let read = c.read_words-read.ensures in
    call_ends_well c.offers.result.now (texts c.args.words.now)
    (outside (g.F.Files.holds old) (g.F.Files.faults old) (g.S.Sink.appended c.args.out.now) (g.S.Sink.faults c.args.out.now))
    (outside (g.F.Files.holds new) (g.F.Files.faults new) (g.S.Sink.appended c.end.new.out) (g.S.Sink.faults c.end.new.out))
    c.read_words-read.result (came_to c.run-outcome.result) c.end.result c.offers.ensures read.read read.refused
    c.run-outcome.ensures.came c.end.ensures.written c.run-outcome.ensures.never_falls c.end.ensures.never_falls

pub returns-clause-unnamed : goal.returns-clause-unnamed
returns-clause-unnamed g c =
    let old = c.args.files.now in
    let new = c.run-outcome.new.files in
    let words = texts c.args.words.now in
    let named = IfOk-weaker c.read_words-read.result (λ read. Asks c.offers.result.now words (request_of read)) (λ read. NamesCommand words)
    (λ read asks. asked_is_named words (request_of read) (c.offers.result.now, c.offers.ensures, asks)) c.read_words-read.ensures.read in
    unnamed_is_usage request_of (RequestEnds (g.F.Files.holds old) (Rose (g.F.Files.faults old) (g.F.Files.faults new))) request_files (g.F.Files.holds old) (g.F.Files.holds new) c.read_words-read.result (NamesCommand words)
    (g.S.Sink.appended c.args.out.now) (g.S.Sink.appended c.end.new.out) (Rose (g.S.Sink.faults c.args.out.now) (g.S.Sink.faults c.end.new.out))
    (came_to c.run-outcome.result) c.end.result named
    (λ wanting. (c.offers.result.now, c.offers.ensures, c.read_words-read.ensures.no_memory wanting))
    c.run-outcome.ensures.came c.end.ensures.written

pub returns-clause-same : goal.returns-clause-same
returns-clause-same g c = λ none.
    let words = texts c.args.words.now in
    c.run-outcome.ensures.same (IfOk-weaker c.read_words-read.result (λ read. Asks c.offers.result.now words (request_of read))
    (λ read. StoresNothing (request_of read))
    (λ read asks. none (request_of read) (c.offers.result.now, c.offers.ensures, asks)) c.read_words-read.ensures.read)

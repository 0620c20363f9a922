use Rattle.std.proofs.Common.{◌∷◌}
use Rattle.std.proofs.lemmas.Result.{IfOk-weaker}
use Rattle.cli_words.specs.Table.{row}
use Rattle.cli_words.specs.Grammar.{texts, AsksAs}
use Rattle.cli_words.specs.Request.{request_of}
use Rattle.command_ends.specs.Ending.{outside}
use Rattle.command_ends.specs.Refusal.{came_to}
use Rattle.motion_cli.specs.Words.{StoresNothing}
use Rattle.motion_cli.proofs.CallLemmas.{call_ends_well}
use Rattle.motion_cli.proofs.WordsLemmas.{stores_nothing}
use Rattle.motion_cli.proofs.program.call.Goals as goal

pub returns-clause-ends : goal.returns-clause-ends
returns-clause-ends g c =
    let old = c.args.files.now in
    let new = c.run_read-outcome.new.files in
    let read = c.read_behind-read.ensures in
    call_ends_well c.offers.result.now ((row c.args.command).text ∷ texts c.args.words.now)
    (outside (g.F.Files.holds old) (g.F.Files.faults old) (g.S.Sink.appended c.args.out.now) (g.S.Sink.faults c.args.out.now))
    (outside (g.F.Files.holds new) (g.F.Files.faults new) (g.S.Sink.appended c.end.new.out) (g.S.Sink.faults c.end.new.out))
    c.read_behind-read.result (came_to c.run_read-outcome.result) c.end.result c.offers.ensures read.read read.refused
    c.run_read-outcome.ensures.came c.end.ensures.written c.run_read-outcome.ensures.never_falls c.end.ensures.never_falls

pub returns-clause-same : goal.returns-clause-same
returns-clause-same g c = λ other.
    let words = texts c.args.words.now in
    c.run_read-outcome.ensures.same (IfOk-weaker c.read_behind-read.result (λ read. AsksAs c.offers.result.now c.args.command words (request_of read))
    (λ read. StoresNothing (request_of read))
    (λ read asks. stores_nothing c.offers.result.now c.args.command words (request_of read) other asks) c.read_behind-read.ensures.read)

use Rattle.mot_base.specs.Faults.{Rose}
use Rattle.cli_words.specs.Request.{plain_request, needs_request}
use Rattle.motion_cli.specs.Commands.{PlainEnds, NeedsEnds}
use Rattle.command_ends.proofs.ProgramLemmas.{came_unstored}
use Rattle.motion_cli.proofs.program.run_alone.Goals as goal

pub returns-in-Plain-clause-came : goal.returns-in-Plain-clause-came
returns-in-Plain-clause-came g c =
    let old = c.args.files.now in
    let new = c.plain_report.new.files in
    let rose = Rose (g.F.Files.faults old) (g.F.Files.faults new) in
    rw c.in-Plain.is
    (came_unstored (PlainEnds (g.F.Files.holds old) rose (plain_request c.in-Plain.words))
    (g.F.Files.holds old) (g.F.Files.holds new) c.plain_report.result c.plain_report.ensures.same c.plain_report.ensures.came)

pub returns-in-Needs-clause-came : goal.returns-in-Needs-clause-came
returns-in-Needs-clause-came g c =
    let old = c.args.files.now in
    let new = c.needs_report.new.files in
    let rose = Rose (g.F.Files.faults old) (g.F.Files.faults new) in
    rw c.in-Needs.is
    (came_unstored (NeedsEnds (g.F.Files.holds old) rose (needs_request c.in-Needs.words))
    (g.F.Files.holds old) (g.F.Files.holds new) c.needs_report.result c.needs_report.ensures.same c.needs_report.ensures.came)

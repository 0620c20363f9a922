use Rattle.mot_base.specs.Faults.{Rose}
use Rattle.cli_words.specs.Request.{local_request}
use Rattle.motion_cli.specs.Commands.{LocalEnds}
use Rattle.command_ends.proofs.ProgramLemmas.{came_unstored}
use Rattle.motion_cli.proofs.program.run_words.Goals as goal

pub returns-in-Local-clause-came : goal.returns-in-Local-clause-came
returns-in-Local-clause-came g c =
    let old = c.args.files.now in
    let new = c.local_report.new.files in
    let rose = Rose (g.F.Files.faults old) (g.F.Files.faults new) in
    rw c.in-Local.is
    (came_unstored (LocalEnds (g.F.Files.holds old) rose (local_request c.in-Local.words))
    (g.F.Files.holds old) (g.F.Files.holds new) c.local_report.result c.local_report.ensures.same c.local_report.ensures.came)

use Rattle.std.proofs.Common.{◌≤◌, map, take, None}
use Rattle.command_ends.specs.Ending.{AreLeft}
use Rattle.motion_cli.specs.Parts.{part_file}
use Rattle.motion_cli.proofs.deal.store_parts.Given as goal

abbrev pub invariant-loop-part : goal.invariant-loop-part
invariant-loop-part g l =
    AreLeft (g.F.Files.holds l.initial.files) (g.F.Files.holds l.files) (map (part_file l.prefix) (take l.part-index l.parts)) None
    × (g.F.Files.faults l.initial.files ≤ g.F.Files.faults l.files)

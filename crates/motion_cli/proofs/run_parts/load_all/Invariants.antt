use Rattle.std.proofs.Common.{◌≡◌, ◌≤◌, map, take, Some}
use Rattle.motion_cli.specs.Dealer.{part_names}
use Rattle.command_ends.specs.Steps.{AreContents}
use Rattle.motion_cli.proofs.run_parts.load_all.Given as goal

abbrev pub invariant-loop-party : goal.invariant-loop-party
invariant-loop-party g l =
    AreContents (g.F.Files.holds l.initial.files) (take l.party (part_names (Some l.prefix) l.parties)) (map (λ text. text.items) l.texts.items)
    × (g.F.Files.holds l.files ≡ g.F.Files.holds l.initial.files)
    × (g.F.Files.faults l.initial.files ≤ g.F.Files.faults l.files)

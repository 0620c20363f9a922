use Rattle.std.proofs.Common.{map, take}
use Rattle.motion_cli.specs.Dealer.{AreRead}
use Rattle.motion_cli.proofs.run_parts.read_parts.Given as goal

abbrev pub invariant-loop-file : goal.invariant-loop-file
invariant-loop-file l = AreRead l.parties (take l.file-index (map (λ text. text.items) l.files)) l.parts.items

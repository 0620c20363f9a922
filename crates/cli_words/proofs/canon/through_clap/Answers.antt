use Rattle.std.proofs.Common.{◌∙◌}
use Rattle.cli_words.proofs.Clap.{list_taken}
use Rattle.cli_words.proofs.canon.through_clap.Goals as goal

pub unreachable-requires : goal.unreachable-requires
unreachable-requires c =
    let (pieces, fits, words) = c.requires in
    c.in_default.not-OutOfMemory (c.kind.ensures ∙ c.in-Err.ensures.passes (list_taken c.in_ok-command_for.ensures fits words))

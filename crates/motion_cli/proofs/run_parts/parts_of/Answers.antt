use Rattle.std.proofs.Common.{◌≡◌, ◌∙◌, length, ap, arith}
use Rattle.std.specs.Prelude.{option_map}
use Rattle.share_types.proofs.Parties.{length-each}
use Rattle.motion_cli.specs.Dealer.{part_names}
use Rattle.command_ends.specs.Outcome.{part_name}
use Rattle.motion_cli.proofs.run_parts.parts_of.Goals as goal

pub read_parts-requires : goal.read_parts-requires
read_parts-requires c =
    let n = c.args.plan.now.parties in
    let few = c.parties-in-Some.ensures.plan.most_parties in
    let given : length c.args.files.now ≡ n =
    c.requires.files ∙ (ap (λ prefix. length (part_names (option_map (λ text. text.now) prefix) n)) c.in-Some.is
    ∙ length-each n (part_name c.in-Some.prefix.now)) in
    omega (arith, few, given)

use Rattle.std.proofs.Common.{◌≡◌, ◌⊎◌, map, arith, ap, ◌∙◌}
use Rattle.std.specs.Prelude.{option_map}
use Rattle.std.proofs.lemmas.Option.{slice_get-map}
use Rattle.motion_cli.specs.Dealer.{IsDealerFault}
use Rattle.command_ends.specs.Outcome.{memory}
use Rattle.command_ends.specs.Refusal.{outcome_of}
use Rattle.motion_cli.proofs.DealerLemmas.{read_next, faulty_at}
use Rattle.command_ends.proofs.RefusalLemmas.{refused_as}
use Rattle.motion_cli.proofs.run_parts.read_parts.Goals as goal
use Rattle.mot_base.proofs.Lists.{read_at as item_there}

pub returns-in_err-part-clause-err : goal.returns-in_err-part-clause-err
returns-in_err-part-clause-err c =
    let texts = map (λ text. text.items) c.args.files.now in
    let here = item_there c.args.files.now c.loop-file.file-index c.file-item.result (omega arith) c.file-item.is in
    let there = slice_get-map (λ text. text.items) c.args.files.now c.loop-file.file-index ∙ ap (option_map (λ text. text.items)) here in
    let refusal = c.in_err-part.field-0.0 in
    refused_as c.from_residual-in_err-part.result refusal
    (λ refusal. IsDealerFault c.args.prefix.now c.args.parties texts (outcome_of refusal) ⊎ (outcome_of refusal ≡ memory))
    c.from_residual-in_err-part.ensures.1
    (faulty_at c.args.prefix.now c.args.parties texts c.loop-file.parts.items c.loop-file.file-index c.file-item.result.items (outcome_of refusal)
    there c.loop-file.invariant (rw (c.as_slice.ensures.value, c.as_slice-in-loop-file.ensures.value) at c.in_err-part.ensures.err))

pub loop-file-preserved : goal.loop-file-preserved
loop-file-preserved c =
    let texts = map (λ text. text.items) c.args.files.now in
    let here = item_there c.args.files.now c.loop-file.file-index c.file-item.result (omega arith) c.file-item.is in
    let there = slice_get-map (λ text. text.items) c.args.files.now c.loop-file.file-index ∙ ap (option_map (λ text. text.items)) here in
    rw c.in_ok-push.ensures.items
    (read_next c.args.parties texts c.loop-file.parts.items c.loop-file.file-index c.file-item.result.items c.in_ok-part.part there
    c.loop-file.invariant
    (rw c.as_slice-in-loop-file.ensures.value at c.in_ok-part.ensures.read)
    (rw c.as_slice.ensures.value at c.in_ok-part.ensures.same))

use Rattle.std.proofs.Common.{arith}
use Rattle.command_ends.specs.Coming.{IsStopped}
use Rattle.motion_cli.specs.Parts.{part_file}
use Rattle.command_ends.specs.Refusal.{outcome_of}
use Rattle.std.proofs.Common.{map}
use Rattle.mot_base.specs.Faults.{Rose}
use Rattle.command_ends.proofs.StoreLemmas.{stored_next, stopped_at, cause_since}
use Rattle.command_ends.proofs.RefusalLemmas.{refused_as}
use Rattle.motion_cli.proofs.deal.store_parts.Goals as goal
use Rattle.mot_base.proofs.Lists.{read_at as item_there}

pub returns-in_err-store_part-clause-stopped : goal.returns-in_err-store_part-clause-stopped
returns-in_err-store_part-clause-stopped g c =
    let old = c.args.files.now in
    let mid = c.loop-part.files in
    let new = c.store_part.new.files in
    let file = part_file c.args.prefix.now in
    let rose = Rose (g.F.Files.faults old) (g.F.Files.faults new) in
    let refusal = c.in_err-store_part.field-0.0 in
    let cause = cause_since (g.F.Files.faults old) (g.F.Files.faults mid) (g.F.Files.faults new) c.loop-part.invariant.1 c.in_err-store_part.ensures.cause in
    refused_as c.from_residual.result refusal
    (λ refusal. IsStopped rose (map file c.args.parts.now) (g.F.Files.holds old) (g.F.Files.holds new) (outcome_of refusal)) c.from_residual.ensures.1
    (stopped_at file c.args.parts.now c.loop-part.part-index c.part-item.result rose (g.F.Files.holds old) (g.F.Files.holds mid)
    (g.F.Files.holds new) (outcome_of refusal) (item_there c.args.parts.now c.loop-part.part-index c.part-item.result (omega arith) c.part-item.is) c.loop-part.invariant.0 c.in_err-store_part.ensures.torn cause)

pub loop-part-preserved : goal.loop-part-preserved
loop-part-preserved g c =
    let old = c.args.files.now in
    let mid = c.loop-part.files in
    let new = c.store_part.new.files in
    let early = c.loop-part.invariant.1 in
    let late = c.in_ok-store_part.ensures.never_falls in (
      stored_next (part_file c.args.prefix.now) c.args.parts.now c.loop-part.part-index c.part-item.result (g.F.Files.holds old)
          (g.F.Files.holds mid) (g.F.Files.holds new) (item_there c.args.parts.now c.loop-part.part-index c.part-item.result (omega arith) c.part-item.is) c.loop-part.invariant.0 c.in_ok-store_part.ensures.stored,
      omega (arith, early, late),
    )

use Rattle.std.proofs.Common.{◌≡◌, ◌⊎◌, inl, inr, length, refl, sym, ◌∙◌}
use Rattle.dealer_files.specs.declared.fault.DealerError.TheVariants.{NoMemory}
use Rattle.dealer_files.specs.Checks.{IsFirstFault}
use Rattle.command_ends.specs.declared.fault.PartFault.{PartFault}
use Rattle.command_ends.specs.declared.fault.PartFault.TheVariants.{Unread, Differs}
use Rattle.motion_cli.specs.Dealer.{Shows}
use Rattle.command_ends.specs.Outcome.{Outcome, memory, part_name}
use Rattle.command_ends.specs.Refusal.{outcome_of, dealer_refused}
use Rattle.motion_cli.proofs.DealerLemmas.{no_memory_fault}
use Rattle.motion_cli.proofs.run_parts.read_part.Goals as goal

pub returns-in-Err-clause-err : goal.returns-in-Err-clause-err
returns-in-Err-clause-err c = by c.in-Err.ensures.fault
  where
    Told : Outcome → Type 0
    Told end =
        ((fault : PartFault) × Shows c.args.parties c.args.before.now c.args.file.now fault
        × (end ≡ dealer_refused (part_name c.args.prefix.now (length c.args.before.now)) fault))
        ⊎ (end ≡ memory)

    by : (c.in-Err.cause ≡ NoMemory) ⊎ IsFirstFault c.args.file.now c.in-Err.cause → Told (outcome_of c.unread.result)
    by (inl none) = inr (c.unread.ensures.memory none)
    by (inr first) =
        inl (Unread c.in-Err.cause, first, c.unread.ensures.told (no_memory_fault c.args.file.now c.in-Err.cause first))

pub returns-in-Some-clause-err : goal.returns-in-Some-clause-err
returns-in-Some-clause-err c =
    inl (Differs c.in-Some.found, (c.in-Ok.part, (c.in-Ok.ensures.part, c.in-Ok.ensures.numbers), sym c.judge_part.ensures ∙ c.in-Some.is), refl)

pub returns-clause-read : goal.returns-clause-read
returns-clause-read c = (c.in-Ok.ensures.part, c.in-Ok.ensures.numbers)

use Rattle.std.proofs.Common.{refl, inl}
use Rattle.motion_cli.proofs.commands.values_of.Goals as goal

pub returns-in-Err-At-clause-err : goal.returns-in-Err-At-clause-err
returns-in-Err-At-clause-err c =
    let first = rw (c.in-Err-At.field-0-is, c.in_ok-inputs.ensures.value, c.as_slice.ensures.value) at c.in-Err-At.ensures.at in
    inl (record { line = c.in-Err-At.line; cause = c.in-Err-At.cause }, first, refl)

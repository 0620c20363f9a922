use Rattle.std.proofs.Common.{◌<◌, ◌^◌, sym, subst}
use Rattle.joint_run.proofs.Bytes.{fits_bytes}
use Rattle.joint_run.proofs.payload.put_vector.Goals as goal

pub write_uint-requires-clause-fits : goal.write_uint-requires-clause-fits
write_uint-requires-clause-fits c =
    subst (λ n. c.args.vector.word < 256 ^ n) (sym c.byte_count-size.ensures)
    (fits_bytes c.args.vector.width c.args.vector.word c.args.vector.in_width)

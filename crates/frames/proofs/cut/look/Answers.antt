use Rattle.std.proofs.Common.{◌∙◌, sym, arith}
use Rattle.frames.proofs.Heads.{whole, at_front, before_end}
use Rattle.frames.proofs.cut.look.Goals as goal

pub frame_of-requires-clause-some : goal.frame_of-requires-clause-some
frame_of-requires-clause-some c =
    (whole c.frame_length-length.result c.args.bytes.now c.frame_length-length.ensures.is (sym c.fault_at.ensures ∙ c.in_default.is) c.if-bytes-length.false).some

pub frame_of-requires-clause-most : goal.frame_of-requires-clause-most
frame_of-requires-clause-most c =
    (whole c.frame_length-length.result c.args.bytes.now c.frame_length-length.ensures.is (sym c.fault_at.ensures ∙ c.in_default.is) c.if-bytes-length.false).most

pub frame_of-requires-clause-kind : goal.frame_of-requires-clause-kind
frame_of-requires-clause-kind c =
    (whole c.frame_length-length.result c.args.bytes.now c.frame_length-length.ensures.is (sym c.fault_at.ensures ∙ c.in_default.is) c.if-bytes-length.false).kind

pub returns-in-End : goal.returns-in-End
returns-in-End c =
    at_front _ c.frame_length-length.result c.args.bytes.now (λ i. omega (arith, c.type_inv.bytes i)) c.frame_length-length.ensures.is (sym c.fault_at.ensures ∙ c.in_default.is) c.if-bytes-length.false (rw c.in-End.is at c.in_ok-frame.ensures)

pub returns-in_default-2 : goal.returns-in_default-2
returns-in_default-2 c = (
  at_front _ c.frame_length-length.result c.args.bytes.now (λ i. omega (arith, c.type_inv.bytes i)) c.frame_length-length.ensures.is (sym c.fault_at.ensures ∙ c.in_default.is) c.if-bytes-length.false c.in_ok-frame.ensures,
  before_end _ _ c.in_ok-frame.ensures c.in_default-2.not-End,
)

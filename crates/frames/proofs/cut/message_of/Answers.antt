use Rattle.std.proofs.Common.{arith, ◌∙◌}
use Rattle.frames.proofs.Spelling.{message_again, from_place}
use Rattle.frames.proofs.cut.message_of.Goals as goal

pub returns : goal.returns
returns c =
    let gate = rw (from_place 1 c.args.body.now) at c.read_u32.ensures in
    let payload = rw (from_place 6 c.args.body.now) at c.in_ok-payload.ensures.items in
    message_again c.args.body.now _ _ c.requires.least c.requires.most (λ i. omega (arith, c.type_inv.body i)) c.requires.kind gate (c.new.ensures ∙ payload)

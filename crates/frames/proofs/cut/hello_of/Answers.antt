use Rattle.std.proofs.Common.{arith}
use Rattle.frames.proofs.Spelling.{hello_again, from_place}
use Rattle.frames.proofs.cut.hello_of.Goals as goal

pub returns : goal.returns
returns c =
    let id = rw (from_place 5 c.args.body.now) at c.read_u64.ensures in
    let circuit = rw (from_place 13 c.args.body.now) at c.id_of.ensures in
    hello_again c.args.body.now _ _ c.requires.length (λ i. omega (arith, c.type_inv.body i)) c.requires.kind id circuit

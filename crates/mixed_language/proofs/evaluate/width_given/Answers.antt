use Rattle.mixed_language.proofs.EvalLemmas.{wide_there}
use Rattle.mixed_language.proofs.evaluate.width_given.Goals as goal

pub returns-in-Some-clause-most : goal.returns-in-Some-clause-most
returns-in-Some-clause-most c =
    let there = rw c.in-Some.is at c.wire.ensures.value in
    rw c.width.ensures (wide_there c.args.circuit.now.statements c.args.at c.in-Some.wire c.wire.ensures.wide there)

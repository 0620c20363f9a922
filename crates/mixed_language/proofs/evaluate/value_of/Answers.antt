use Rattle.std.specs.Prelude.{slice_get}
use Rattle.mixed_language.specs.Circuit.{shape_of}
use Rattle.mixed_language.proofs.EvalLemmas.{value_here}
use Rattle.mixed_language.proofs.evaluate.value_of.Goals as goal

pub returns : goal.returns
returns c =
    let statements = c.args.circuit.now.statements in
    value_here statements (slice_get statements c.args.at) (shape_of c.form-form.result) c.args.input c.args.before.now
    c.width_given-width.result c.number_made.result c.low_bits.result
    c.form-form.ensures.value c.width_given-width.ensures.value c.width_given-width.ensures.most c.number_made.ensures c.low_bits.ensures

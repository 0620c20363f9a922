use Rattle.mixed_circuit.proofs.TitleLemmas.{too_few, too_many}
use Rattle.mixed_circuit.proofs.read.parties_stated.Goals as goal

pub returns-in_default-clause-value : goal.returns-in_default-clause-value
returns-in_default-clause-value c = too_few c.args.words.now c.in_default.len_below

pub returns-in_default-2-clause-value : goal.returns-in_default-2-clause-value
returns-in_default-2-clause-value c = too_many c.args.words.now c.in_default.len_at_least

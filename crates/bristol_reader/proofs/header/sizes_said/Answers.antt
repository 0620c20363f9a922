use Rattle.bristol_reader.proofs.CappedLemmas.{gives_same, sizes_same}
use Rattle.bristol_reader.proofs.header.sizes_said.Goals as goal

pub returns : goal.returns
returns c = gives_same (λ s. s) c.sizes_kept.result _ _ (sizes_same c.args.ends _) c.sizes_kept.ensures

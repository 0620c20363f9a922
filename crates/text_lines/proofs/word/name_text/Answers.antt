use Rattle.std.proofs.lemmas.Bool.{false≢true}
use Rattle.text_lines.proofs.WordLemmas.{name_ascii}
use Rattle.text_lines.proofs.word.name_text.Goals as goal

pub unreachable-requires : goal.unreachable-requires
unreachable-requires c = false≢true (c.in_default.ensures.found (name_ascii _ c.requires))

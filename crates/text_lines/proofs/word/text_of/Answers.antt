use Rattle.std.proofs.Common.{◌∙◌}
use Rattle.std.proofs.lemmas.Str.{IsUtf8-from_ascii}
use Rattle.text_lines.proofs.WordLemmas.{ok_from_cases}
use Rattle.text_lines.proofs.word.text_of.Goals as goal

pub returns-clause-found : goal.returns-clause-found
returns-clause-found c = λ ascii. c.ok.ensures.variant ∙ ok_from_cases _ _ c.from_utf8.result c.from_utf8.ensures.cases (IsUtf8-from_ascii _ ascii)

use Rattle.std.proofs.Common.{◌≡◌, map, drop}
use Rattle.std.specs.Prelude.{option_map}
use Rattle.bristol_reader.specs.Line.{numbers_of}
use Rattle.bristol_reader.specs.Stored.{capped}
use Rattle.bristol_reader.proofs.NumberLemmas.{behind_first}
use Rattle.bristol_reader.proofs.number.numbers.Given as goal

abbrev pub invariant-loop-word : goal.invariant-loop-word
invariant-loop-word l = behind_first l.found.items (numbers_of (map (λ word. word.now) (drop l.word-index l.words))) ≡ option_map (map capped) (numbers_of (map (λ word. word.now) l.words))

use Rattle.std.proofs.Common.{ℕ, ◌+◌, List, sym, ◌∙◌, ap}
use Rattle.bristol_reader.proofs.NumberLemmas.{behind_first, from_place, behind_none, pushed, stopped, all_pushed}
use Rattle.bristol_reader.proofs.number.numbers.Goals as goal

pub loop-word-init : goal.loop-word-init
loop-word-init c =
    ap (λ (front : List ℕ). behind_first front (from_place c.args.words.now 0)) c.in_ok-found.ensures.items
    ∙ behind_none (from_place c.args.words.now 0)

pub returns-in_default : goal.returns-in_default
returns-in_default c =
    sym (stopped c.args.words.now c.loop-word.word-index _ c.loop-word.found.items c.loop-word-test.true (sym c.in_default.is ∙ c.decimal.ensures))
    ∙ c.loop-word.invariant

pub loop-word-preserved : goal.loop-word-preserved
loop-word-preserved c =
    ap (λ (front : List ℕ). behind_first front (from_place c.args.words.now (c.loop-word.word-index + 1))) c.in_ok-push.ensures.items
    ∙ pushed c.args.words.now c.loop-word.word-index _ c.loop-word.found.items c.in-Some.n c.loop-word-test.true (sym c.in-Some.is ∙ c.decimal.ensures)
    ∙ c.loop-word.invariant

pub returns : goal.returns
returns c =
    sym (all_pushed c.args.words.now c.loop-word.word-index c.loop-word.found.items c.loop-word-test.false)
    ∙ c.loop-word.invariant

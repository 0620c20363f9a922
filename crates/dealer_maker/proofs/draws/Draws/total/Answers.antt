use Rattle.std.proofs.Common.{◌+◌, ◌%◌, ◌^◌, sym, ap₂, ap, ℕ, ◌∙◌, arith}
use Rattle.mot_base.specs.Tape.{long_word_of_tape}
use Rattle.dealer_maker.proofs.Drawing.{total-none, total-more, stands-inside}
use Rattle.dealer_maker.proofs.draws.Draws.total.Goals as goal

pub loop-at-init : goal.loop-at-init
loop-at-init c = (omega arith, sym (total-none c.args.self.now.seed c.args.from c.args.step))

pub long_word-sum-requires : goal.long_word-sum-requires
long_word-sum-requires c =
    let inside = stands-inside c.args.from c.args.step c.loop-at._at c.args.count c.args.self.now.count c.loop-at-test.true c.requires.inside in
    let place = c.loop-at.invariant.0 in
    let step = c.requires.step in
    omega arith

pub overflow_add-place : goal.overflow_add-place
overflow_add-place c =
    let inside = stands-inside c.args.from c.args.step c.loop-at._at c.args.count c.args.self.now.count c.loop-at-test.true c.requires.inside in
    let place = c.loop-at.invariant.0 in
    omega arith

pub loop-at-preserved : goal.loop-at-preserved
loop-at-preserved c =
    let place = c.loop-at.invariant.0 in
    let seed = c.args.self.now.seed in (
      omega arith,
      ap₂ (λ (s w : ℕ). (s + w) % 2 ^ 64) c.loop-at.invariant.1 (c.long_word-sum.ensures ∙ ap (long_word_of_tape seed) place)
          ∙ total-more seed c.args.from c.args.step c.loop-at._at,
    )

use Rattle.std.proofs.Common.{◌∷◌, [], length, length-append, ap, sym, ◌∙◌, arith}
use Rattle.std.proofs.lemmas.List.FromFn.{map-range_with_len_more}
use Rattle.mot_base.specs.Tape.{word_of_tape}
use Rattle.dealer_maker.proofs.draws.Draws.new.Goals as goal

pub loop-at-preserved : goal.loop-at-preserved
loop-at-preserved c =
    let kept = c.loop-at.invariant in
    let moved = c.word.ensures.moved in
    let place = kept.1 in
    let seed = c.args.seed.now.0 in
    let more = map-range_with_len_more (word_of_tape seed) 0 c.loop-at._at c.loop-at._at (omega arith) in (
      ap (λ tape. tape.seed) moved ∙ kept.0,
      ap (λ tape. tape.place) moved ∙ omega arith,
      ap length c.in_ok-push.ensures.items ∙ (length-append c.loop-at.words.items (c.word.result ∷ []) ∙ (let count = kept.2 in omega arith)),
      rw (c.in_ok-push.ensures.items, c.word.ensures.word, kept.0, place, kept.3) (sym more),
    )

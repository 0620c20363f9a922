use Rattle.std.proofs.Common.{◌<◌, length, sym, ◌∙◌, ap, arith}
use Rattle.std.proofs.lemmas.List.{take_more_set, length-set}
use Rattle.std.proofs.lemmas.List.FromFn.{map-range_with_len_more}
use Rattle.mot_base.specs.Tape.{share_of_tape}
use Rattle.mot_base.proofs.tapes.tape_shares.Goals as goal

pub loop-to-preserved : goal.loop-to-preserved
loop-to-preserved c =
    let kept = c.loop-to.invariant in
    let count = kept.2 in
    let inside : c.loop-to.to < length c.loop-to.shares = omega arith in
    let share = share_of_tape c.args.seed.now.0 c.args.session c.args.gate in
    let more = map-range_with_len_more share 0 c.loop-to.to c.loop-to.to (omega arith) in
    let moved = c.long_word.ensures.moved in
    let place = kept.1 in (
      ap (λ tape. tape.seed) moved ∙ kept.0,
      ap (λ tape. tape.place) moved ∙ omega arith,
      length-set c.loop-to.shares c.from.result _ ∙ count,
      rw (c.from.ensures, c.long_word.ensures.word, kept.0, place)
          (take_more_set c.loop-to.shares c.loop-to.to _ inside ∙ rw kept.3 (sym more)),
    )

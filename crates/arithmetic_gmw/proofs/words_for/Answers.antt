use Rattle.std.proofs.Common.{sym, arith}
use Rattle.std.proofs.lemmas.List.FromFn.{map-range_with_len_more, get_or-map-range_with_len}
use Rattle.mot_base.specs.Tape.{share_of_tape}
use Rattle.arithmetic_gmw.specs.Sharing.{word_of}
use Rattle.arithmetic_gmw.proofs.words_for.Goals as goal

pub loop-to-preserved : goal.loop-to-preserved
unfolding word_of
loop-to-preserved c =
    let seed = c.args.seed.now.0 in
    let session = c.args.session in
    let gate = c.args.gate in
    let to = c.loop-to.to in
    let more = map-range_with_len_more (word_of seed session gate c.args.me.0) 0 to to (omega arith) in
    let share = get_or-map-range_with_len (share_of_tape seed session gate) 0 8 to to 0 (omega arith) (omega arith) in
    rw (c.in_ok-push.ensures.items, c.unless_own.ensures, c.from-in-loop-to.ensures, c.tape_shares-tape.ensures, share, c.loop-to.invariant) (sym more)

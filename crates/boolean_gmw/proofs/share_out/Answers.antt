use Rattle.std.proofs.Common.{◌≡◌, ap, ◌∙◌, arith}
use Rattle.mot_base.specs.Tape.{shares_of_tape}
use Rattle.share_types.specs.Sums.{each}
use Rattle.boolean_gmw.specs.Sharing.{low_word, share_given}
use Rattle.boolean_gmw.proofs.Sharing.{recombine_given}
use Rattle.boolean_gmw.proofs.share_out.Goals as goal

pub returns-clause-recombines : goal.returns-clause-recombines
returns-clause-recombines c =
    let x = c.args.x in
    let me = c.args.me.0 in
    let own = c.own_share-own in
    let tape = shares_of_tape c.args.seed.now.0 c.args.session c.args.gate in
    let kept = rw (own.ensures.word, own.ensures.width, c.tape_shares-tape.ensures) at c.loop-to.invariant.0 in
    let to_end = c.loop-to.auto.to-end in
    let past = c.loop-to-test.false in
    let all : c.loop-to.to ≡ c.args.parties = omega arith in
    recombine_given x.word (low_word x.width tape) me c.args.parties _ c.requires.me
    (kept ∙ ap (λ n. each n (share_given x tape me c.args.parties)) all)

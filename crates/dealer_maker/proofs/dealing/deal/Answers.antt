use Rattle.std.proofs.Common.{◌≡◌, map, sym, ap, subst, ◌∙◌, arith}
use Rattle.std.specs.List.{range_with_len}
use Rattle.std.proofs.lemmas.List.FromFn.{map-range_with_len_more}
use Rattle.mot_base.specs.Tape.{long_word_of_tape}
use Rattle.dealer_files.specs.Honest.{HonestTogether}
use Rattle.dealer_maker.specs.Draws.{part_drawn}
use Rattle.dealer_maker.proofs.Honest.{honest}
use Rattle.dealer_maker.proofs.dealing.deal.Goals as goal

pub loop-party-preserved : goal.loop-party-preserved
loop-party-preserved c =
    let drawn = part_drawn c.args.seed.now.0 c.args.parties c.args.counts.now in
    let more = map-range_with_len_more drawn 0 c.loop-party.party c.loop-party.party (omega arith) in
    rw (c.in_ok-push.ensures.items, c.loop-party.invariant, c.in_ok-part.ensures, c.in_ok-draws.ensures) (sym more)

pub returns-clause-honest : goal.returns-clause-honest
returns-clause-honest c =
    let seed = c.args.seed.now.0 in
    let n = c.args.parties in
    let counts = c.args.counts.now in
    let ends = c.loop-party.auto.party-end in
    let done = c.loop-party-test.false in
    let all : c.loop-party.party ≡ n = omega arith in
    let some = c.requires.some in
    subst (λ parts. HonestTogether parts n (long_word_of_tape seed 0) counts)
    (sym (c.loop-party.invariant ∙ ap (λ k. map (part_drawn seed n counts) (range_with_len 0 k)) all))
    (honest seed n counts (omega arith))

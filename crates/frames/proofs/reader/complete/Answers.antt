use Rattle.std.proofs.Common.{rules, ◌∙◌, ap}
use Rattle.frames.specs.Reading.{frame_length}
use Rattle.frames.proofs.Heads.{held_first, held_then}
use Rattle.frames.proofs.reader.complete.Goals as goal

pub returns-then-len-lt4-clause-one : goal.returns-then-len-lt4-clause-one
returns-then-len-lt4-clause-one c =
    held_first c.args.held.now.items c.extend_to.new.held.items c.args.piece.now c.requires c.in_ok-rest.ensures.more c.in_ok-rest.ensures.most

pub returns-clause-one : goal.returns-clause-one
returns-clause-one c =
    let first = held_first c.args.held.now.items c.extend_to.new.held.items c.args.piece.now c.requires c.in_ok-rest.ensures.more c.in_ok-rest.ensures.most in
    let n = c.frame_length-length.ensures.is ∙ ap frame_length c.deref-2.ensures.value in
    let more = rw c.in_ok-try_reserve.ensures.items at c.in_ok-rest-2.ensures.more in
    let most = rw c.in_ok-try_reserve.ensures.items at c.in_ok-rest-2.ensures.most in
    (held_then c.extend_to.new.held.items _ _ _ (search rules) n first more most).1

pub returns-clause-all : goal.returns-clause-all
returns-clause-all c = λ p.
    let first = held_first c.args.held.now.items c.extend_to.new.held.items c.args.piece.now c.requires c.in_ok-rest.ensures.more c.in_ok-rest.ensures.most in
    let n = c.frame_length-length.ensures.is ∙ ap frame_length c.deref-2.ensures.value in
    let more = rw c.in_ok-try_reserve.ensures.items at c.in_ok-rest-2.ensures.more in
    let most = rw c.in_ok-try_reserve.ensures.items at c.in_ok-rest-2.ensures.most in
    let same = (held_then c.extend_to.new.held.items _ _ _ (search rules) n first more most).0 in
    c.in_ok-rest-2.ensures.all (rw same p.lacking)

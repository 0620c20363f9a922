use Rattle.std.proofs.Common.{◌+◌, ◌*◌, sym, ap, ◌∙◌, arith}
use Rattle.dealer_files.proofs.Vectors.{vector-none, vector-step, vector-room, vector-small, vector-whole}
use Rattle.dealer_files.proofs.part.packed.Goals as goal

pub loop-at-init : goal.loop-at-init
loop-at-init c = sym (vector-none c.args.bit c.args.records.now)

pub overflow_mul-word : goal.overflow_mul-word
overflow_mul-word c =
    let room = vector-room c.args.bit c.args.records.now c.loop-at.at c.loop-at.word c.loop-at-test.true c.requires.most c.loop-at.invariant in
    omega arith

pub overflow_add-word : goal.overflow_add-word
overflow_add-word c =
    let room = vector-room c.args.bit c.args.records.now c.loop-at.at c.loop-at.word c.loop-at-test.true c.requires.most c.loop-at.invariant in
    let small = c.bit_of-one.ensures.small in
    omega arith

pub loop-at-preserved : goal.loop-at-preserved
loop-at-preserved c =
    ap (λ n. 2 * c.loop-at.word + n) c.bit_of-one.ensures.bit
    ∙ vector-step c.args.bit c.args.records.now c.loop-at.at c.loop-at.word c.loop-at-test.true c.loop-at.invariant

pub returns-clause-word : goal.returns-clause-word
returns-clause-word c =
    vector-whole c.args.bit c.args.records.now c.loop-at.at c.loop-at.word c.loop-at-test.false c.loop-at.invariant

pub returns-clause-below : goal.returns-clause-below
returns-clause-below c =
    rw (vector-whole c.args.bit c.args.records.now c.loop-at.at c.loop-at.word c.loop-at-test.false c.loop-at.invariant)
    (vector-small c.args.bit c.args.records.now)

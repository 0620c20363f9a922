use Rattle.std.proofs.Common.{◌<◌, length, arith}
use Rattle.cli_words.proofs.CodeSteps.{words_next}
use Rattle.cli_words.proofs.pass.words_of.Goals as goal

pub loop-piece-preserved : goal.loop-piece-preserved
loop-piece-preserved c =
    let within : c.loop-piece.piece-index < length c.args.pieces.now = omega arith in
    words_next c.args.pieces.now c.loop-piece.piece-index _ _ _ within c.loop-piece.invariant c.in_ok-keep_word.ensures

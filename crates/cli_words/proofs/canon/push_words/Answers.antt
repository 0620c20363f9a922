use Rattle.std.proofs.Common.{◌<◌, length, arith}
use Rattle.cli_words.specs.Grammar.{texts}
use Rattle.cli_words.proofs.CodeSteps.{pushed_word}
use Rattle.cli_words.proofs.canon.push_words.Goals as goal

pub loop-word-preserved : goal.loop-word-preserved
loop-word-preserved c =
    let within : c.loop-word.word-index < length c.args.more.now = omega arith in
    pushed_word (texts c.args.words.now.items) c.loop-word.words.items _ _ c.args.more.now c.loop-word.word-index _ within
    c.loop-word.invariant c.in_ok-push.ensures.items c.in_ok-from_str.ensures.ok

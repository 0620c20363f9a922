use Rattle.gate_tasks.proofs.Opened.{words_more}
use Rattle.gate_tasks.proofs.heard.opened_word.Goals as goal

pub loop-payload-preserved : goal.loop-payload-preserved
loop-payload-preserved c =
    words_more c.args.part c.loop-payload.opened c.args.at c.loop-payload.payload-index c.args.payloads.now c.payload-item.result
    c.word_in-opened.result c.loop-payload-test.true c.payload-item.is c.loop-payload.invariant c.word_in-opened.ensures

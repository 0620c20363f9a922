use Rattle.std.proofs.Common.{◌∙◌}
use Rattle.gate_tasks.proofs.Opened.{vectors_more}
use Rattle.gate_tasks.proofs.heard.opened_vector.Goals as goal

pub loop-payload-preserved : goal.loop-payload-preserved
loop-payload-preserved c = (
  c.xor-opened.ensures.width ∙ c.loop-payload.invariant.0,
  c.xor-opened.ensures.word
      ∙ vectors_more c.args.part.width c.args.part.word c.loop-payload.opened.word c.args.at c.loop-payload.payload-index c.args.payloads.now
      c.payload-item.result c.vector_heard.result.word c.loop-payload-test.true c.payload-item.is c.loop-payload.invariant.1 c.vector_heard.ensures.word,
)

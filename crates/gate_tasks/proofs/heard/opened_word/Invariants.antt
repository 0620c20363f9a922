use Rattle.std.proofs.Common.{◌≡◌, take}
use Rattle.gate_tasks.specs.ByValue.{opened_words}
use Rattle.gate_tasks.proofs.heard.opened_word.Given as goal

abbrev pub invariant-loop-payload : goal.invariant-loop-payload
invariant-loop-payload l = l.opened ≡ opened_words l.part l.at (take l.payload-index l.payloads)

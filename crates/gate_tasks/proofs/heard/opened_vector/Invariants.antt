use Rattle.std.proofs.Common.{◌≡◌, take}
use Rattle.gate_tasks.specs.ByValue.{opened_vectors}
use Rattle.gate_tasks.proofs.heard.opened_vector.Given as goal

abbrev pub invariant-loop-payload : goal.invariant-loop-payload
invariant-loop-payload l =
    (l.opened.width ≡ l.part.width)
    × (l.opened.word ≡ opened_vectors l.part.width l.part.word l.at (take l.payload-index l.payloads))

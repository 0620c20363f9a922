use Rattle.std.proofs.Common.{◌≡◌, take}
use Rattle.gate_tasks.proofs.outgoing.Carried.copy.Given as goal

abbrev pub invariant-loop-payload : goal.invariant-loop-payload
invariant-loop-payload l = l.payloads.items ≡ take l.payload-index l.self

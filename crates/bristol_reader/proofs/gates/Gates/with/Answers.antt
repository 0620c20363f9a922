use Rattle.std.proofs.Common.{arith}
use Rattle.bristol_reader.proofs.GateLemmas.{gates_more}
use Rattle.bristol_reader.proofs.gates.Gates.with.Goals as goal

pub returns : goal.returns
returns c = gates_more c.self.inside.wires.items c.push_all.new.row.items c.push_all-2.new.row.items c.args.ins.now c.args.outs.now c.len-at.result c.args.kind c.self.inside.gates.items c.push.new.self.items c.args.self c.self.view_is c.self.invariant (let start = c.len-at.ensures in let count = c.self.inside.wires.ok.0 in omega arith) c.in_ok-push_all.ensures c.in_ok-push_all-2.ensures c.in_ok-push.ensures.items

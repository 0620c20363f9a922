use Rattle.std.proofs.Common.{◌<◌, length, arith}
use Rattle.mixed_circuit.proofs.WriteLemmas.{written_more, written_all}
use Rattle.mixed_circuit.proofs.ReadsBackLemmas.{text_reads_back}
use Rattle.mixed_circuit.proofs.write.write_mixed.Goals as goal

pub loop-at-preserved : goal.loop-at-preserved
loop-at-preserved c =
    let within : c.loop-at.at < length c.args.circuit.now.statements = omega arith in
    written_more c.args.circuit.now c.loop-at.out.items c.push_statement.new.out.items c.loop-at.at within c.loop-at.invariant c.in_ok-push_statement.ensures

pub returns : goal.returns
returns c = let is = written_all c.args.circuit.now c.loop-at.out.items c.loop-at.at (omega arith) c.loop-at.invariant in record {
  written = is;
  reads_back = text_reads_back c.args.circuit.now c.loop-at.out.items c.parties.ensures.circuit is;
}

use Rattle.std.proofs.Common.{◌<◌, length, arith}
use Rattle.bristol_reader.proofs.WriteLemmas.{headers_written, written_more, written_all}
use Rattle.bristol_reader.proofs.ReadsBackLemmas.{text_reads_back}
use Rattle.bristol_reader.proofs.write.write_bristol.Goals as goal

pub loop-at-init : goal.loop-at-init
loop-at-init c = headers_written c.args.circuit.now _ _ _ _ _ _ c.new-out.ensures.items c.in_ok-push_sizes.ensures c.input_widths.ensures.value c.in_ok-push_widths.ensures c.output_widths.ensures.value c.in_ok-push_widths-2.ensures

pub loop-at-preserved : goal.loop-at-preserved
loop-at-preserved c =
    let count = c.len-at-end.ensures.value in
    let below = c.loop-at-test.true in
    let within : c.loop-at.at < length c.args.circuit.now.gates = omega arith in
    written_more c.args.circuit.now c.loop-at.out.items c.push_gate.new.out.items c.loop-at.at within c.loop-at.invariant c.in_ok-push_gate.ensures

pub returns : goal.returns
returns c =
    let count = c.len-at-end.ensures.value in
    let past = c.loop-at-test.false in
    let is = written_all c.args.circuit.now c.loop-at.out.items c.loop-at.at (omega arith) c.loop-at.invariant in
    record {
      written = is;
      reads_back = text_reads_back c.args.circuit.now c.loop-at.out.items c.len-at-end.ensures.circuit is;
    }

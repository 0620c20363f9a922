use Rattle.std.proofs.Common.{◌≡◌, [], length, sym, ◌∙◌, ap, arith}
use Rattle.std.proofs.lemmas.Result.{err_from_is_err_and}
use Rattle.std.proofs.lemmas.List.Splits.{length-slice_split}
use Rattle.text_lines.specs.Text.{lines, is_line_end, without_last_end}
use Rattle.bristol_reader.proofs.ReadLemmas.{read_start, one_more, fault_here, read_ok, read_at}
use Rattle.bristol_reader.proofs.read.read_bristol.Goals as goal

pub unreachable-requires : goal.unreachable-requires
unreachable-requires c =
    let none : lines c.args.bytes.now ≡ [] = sym c.of-lines.ensures.value ∙ c.in_default.ensures.end in
    let some = length-slice_split is_line_end (without_last_end c.args.bytes.now) in
    let count = ap length none in
    omega arith

pub loop-next-init : goal.loop-next-init
loop-next-init c = record {
  read = read_start c.args.bytes.now c.in-Some.first.now c.next_line.new.self (sym c.of-lines.ensures.value ∙ c.in-Some.ensures.next);
  few = (let few = c.of-lines.ensures.few in let size = c.requires in let cut = ap length c.in-Some.ensures.next in omega arith);
}

pub returns-in_err-stage-clause-at : goal.returns-in_err-stage-clause-at
returns-in_err-stage-clause-at c =
    let p = err_from_is_err_and c.from_residual.result c.from_residual.ensures.1 in
    rw (p.1, p.2) (fault_here c.args.bytes.now c.loop-next.stage c.loop-next.before c.loop-next.line.now c.in-Some-next_line.next.now c.next_line-in-loop-next.new.self c.loop-next.lines c.in_err-stage.field-0.0 c.loop-next.invariant.read c.in-Some-next_line.ensures.next c.in_err-stage.ensures)

pub loop-next-preserved : goal.loop-next-preserved
loop-next-preserved c = record {
  read = one_more c.args.bytes.now c.loop-next.stage c.in_ok-stage.stage c.loop-next.before c.loop-next.line.now c.in-Some-next_line.next.now c.next_line-in-loop-next.new.self c.loop-next.lines c.loop-next.invariant.read c.in-Some-next_line.ensures.next c.in_ok-stage.ensures;
  few = (let few = c.loop-next.invariant.few in let cut = ap length c.in-Some-next_line.ensures.next in omega arith);
}

pub returns-clause-ok : goal.returns-clause-ok
returns-clause-ok c = read_ok c.args.bytes.now c.loop-next.stage c.loop-next.before c.loop-next.line.now c.loop-next.lines c.circuit_behind.result c.loop-next.invariant.read c.in_default-next_line.ensures.end c.circuit_behind.ensures

pub returns-clause-at : goal.returns-clause-at
returns-clause-at c = read_at c.args.bytes.now c.loop-next.stage c.loop-next.before c.loop-next.line.now c.loop-next.lines c.circuit_behind.result c.loop-next.invariant.read c.in_default-next_line.ensures.end c.circuit_behind.ensures

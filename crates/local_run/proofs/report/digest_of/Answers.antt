use Rattle.std.proofs.Common.{ℕ, List, take, subst}
use Rattle.sha2.specs.Hashers.{Holds256}
use Rattle.frames.specs.Bytes.{IsSendable, joined}
use Rattle.local_run.specs.declared.item.Load.{Load}
use Rattle.local_run.specs.declared.item.Load.TheVariants.{Wire}
use Rattle.local_run.specs.Report.{frames_of}
use Rattle.local_run.proofs.Lines.{each_sendable, joined_next}
use Rattle.local_run.proofs.report.digest_of.Goals as goal

pub add_frame-requires : goal.add_frame-requires
add_frame-requires c =
    rw c.index-sent-at.is
    (each_sendable IsSendable c.args.loads.now c.args.sent.now c.loop-at.at _ c.index-sent-at.result c.loop-at-test.true c.requires.count
    c.requires.sendable)

pub loop-at-preserved : goal.loop-at-preserved
loop-at-preserved c =
    let none : Load = Wire 0 (record { 0 = 0 }) in
    let before : List ℕ = joined (frames_of (take c.loop-at.at c.args.loads.now) (take c.loop-at.at c.args.sent.now)) in
    let next = joined_next c.args.loads.now c.args.sent.now c.loop-at.at none c.index-sent-at.result c.loop-at-test.true c.requires.count
    c.index-sent-at.is in
    subst (λ (m : List ℕ). Holds256 c.add_frame.new.hasher m) next (c.add_frame.ensures before c.loop-at.invariant)

use Rattle.std.proofs.Common.{◌≡◌, ap, subst, inr}
use Rattle.mot_base.specs.declared.Party.{Party}
use Rattle.peer_streams.specs.declared.run.Run.{Run}
use Rattle.peer_streams.specs.Runs.{place_in, hellos_to, HasHeard}
use Rattle.peer_streams.specs.Taking.{IsAnswer}
use Rattle.party_stages.specs.Following.{Side, heard_of}
use Rattle.party_stages.proofs.Taking.{kept_extends}
use Rattle.party_engine.specs.Run.{run_of, KeepsNone}
use Rattle.party_engine.specs.Saying.{HasTalked, HasTalkedSome}
use Rattle.party_engine.proofs.Kept.{lawful}
use Rattle.party_engine.proofs.Refused.{unsaid, came_whole, all_some}
use Rattle.party_engine.proofs.Reported.{said_can, all_said, is_report}
use Rattle.party_engine.proofs.running.run_served.Goals as goal

pub returns-in-Err-converse-clause-refused : goal.returns-in-Err-converse-clause-refused
returns-in-Err-converse-clause-refused g c = λ before told.
    let b = c.args.brought.now in
    let me : c.brought.inside.own.now.me ≡ b.own.me = ap (λ (s : Side). s.own.me) c.brought.view_is in
    let answer = c.in-Err-converse.ensures.shown before told in
    inr (inr (
      c.in-Ok.talk.inbox.slots,
      c.in-Ok.ensures.slots,
      subst (λ (p : Party). IsAnswer before (g.L.Links.left c.converse.new.links) (g.L.Links.closed c.converse.new.links) (place_in (run_of b c.args.circuit.now) p) (hellos_to (run_of b c.args.circuit.now) p) c.in-Ok.talk.inbox.slots c.in-Err-converse.cause) me
          (subst (λ (r : Run). IsAnswer before (g.L.Links.left c.converse.new.links) (g.L.Links.closed c.converse.new.links) (place_in r c.brought.inside.own.now.me) (hellos_to r c.brought.inside.own.now.me) c.in-Ok.talk.inbox.slots c.in-Err-converse.cause) c.run_of-run.ensures.value answer),
    ))

pub report-requires-clause-can : goal.report-requires-clause-can
report-requires-clause-can g c =
    said_can c.args.brought.now c.converse.new.talk.inbox c.converse.new.talk.stages c.in-Ok-converse.ensures.scene c.in-Ok-converse.ensures.done (heard_of c.converse.new.talk.inbox) (kept_extends c.converse.new.talk.inbox)

pub returns-in-Ok-report-clause-over : goal.returns-in-Ok-report-clause-over
returns-in-Ok-report-clause-over g c = λ before told.
    let b = c.args.brought.now in
    let run = run_of b c.args.circuit.now in
    let inbox = c.converse.new.talk.inbox in
    let scene = c.in-Ok-converse.ensures.scene in
    let done = c.in-Ok-converse.ensures.done in
    let me : c.brought.inside.own.now.me ≡ b.own.me = ap (λ (s : Side). s.own.me) c.brought.view_is in
    let heard : HasHeard before (g.L.Links.left c.converse.new.links) (place_in run b.own.me) run inbox =
    subst (λ (p : Party). HasHeard before (g.L.Links.left c.converse.new.links) (place_in run p) run inbox) me
    (subst (λ (r : Run). HasHeard before (g.L.Links.left c.converse.new.links) (place_in r c.brought.inside.own.now.me) r inbox) c.run_of-run.ensures.value (c.in-Ok-converse.ensures.heard before told)) in
    let others : KeepsNone (place_in run b.own.me) inbox =
    subst (λ (p : Party). KeepsNone (place_in run p) inbox) me
    (subst (λ (r : Run). KeepsNone (place_in r c.brought.inside.own.now.me) inbox) c.run_of-run.ensures.value c.in-Ok-converse.ensures.others) in
    let talked : HasTalked run b.own.me (g.L.Links.sent c.args.links.now) (g.L.Links.sent c.converse.new.links) c.converse.new.talk.stages =
    subst (λ (p : Party). HasTalked run p (g.L.Links.sent c.args.links.now) (g.L.Links.sent c.converse.new.links) c.converse.new.talk.stages) me
    (subst (λ (r : Run). HasTalked r c.brought.inside.own.now.me (g.L.Links.sent c.args.links.now) (g.L.Links.sent c.converse.new.links) c.converse.new.talk.stages) c.run_of-run.ensures.value c.in-Ok-converse.ensures.said) in
    record {
      inbox = inbox;
      slots = scene.slots;
      heard = heard;
      others = others;
      report_is = is_report b inbox c.converse.new.talk.stages scene done (heard_of inbox) (kept_extends inbox) c.in-Ok-report.report c.in-Ok-report.ensures.told c.in-Ok-report.ensures.digest;
      log = talked.log;
      said = all_said b inbox c.converse.new.talk.stages scene done (heard_of inbox) (kept_extends inbox) talked.log talked.each;
      all = talked.all;
    }

pub returns-in-Err-clause-begun : goal.returns-in-Err-clause-begun
returns-in-Err-clause-begun g c = λ before told. unsaid c.args.brought.now (run_of c.args.brought.now c.args.circuit.now) c.args.brought.now.own.me before (g.L.Links.left c.args.links.now) (g.L.Links.sent c.args.links.now) told

pub returns-in-Err-new_buffer-clause-begun : goal.returns-in-Err-new_buffer-clause-begun
returns-in-Err-new_buffer-clause-begun g c = λ before told. unsaid c.args.brought.now (run_of c.args.brought.now c.args.circuit.now) c.args.brought.now.own.me before (g.L.Links.left c.args.links.now) (g.L.Links.sent c.args.links.now) told

pub returns-in-Err-converse-clause-begun : goal.returns-in-Err-converse-clause-begun
returns-in-Err-converse-clause-begun g c = λ before told.
    let b = c.args.brought.now in
    let me : c.brought.inside.own.now.me ≡ b.own.me = ap (λ (s : Side). s.own.me) c.brought.view_is in
    subst (λ (p : Party). HasTalkedSome b (run_of b c.args.circuit.now) p before (g.L.Links.left c.converse.new.links) (g.L.Links.sent c.args.links.now) (g.L.Links.sent c.converse.new.links)) me
    (subst (λ (r : Run). HasTalkedSome b r c.brought.inside.own.now.me before (g.L.Links.left c.converse.new.links) (g.L.Links.sent c.args.links.now) (g.L.Links.sent c.converse.new.links)) c.run_of-run.ensures.value (c.in-Err-converse.ensures.begun before told))

pub returns-clause-begun : goal.returns-clause-begun
returns-clause-begun g c = λ before told.
    let b = c.args.brought.now in
    let run = run_of b c.args.circuit.now in
    let inbox = c.converse.new.talk.inbox in
    let me : c.brought.inside.own.now.me ≡ b.own.me = ap (λ (s : Side). s.own.me) c.brought.view_is in
    let heard : HasHeard before (g.L.Links.left c.converse.new.links) (place_in run b.own.me) run inbox =
    subst (λ (p : Party). HasHeard before (g.L.Links.left c.converse.new.links) (place_in run p) run inbox) me
    (subst (λ (r : Run). HasHeard before (g.L.Links.left c.converse.new.links) (place_in r c.brought.inside.own.now.me) r inbox) c.run_of-run.ensures.value (c.in-Ok-converse.ensures.heard before told)) in
    let talked : HasTalked run b.own.me (g.L.Links.sent c.args.links.now) (g.L.Links.sent c.converse.new.links) c.converse.new.talk.stages =
    subst (λ (p : Party). HasTalked run p (g.L.Links.sent c.args.links.now) (g.L.Links.sent c.converse.new.links) c.converse.new.talk.stages) me
    (subst (λ (r : Run). HasTalked r c.brought.inside.own.now.me (g.L.Links.sent c.args.links.now) (g.L.Links.sent c.converse.new.links) c.converse.new.talk.stages) c.run_of-run.ensures.value c.in-Ok-converse.ensures.said) in
    all_some b run b.own.me before (g.L.Links.left c.converse.new.links) inbox talked.log (g.L.Links.sent c.args.links.now) (g.L.Links.sent c.converse.new.links)
    (came_whole run b.own.me inbox before (g.L.Links.left c.converse.new.links) heard)
    (lawful b inbox c.converse.new.talk.stages c.in-Ok-converse.ensures.scene talked.log talked.each) talked.all

use Rattle.std.proofs.Common.{refl}
use Rattle.std.proofs.Common.{Option, Some, Result, Ok, Err, subst, ◌≡◌}
use Rattle.std.specs.Prelude.{IfOk, OnOk}
use Rattle.std.proofs.lemmas.Result.{IfOk-weaker}
use Rattle.mot_base.specs.Links.{ByParty}
use Rattle.peer_streams.specs.Runs.{place_in}
use Rattle.peer_streams.specs.Sending.{AreSent}
use Rattle.party_stages.specs.Following.{heard_of}
use Rattle.party_engine.specs.Saying.{talk_of}
use Rattle.party_engine.specs.Run.{run_of}
use Rattle.party_engine.proofs.HonestRun.{honest_report, honest_sends}
use Rattle.party_engine.proofs.Sending.{can_send}
use Rattle.party_engine.proofs.SentOn.{sent_honestly}
use Rattle.party_engine.proofs.Refused.{unsaid}
use Rattle.party_engine.proofs.running.run_party.Goals as goal

-- what holds with the value of an Ok
on_ok_if : {T E : Type 0} (r : Result T E) (P : T → Type 0) (Q : Type 0) → ((x : T) → P x → Q) → IfOk r P → OnOk r Q
on_ok_if (Ok x) P Q f p = f x p
on_ok_if (Err e) P Q f p = tt

pub returns-in-Ok-clause-honest : goal.returns-in-Ok-clause-honest
returns-in-Ok-clause-honest g c = λ before owns table told count joint mine honest.
    let b = c.args.brought.now in
    let run = run_of b c.args.circuit.now in
    IfOk-weaker c.run_served.result _ _
    (λ report over. honest_report b run refl c.requires.asked.plan c.requires.asked.unkeyed before (g.L.Links.left c.run_served.new.links) (g.L.Links.sent c.args.links.now) (g.L.Links.sent c.run_served.new.links) report over owns table count joint honest mine)
    (c.run_served.ensures.over before told)

pub returns-in-Err-clause-begun : goal.returns-in-Err-clause-begun
returns-in-Err-clause-begun g c = λ before told. unsaid c.args.brought.now (run_of c.args.brought.now c.args.circuit.now) c.args.brought.now.own.me before (g.L.Links.left c.args.links.now) (g.L.Links.sent c.args.links.now) told

pub returns-in-Ok-clause-onward : goal.returns-in-Ok-clause-onward
returns-in-Ok-clause-onward g c = λ before sent owns table told said count joint mine honest.
    let b = c.args.brought.now in
    let run = run_of b c.args.circuit.now in
    let now = g.L.Links.sent c.run_served.new.links in
    on_ok_if c.run_served.result _ _
    (λ report over.
    let got = heard_of over.inbox in
    let all = subst (λ (o : Option ByParty). AreSent o now (talk_of run b.own.me over.log)) said over.all in
    sent_honestly b run table got over.log over.said c.requires.asked.plan
    (honest_sends b run refl c.requires.asked.plan c.requires.asked.unkeyed before (g.L.Links.left c.run_served.new.links) (g.L.Links.sent c.args.links.now) now report over owns table count joint honest mine)
    (λ gate round to some. can_send b c.requires.asked.plan c.requires.asked.unkeyed (place_in run b.own.me) got gate round to refl refl some)
    refl c.run_served.ensures.numbers.0 c.run_served.ensures.numbers.1 sent now all)
    (c.run_served.ensures.over before told)

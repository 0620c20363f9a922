-- A party that hears a joint run is the run's party.
use Rattle.std.proofs.Common.{ℕ, ◌≡◌, List, length, Option, Some, None, refl, sym, ◌∙◌, ap}
use Rattle.std.proofs.Math.Path.{fun_ext}
use Rattle.std.proofs.lemmas.List.{nil_from_length}
use Rattle.plan_gates.specs.Plan.{Gates}
use Rattle.plan_gates.specs.declared.message.Message.{Message}
use Rattle.plan_gates.specs.Messages.{message}
use Rattle.joint_run.specs.Party.{Own, Inbox, party_value, party_sends}
use Rattle.joint_run.specs.Joint.{Payloads, column, sent_by, IsJoint}
use Rattle.joint_run.specs.Laws.{length_of, Hears, APartyFollows}
use Rattle.joint_run.proofs.Lengths.{payloads_have_their_lengths}

module _ (plan : Gates) (owns : List Own) (table : Payloads) (count : length owns ≡ plan.parties) (joint : IsJoint plan owns table)
    (p : ℕ) (inbox : Inbox) (hears : Hears plan table p inbox) where
  heard : (g r from : ℕ) (o : Option Message) → message plan from p g r ≡ o → inbox g r from ≡ table g r from p
  heard g r from (Some m) is = hears.stated g r from m is
  heard g r from None is =
      hears.none g r from is
      ∙ sym (nil_from_length (table g r from p) (payloads_have_their_lengths plan owns table count joint g r from p ∙ ap length_of is))

  inbox_is : inbox ≡ column table p
  inbox_is = fun_ext (λ g. fun_ext (λ r. fun_ext (λ from. heard g r from (message plan from p g r) refl)))

pub a_party_follows : APartyFollows
a_party_follows plan owns table count joint p own inbox there hears =
    let is : inbox ≡ column table p = inbox_is plan owns table count joint p inbox hears in (
      (λ g. ap (λ (i : Inbox). party_value plan p own i g) is),
      (λ g r to.
          ap (λ (i : Inbox). party_sends plan p own i g r to) is
          ∙ sym (joint g r p to ∙ ap (λ (o : Option Own). sent_by plan p o (column table p) g r to) there)),
    )

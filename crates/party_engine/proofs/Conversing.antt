-- A whole conversation: what was said of it, one piece behind another, and what was heard.
use Rattle.std.proofs.Common.{ℕ, ◌≡◌, false, List, [], ◌++◌, append-nil, append_assoc, Option, Some, None, refl, sym, ap, ◌∙◌, inl, inr, arith}
use Rattle.std.specs.FinMap as map
use Rattle.std.specs.FinMap.{get-empty}
use Rattle.std.proofs.lemmas.Bool.{cases_lt}
use Rattle.std.proofs.lemmas.Option.{get_or_from_slice_get}
use Rattle.mot_base.specs.Links.{ByParty, IsKept}
use Rattle.mot_base.specs.declared.Party.{Party}
use Rattle.share_types.specs.Sums.{each}
use Rattle.share_types.proofs.Parties.{length-each}
use Rattle.message_demux.specs.declared.slots.Slot.{Slot}
use Rattle.message_demux.specs.Slots.{slot_cmp}
use Rattle.message_demux.specs.Kept.{InboxContents}
use Rattle.message_demux.specs.Inbox.{empty_inbox}
use Rattle.plan_gates.proofs.NeedsLemmas.{slice_get-each}
use Rattle.gate_tasks.specs.declared.outgoing.Out.{Out}
use Rattle.peer_streams.specs.declared.run.Run.{Run}
use Rattle.peer_streams.specs.Runs.{place_in, fresh_peers, hellos_from, ends_for}
use Rattle.peer_streams.specs.Sending.{AreSent, bytes_for}
use Rattle.peer_streams.specs.Taking.{HasTaken, HaveRead}
use Rattle.peer_streams.proofs.Exchanged.{fresh-taken}
use Rattle.peer_streams.proofs.Sent.{sent-ahead}
use Rattle.party_stages.specs.Following.{Progress, no_progress, said_at}
use Rattle.party_engine.specs.Saying.{bytes_of, talk_of, HasSaid, HasTalked}
use Rattle.party_engine.proofs.Reported.{nothing_past}

-- ---- at first

abbrev nothing : ℕ → List Out
nothing g = []

none_said : (n g : ℕ) → [] ≡ said_at (each n nothing) g
none_said n g = elim (cases_lt g n) [
  | inl inside ↦ sym (get_or_from_slice_get (each n nothing) g [] [] (slice_get-each n nothing g inside))
  | inr past ↦ (let long = length-each n nothing in sym (nothing_past (each n nothing) g (omega (arith, long, past))))
]

sent_none : (now : Option ByParty) → AreSent now now (bytes_of [])
sent_none None = tt
sent_none (Some now) = λ q. sym (append-nil (now q))

pub first_said : (now : Option ByParty) (n : ℕ) → HasSaid now now (no_progress n)
first_said now n = record { log = []; sent = sent_none now; each = none_said n }

pub none_at_first : (inbox : InboxContents) → inbox ≡ empty_inbox inbox.slots → (slot : Slot) → map.get inbox.kept slot ≡ None
none_at_first inbox fresh slot = ap (λ (i : InboxContents). map.get i.kept slot) fresh ∙ get-empty slot_cmp slot

pub first_read : (run : Run) (me : Party) (inbox : InboxContents) → inbox ≡ empty_inbox inbox.slots → HaveRead (place_in run me) inbox (fresh_peers run me)
first_read run me inbox fresh q peer is there =
    let far : HasTaken (λ q. []) (Some (λ q. [])) (place_in run me) inbox (fresh_peers run me) = fresh-taken run me (λ q. []) (Some (λ q. [])) (λ q. false) (λ q. refl) inbox fresh (λ q. refl) in
    (far.taken q, far.read q peer is there)

-- ---- one piece behind another

sent-then : (before now next : Option ByParty) (x y : ByParty) → AreSent before now x → AreSent now next y → AreSent before next (λ q. x q ++ y q)
sent-then None now next x y sent more = tt
sent-then (Some before) None next x y sent more = absurd sent
sent-then (Some before) (Some now) None x y sent more = absurd more
sent-then (Some before) (Some now) (Some next) x y sent more = λ q.
    more q ∙ ap (λ xs. xs ++ y q) (sent q) ∙ append_assoc (before q) (x q) (y q)

pub talked : (run : Run) (me : Party) (first greeted said ended read finished : Option ByParty) (p : Progress) →
    AreSent first greeted (bytes_for me.0 (hellos_from run me)) → HasSaid greeted said p → AreSent said ended (bytes_for me.0 (ends_for run)) →
    IsKept ended read → IsKept read finished → HasTalked run me first finished p
talked run me first greeted said ended read finished p hellos log ends kept still = record {
  log = log.log;
  all = sent-ahead first read finished (talk_of run me log.log)
      (sent-ahead first ended read (talk_of run me log.log)
      (sent-then first greeted ended (bytes_for me.0 (hellos_from run me)) (λ q. bytes_of log.log q ++ bytes_for me.0 (ends_for run) q) hellos
      (sent-then greeted said ended (bytes_of log.log) (bytes_for me.0 (ends_for run)) log.sent ends)) kept) still;
  each = log.each;
}

-- What is heard between the stages, and what it changes.
use Rattle.std.proofs.Common.{ℕ, zero, suc, ◌≡◌, ◌≢◌, ◌<◌, ◌+◌, eqb, Bool, true, cond, List, Option, Some, None, refl, sym, ap, ap₂, subst, ◌∙◌, arith}
use Rattle.std.specs.Prelude.{slice_get, is_some, option_map}
use Rattle.std.specs.FinMap as map
use Rattle.std.proofs.lemmas.Bool.{eqb-false, ltb-true}
use Rattle.mot_base.specs.Links.{ByParty, IsPeer, IsKept, IsSame}
use Rattle.mot_base.specs.declared.Party.{Party}
use Rattle.mot_base.specs.declared.links.Place.{Place}
use Rattle.mot_base.proofs.Lists.{both_true as both, not_true, some_at}
use Rattle.frames.specs.Reading.{has_ended}
use Rattle.message_demux.specs.declared.slots.SlotSpec.{SlotSpec}
use Rattle.message_demux.specs.Kept.{InboxContents}
use Rattle.message_demux.specs.Slots.{listed}
use Rattle.plan_gates.specs.declared.message.Message.{Message}
use Rattle.plan_gates.specs.Messages.{message, are_two, spec_of, AreSlotsTo}
use Rattle.joint_run.specs.Party.{Payload, Inbox}
use Rattle.gate_tasks.specs.Task.{slot_from}
use Rattle.gate_tasks.proofs.Giving.{two_of}
use Rattle.peer_streams.specs.Reading.{PeerRead, StillKeeps}
use Rattle.peer_streams.specs.Sending.{AreBegun}
use Rattle.peer_streams.specs.Taking.{ArePeers, HasTaken, HaveRead, open_left, events_left}
use Rattle.peer_streams.proofs.Full.{came}
use Rattle.peer_streams.proofs.Sent.{sent-ahead}
use Rattle.peer_streams.proofs.Taken.{taken-kept}
use Rattle.party_stages.specs.Following.{Side, me_of, Extends, Progress}
use Rattle.party_stages.specs.Scene.{IsScene}
use Rattle.party_engine.specs.Rest.{HasCome}
use Rattle.party_engine.specs.Saying.{bytes_of, IsPlaceOf, HasSaid, HasBegun}

-- ---- an inbox that keeps more

pub still_extends : (inbox more : InboxContents) (got : Inbox) → StillKeeps inbox more → Extends more got → Extends inbox got
still_extends inbox more got still extends g round from payload kept =
    extends g round from payload (still (slot_from g round from) payload kept)

pub still_scene : (b : Side) (inbox more : InboxContents) (p : Progress) → IsScene b inbox p → more.slots ≡ inbox.slots → StillKeeps inbox more → IsScene b more p
still_scene b inbox more p scene slots still = record {
  plan = scene.plan;
  unkeyed = scene.unkeyed;
  inside = scene.inside;
  serves = scene.serves;
  slots = subst (λ (specs : List SlotSpec). AreSlotsTo b.plan (me_of b) specs) (sym slots) scene.slots;
  progress = scene.progress;
  follows = λ got extends. scene.follows got (still_extends inbox more got still extends);
}

-- ---- the same links

pub has_kept : (before : ByParty) (told now : Option ByParty) (place : Place) (inbox : InboxContents) (peers : List PeerRead) → HasTaken before told place inbox peers → IsKept told now → HasTaken before now place inbox peers
has_kept before told now place inbox peers far kept = record { taken = far.taken; are_taken = taken-kept before told now far.taken far.are_taken kept; read = far.read }

pub said_kept : (before now later : Option ByParty) (p : Progress) → HasSaid before now p → IsKept now later → HasSaid before later p
said_kept before now later p said kept = record { log = said.log; sent = sent-ahead before now later (bytes_of said.log) said.sent kept; each = said.each }

begun-ahead : (before now later : Option ByParty) (x : ByParty) → AreBegun before now x → IsKept now later → AreBegun before later x
begun-ahead None now later x begun kept = tt
begun-ahead (Some before) None later x begun kept = absurd begun
begun-ahead (Some before) (Some now) None x begun kept = absurd kept
begun-ahead (Some before) (Some now) (Some later) x begun kept = λ q. (let one = begun q in (one.0, kept q ∙ one.1))

pub begun_kept : (b : Side) (inbox : InboxContents) (before now later : Option ByParty) → HasBegun b inbox before now → IsKept now later → HasBegun b inbox before later
begun_kept b inbox before now later begun kept = record { log = begun.log; lawful = begun.lawful; sent = begun-ahead before now later (bytes_of begun.log) begun.sent kept }

open_same : (n : ℕ) (before after : ℕ → Bool) → IsSame before after → open_left n after ≡ open_left n before
open_same zero before after same = refl
open_same (suc n) before after same =
    ap₂ (λ x y. x + y) (open_same n before after same) (ap (λ (c : Bool). cond c 0 1) (same n))

pub events_same : (place : Place) (before after : ℕ → Bool) (peers : List PeerRead) → IsSame before after → events_left place after peers ≡ events_left place before peers
events_same place before after peers same =
    let left = open_same place.parties before after same in omega (arith, left)

pub peers_same : (place : Place) (before after : ℕ → Bool) (peers : List PeerRead) → IsSame before after → ArePeers place before peers → ArePeers place after peers
peers_same place before after peers same are = record {
  count = are.count;
  in_order = are.in_order;
  ended = λ q peer there closed. are.ended q peer there (sym (same q) ∙ closed);
  room = are.room;
}

-- ---- all messages came

abbrev party_of : ℕ → Party
party_of n = record { 0 = n }

abbrev same_party : Party → Party → Type 0
same_party p q = p ≡ q

module _ (b : Side) (place : Place) (here : IsPlaceOf b place) (inbox : InboxContents) (p : Progress) (scene : IsScene b inbox p) (closed : ℕ → Bool) (peers : List PeerRead) (are : ArePeers place closed peers) (read : HaveRead place inbox peers)
    (ended : (q : ℕ) (peer : PeerRead) → q ≢ place.me.0 → slice_get peers q ≡ Some peer → has_ended peer.progress ≡ true) where
  come_from : (g round from : ℕ) (m : Message) → message b.plan from (me_of b) g round ≡ Some m → is_some (message b.plan from (me_of b) g round) ≡ true → (payload : Payload) × (map.get inbox.kept (slot_from g round from) ≡ Some payload)
  come_from g round from m there some =
      let two = both _ _ (two_of (are_two b.plan.parties from (me_of b)) _ some) in
      let inside : from < b.plan.parties = ltb-true from b.plan.parties (both _ _ two.0).0 in
      let other : from ≢ place.me.0 = λ same. eqb-false from (me_of b) (not_true (eqb from (me_of b)) two.1) (same ∙ here.me) in
      let one = some_at peers from (omega (arith, inside, are.count, here.parties)) in
      let is_peer : IsPeer (Some place) from = (omega (arith, inside, here.parties), other) in
      let bytes = read from one.0 is_peer one.1 in
      let who : same_party (record { 0 = from }) one.0.expected.from = ap party_of (sym (are.in_order from one.0 one.1)) in
      let listed_is : listed inbox.slots (slot_from g round from) ≡ Some (spec_of from g round m) = scene.slots.each from g round ∙ ap (option_map (spec_of from g round)) there in
      came inbox bytes.0 one.0 (slot_from g round from) (spec_of from g round m) bytes.1 (ended from one.0 other one.1) listed_is who

  pub has_come : HasCome b inbox
  has_come g round from m there none =
      let found = come_from g round from m there (ap is_some there) in
      absurd (let clash : Some found.0 ≡ None = sym found.1 ∙ none in cc)

-- What a run that was refused has heard and sent.
use Rattle.std.proofs.Common.{◌≡◌, ◌∙◌, ℕ, ◌<◌, Bool, false, List, [], ◌++◌, append-nil, length, take, Option, Some, None, refl, sym, ap, subst, arith}
use Rattle.std.specs.Prelude.{slice_get}
use Rattle.mot_base.specs.Links.{ByParty, IsPeer, IsKept}
use Rattle.mot_base.specs.declared.Party.{Party}
use Rattle.mot_base.specs.declared.links.Place.{Place}
use Rattle.mot_base.proofs.Lists.{some_at}
use Rattle.frames.specs.Reading.{Progress as ReadSoFar, Reads, Ended}
use Rattle.frames.specs.declared.frame.Frame.{Frame}
use Rattle.message_demux.specs.Inbox.{empty_inbox}
use Rattle.message_demux.specs.Kept.{InboxContents}
use Rattle.gate_tasks.specs.declared.outgoing.Out.{Out}
use Rattle.peer_streams.specs.declared.run.Run.{Run}
use Rattle.peer_streams.specs.Reading.{PeerRead, KeepsOf}
use Rattle.peer_streams.specs.Runs.{party, place_in, hellos_from, ends_for, HasHeard}
use Rattle.peer_streams.specs.Sending.{AreSent, AreBegun, bytes_for}
use Rattle.peer_streams.specs.Taking.{IsLeftOf, ArePeers, HasTaken}
use Rattle.peer_streams.proofs.Exchanged.{fresh-taken, fresh-are}
use Rattle.peer_streams.proofs.Left.{left-same, taken-then}
use Rattle.peer_streams.proofs.Sent.{begun-first, begun-then, begun-all}
use Rattle.party_stages.specs.Following.{Side}
use Rattle.party_engine.specs.Saying.{bytes_of, talk_of, IsLawful, HasBegun, CameIn, HasSaidSome, HasTalkedSome}

-- ---- what came

abbrev of_number : ℕ → Party
of_number n = record { 0 = n }

pub came_so : (place : Place) (closed : ℕ → Bool) (inbox : InboxContents) (peers : List PeerRead) (before : ByParty) (at now : Option ByParty) →
    ArePeers place closed peers → HasTaken before at place inbox peers → IsLeftOf at now → CameIn before now place inbox
came_so place closed inbox peers before at now are far on = record {
  first = far.taken;
  behind = (taken-then before at now far.taken far.are_taken on).0;
  are_taken = (taken-then before at now far.taken far.are_taken on).1;
  each = λ q is.
      let inside = is.0 in
      let one = some_at peers q (omega (arith, inside, are.count)) in
      let read = far.read q one.0 is one.1 in
      let who : one.0.expected.from ≡ party q = ap of_number (are.in_order q one.0 one.1) in
      (read.frames, one.0.progress, read.reads, subst (λ (p : Party). KeepsOf inbox p read.frames) who read.keeps);
}

-- nothing did
pub came_none : (run : Run) (me : Party) (inbox : InboxContents) (before : ByParty) (now : Option ByParty) → inbox ≡ empty_inbox inbox.slots → IsKept (Some before) now → CameIn before now (place_in run me) inbox
came_none run me inbox before now fresh kept =
    came_so (place_in run me) (λ q. false) inbox _ before now now
    (fresh-are run me (λ q. []) now (λ q. false) (λ q. refl))
    (fresh-taken run me before now (λ q. false) (λ q. refl) inbox fresh kept) (left-same now)

-- all did
pub came_whole : (run : Run) (me : Party) (inbox : InboxContents) (before : ByParty) (now : Option ByParty) → HasHeard before now (place_in run me) run inbox → CameIn before now (place_in run me) inbox
came_whole run me inbox before now heard = record {
  first = heard.taken;
  behind = λ q. [];
  are_taken = (heard.are_taken.0, heard.are_taken.1, λ q. heard.are_taken.2 q ∙ ap (λ xs. xs ++ heard.are_taken.0 q) (sym (append-nil (heard.taken q))));
  each = λ q is. (let ends = heard.each q is in (ends.frames, Ended, ends.reads, ends.keeps));
}

-- ---- what was sent

pub none_begun : (before now : Option ByParty) (x : ByParty) → IsKept before now → AreBegun before now x
none_begun None now x kept = tt
none_begun (Some before) None x kept = absurd kept
none_begun (Some before) (Some now) x kept = λ q. (0, kept q ∙ sym (append-nil (before q)))

pub said_some : (b : Side) (place : Place) (inbox : InboxContents) (before : ByParty) (told sent now : Option ByParty) → CameIn before told place inbox → HasBegun b inbox sent now → HasSaidSome b place before told sent now
said_some b place inbox before told sent now came begun = record { inbox = inbox; came = came; log = begun.log; lawful = begun.lawful; sent_is = begun.sent }

module _ (b : Side) (run : Run) (me : Party) (before : ByParty) (told : Option ByParty) where
  abbrev hellos : ByParty
  hellos = bytes_for me.0 (hellos_from run me)

  abbrev ends : ByParty
  ends = bytes_for me.0 (ends_for run)

  -- not more than Hello
  pub hello_some : (inbox : InboxContents) (sent now : Option ByParty) → CameIn before told (place_in run me) inbox → AreBegun sent now hellos → HasTalkedSome b run me before told sent now
  hello_some inbox sent now came begun = record {
    inbox = inbox;
    came = came;
    log = [];
    lawful = λ g. (0, omega arith, λ got extends. refl);
    sent_is = begun-first sent now hellos (λ q. bytes_of [] q ++ ends q) begun;
  }

  -- Hello, and some messages
  pub talked_some : (sent greeted now : Option ByParty) → AreSent sent greeted hellos → HasSaidSome b (place_in run me) before told greeted now → HasTalkedSome b run me before told sent now
  talked_some sent greeted now all some = record {
    inbox = some.inbox;
    came = some.came;
    log = some.log;
    lawful = some.lawful;
    sent_is = begun-then sent greeted now hellos (λ q. bytes_of some.log q ++ ends q) all (begun-first greeted now (bytes_of some.log) ends some.sent_is);
  }

  -- Hello, all messages, and some of End
  pub ended_some : (inbox : InboxContents) (log : List Out) (sent greeted said now : Option ByParty) → CameIn before told (place_in run me) inbox → IsLawful b inbox log →
      AreSent sent greeted hellos → AreSent greeted said (bytes_of log) → AreBegun said now ends → HasTalkedSome b run me before told sent now
  ended_some inbox log sent greeted said now came lawful first then begun = record {
    inbox = inbox;
    came = came;
    log = log;
    lawful = lawful;
    sent_is = begun-then sent greeted now hellos (λ q. bytes_of log q ++ ends q) first (begun-then greeted said now (bytes_of log) ends then begun);
  }

  -- all
  pub all_some : (inbox : InboxContents) (log : List Out) (sent now : Option ByParty) → CameIn before told (place_in run me) inbox → IsLawful b inbox log →
      AreSent sent now (talk_of run me log) → HasTalkedSome b run me before told sent now
  all_some inbox log sent now came lawful all = record { inbox = inbox; came = came; log = log; lawful = lawful; sent_is = begun-all sent now (talk_of run me log) all }

-- nothing, where nothing was asked of the links
kept_same : (told : Option ByParty) → IsKept told told
kept_same None = tt
kept_same (Some told) = λ q. refl

pub unsaid : (b : Side) (run : Run) (me : Party) (before : ByParty) (told sent : Option ByParty) → told ≡ Some before → HasTalkedSome b run me before told sent sent
unsaid b run me before told sent is =
    let came : CameIn before told (place_in run me) (empty_inbox []) = came_none run me (empty_inbox []) before told refl (subst (λ (t : Option ByParty). IsKept (Some before) t) (sym is) (kept_same (Some before))) in
    hello_some b run me before told (empty_inbox []) sent sent came (none_begun sent sent (bytes_for me.0 (hellos_from run me)) (kept_same sent))

-- What is answered where all peers are honest.
use Rattle.std.proofs.Common.{◌≡◌, inl, inr, ℕ, ◌&&◌, Bool, true, false, cond, not, List, length, refl, sym, ap, subst, ◌∙◌, Option, Some, None}
use Rattle.mot_base.specs.Links.{ByParty}
use Rattle.mot_base.specs.declared.Party.{Party}
use Rattle.mot_base.specs.declared.links.Place.{Place}
use Rattle.frames.specs.Reading.{Ended, Reads, has_ended}
use Rattle.frames.specs.declared.frame.Hello as hello
use Rattle.frames.proofs.Unique.{unique}
use Rattle.message_demux.specs.declared.slots.SlotSpec.{SlotSpec}
use Rattle.peer_streams.specs.declared.error.PartyError.{PartyError}
use Rattle.peer_streams.specs.declared.error.PartyError.TheVariants as cause
use Rattle.peer_streams.specs.Reading.{cause_read}
use Rattle.peer_streams.specs.Streams.{ToSend, IsHonestStream, AreExpected, HonestPeersShowNothing}
use Rattle.peer_streams.specs.Taking.{IsShown}
use Rattle.peer_streams.proofs.Honest.{ends, shows-first}

-- a peer that shows a cause, and whose bytes do not, closed before its End
early : (from : Party) (closed ended : Bool) (shown : PartyError) → cond (closed && not ended) (Some (cause.PeerClosed from)) None ≡ Some shown → (shown ≡ cause.PeerClosed from) × (ended ≡ false)
early from true true shown is = absurd (let clash : None ≡ Some shown = is in cc)
early from true false shown is = let same : Some (cause.PeerClosed from) ≡ Some shown = is in (cc, refl)
early from false ended shown is = absurd (let clash : None ≡ Some shown = is in cc)

module _ (before : ByParty) (told : Option ByParty) (closed : ℕ → Bool) (place : Place) (hellos : List hello.Hello) (sends : ℕ → ToSend) (slots : List SlotSpec) where
  -- no peer shows a cause
  refuted : (answer : PartyError) (one : IsShown before told closed place hellos slots answer) → IsHonestStream one.expected (sends one.q) (before one.q) → AreExpected one.expected (sends one.q) slots → ⊥
  refuted answer one stream are =
      let count = length (one.taken one.q) in
      let nothing : cause_read one.expected slots one.shows.0 one.shows.1 count ≡ None = shows-first one.expected (sends one.q) slots (before one.q) stream are (one.taken one.q) (one.are_taken.0 one.q) (cause_read one.expected slots one.shows.0 one.shows.1 count) (one.are_taken.2 one.q) (one.shows.0, one.shows.1, one.shows.2, refl) in
      let rest : cond (closed one.q && not (has_ended one.shows.1)) (Some (cause.PeerClosed one.expected.from)) None ≡ Some answer = rw nothing at one.shows.3 in
      let is = early one.expected.from (closed one.q) (has_ended one.shows.1) answer rest in
      let all = ends one.expected (sends one.q) slots (before one.q) stream are in
      let reads : Reads (before one.q) one.shows.0 one.shows.1 = subst (λ bytes. Reads bytes one.shows.0 one.shows.1) (one.whole one.expected.from is.0) one.shows.2 in
      let same = unique (before one.q) one.shows.0 all.0 one.shows.1 Ended reads all.1 in
      let clash : has_ended Ended ≡ false = sym (ap has_ended same.1) ∙ is.1 in
      cc

pub honest : HonestPeersShowNothing
honest before told closed place hellos sends slots answer streams (inl memory) = rw memory tt
honest before told closed place hellos sends slots answer streams (inr (inl none)) = rw none.0 tt
honest before told closed place hellos sends slots answer streams (inr (inr one)) =
    let are = streams one.q one.expected one.is_peer one.there in
    absurd (refuted before told closed place hellos sends slots answer one are.0 are.1)

-- What an event of links leaves of what was taken.
use Rattle.std.proofs.Common.{◌≡◌, ◌≢◌, ℕ, ◌<◌, eqb, eq-eqb, ◌&&◌, Bool, true, false, cond, not, List, [], ◌++◌, append_assoc, set, refl, sym, ap, subst, ◌∙◌, Option, Some, None}
use Rattle.std.specs.FinMap as m
use Rattle.std.specs.List.{slice_get}
use Rattle.std.specs.Option.{option_map}
use Rattle.std.proofs.lemmas.Bool.{eqb-true, eqb-false}
use Rattle.std.proofs.lemmas.List.{append-nil, length-set}
use Rattle.std.proofs.lemmas.Option.{slice_get_within, slice_get-map, same_Some}
use Rattle.mot_base.proofs.Lists.{mapped_some}
use Rattle.mot_base.specs.Limits.{peer_bytes}
use Rattle.mot_base.specs.Links.{ByParty, IsPeer, IsKept, IsCutOff, IsUsedUp, IsSame, IsWith}
use Rattle.mot_base.specs.declared.Party.{Party}
use Rattle.mot_base.specs.declared.links.Place.{Place}
use Rattle.frames.specs.Reading.{has_ended}
use Rattle.frames.specs.declared.frame.Hello as hello
use Rattle.message_demux.specs.declared.slots.Slot.{Slot}
use Rattle.message_demux.specs.declared.slots.SlotSpec.{SlotSpec}
use Rattle.message_demux.specs.Kept.{InboxContents}
use Rattle.peer_streams.specs.declared.error.PartyError.{PartyError}
use Rattle.peer_streams.specs.declared.error.PartyError.TheVariants as cause
use Rattle.peer_streams.specs.Judging.{IsOfPeer}
use Rattle.peer_streams.specs.Reading.{Shows, PeerRead, HasRead}
use Rattle.peer_streams.specs.Taking.{PeerShows, AreTaken, ArePeers, HasTaken, HaveRead, hellos_of, ShowsNothing, IsShown, NamesPeer}
use Rattle.peer_streams.proofs.Lists.{set_here, set_there}

-- ---- bytes

-- what was taken, and a piece of a party more
abbrev pub more : ByParty → ℕ → List ℕ → ByParty
more taken q piece p = cond (eqb p q) (taken p ++ piece) (taken p)

more-here : (taken : ByParty) (q : ℕ) (piece : List ℕ) → more taken q piece q ≡ taken q ++ piece
more-here taken q piece = let same : eqb q q ≡ true = eq-eqb q q refl in rw same refl

differ : (p q : ℕ) (b : Bool) → eqb p q ≡ b → p ≢ q → b ≡ false
differ p q true is other = absurd (other (eqb-true p q is))
differ p q false is other = refl

more-there : (taken : ByParty) (q : ℕ) (piece : List ℕ) (p : ℕ) → p ≢ q → more taken q piece p ≡ taken p
more-there taken q piece p other = let no : eqb p q ≡ false = differ p q _ refl other in rw no refl

are_more : (before left : ByParty) (after : Option ByParty) (taken : ByParty) (q : ℕ) (piece : List ℕ) → ((p : ℕ) → before p ≡ taken p ++ left p) → IsCutOff (Some left) after q piece → AreTaken before after (more taken q piece)
are_more before left None taken q piece each cut = absurd cut
are_more before left (Some now) taken q piece each cut = (now, refl, λ p. at p (eqb p q) refl) where
  at : (p : ℕ) (b : Bool) → eqb p q ≡ b → before p ≡ more taken q piece p ++ now p
  at p true is =
      let same : p ≡ q = eqb-true p q is in
      let front : left p ≡ piece ++ now p = subst (λ r. left r ≡ piece ++ now r) (sym same) cut.0 in
      rw is (each p ∙ ap (λ xs. taken p ++ xs) front ∙ sym (append_assoc (taken p) piece (now p)))
  at p false is =
      let other : p ≢ q = eqb-false p q is in
      rw is (each p ∙ ap (λ xs. taken p ++ xs) (sym (cut.1 p other)))

pub taken-more : (before : ByParty) (told after : Option ByParty) (taken : ByParty) (q : ℕ) (piece : List ℕ) → AreTaken before told taken → IsCutOff told after q piece → AreTaken before after (more taken q piece)
taken-more before told after taken q piece far cut =
    are_more before far.0 after taken q piece far.2 (subst (λ t. IsCutOff t after q piece) far.1 cut)

are_kept : (before left : ByParty) (after : Option ByParty) (taken : ByParty) → ((p : ℕ) → before p ≡ taken p ++ left p) → IsKept (Some left) after → AreTaken before after taken
are_kept before left None taken each kept = absurd kept
are_kept before left (Some now) taken each kept = (now, refl, λ p. each p ∙ ap (λ xs. taken p ++ xs) (sym (kept p)))

pub taken-kept : (before : ByParty) (told after : Option ByParty) (taken : ByParty) → AreTaken before told taken → IsKept told after → AreTaken before after taken
taken-kept before told after taken far kept =
    are_kept before far.0 after taken far.2 (subst (λ t. IsKept t after) far.1 kept)

-- where none are left of a party, all of its bytes were taken
pub taken-whole : (before : ByParty) (told : Option ByParty) (taken : ByParty) (q : ℕ) → AreTaken before told taken → IsUsedUp told q → taken q ≡ before q
taken-whole before told taken q far used =
    let none : far.0 q ≡ [] = subst (λ t. IsUsedUp t q) far.1 used in
    sym (far.2 q ∙ ap (λ xs. taken q ++ xs) none ∙ append-nil (taken q))

-- ---- what a peer shows

ended-shows : (expected : hello.Hello) (closed ended : Bool) → (closed ≡ true → ended ≡ true) → cond (closed && not ended) (Some (cause.PeerClosed expected.from)) None ≡ None
ended-shows expected false ended h = refl
ended-shows expected true ended h = rw (h refl) refl

-- a peer that was read shows nothing, where it has ended if it is closed
pub shows-none : (inbox : InboxContents) (bytes : List ℕ) (peer : PeerRead) (closed : Bool) → HasRead inbox bytes peer → (closed ≡ true → has_ended peer.progress ≡ true) → PeerShows peer.expected inbox.slots bytes closed None
shows-none inbox bytes peer closed h ended =
    (h.frames, peer.progress, h.reads, rw h.clean (ended-shows peer.expected closed (has_ended peer.progress) ended))

pub shows-some : (expected : hello.Hello) (slots : List SlotSpec) (bytes : List ℕ) (closed : Bool) (shown : PartyError) → Shows expected slots bytes (Some shown) → PeerShows expected slots bytes closed (Some shown)
shows-some expected slots bytes closed shown shows =
    (shows.0, shows.1, shows.2, rw shows.3 refl)

-- a peer that was read, closed and has not ended
pub shows-closed : (inbox : InboxContents) (bytes : List ℕ) (peer : PeerRead) (closed : Bool) → HasRead inbox bytes peer → closed ≡ true → has_ended peer.progress ≡ false → PeerShows peer.expected inbox.slots bytes closed (Some (cause.PeerClosed peer.expected.from))
shows-closed inbox bytes peer closed h is unended =
    (h.frames, peer.progress, h.reads, rw (h.clean, is, unended) refl)

pub at_hello : (peers : List PeerRead) (p : ℕ) (expected : hello.Hello) → slice_get (hellos_of peers) p ≡ Some expected → (peer : PeerRead) × (slice_get peers p ≡ Some peer) × (expected ≡ peer.expected)
at_hello peers p expected there =
    mapped_some (λ (peer : PeerRead). peer.expected) (slice_get peers p) expected (sym (slice_get-map (λ (peer : PeerRead). peer.expected) peers p) ∙ there)

pub hello_at : (peers : List PeerRead) (p : ℕ) (peer : PeerRead) → slice_get peers p ≡ Some peer → slice_get (hellos_of peers) p ≡ Some peer.expected
hello_at peers p peer there =
    slice_get-map (λ (peer : PeerRead). peer.expected) peers p ∙ ap (option_map (λ (peer : PeerRead). peer.expected)) there

pub names-of : (from : Party) (q : ℕ) (place : Option Place) (closed : ℕ → Bool) (shown : PartyError) → IsOfPeer from shown → from.0 ≡ q → IsPeer place q → NamesPeer place closed shown
names-of from q place closed (cause.TooFew few) is same peer = absurd is
names-of from q place closed (cause.HelloMissing p) is same peer = subst (λ n. IsPeer place n) (sym (ap (λ (p : Party). p.0) is ∙ same)) peer
names-of from q place closed (cause.HelloDiffers p field ours theirs) is same peer = subst (λ n. IsPeer place n) (sym (ap (λ (p : Party). p.0) is ∙ same)) peer
names-of from q place closed (cause.Frame p fault) is same peer = subst (λ n. IsPeer place n) (sym (ap (λ (p : Party). p.0) is ∙ same)) peer
names-of from q place closed (cause.Refused p refusal) is same peer = subst (λ n. IsPeer place n) (sym (ap (λ (p : Party). p.0) is ∙ same)) peer
names-of from q place closed (cause.EndEarly p slot) is same peer = subst (λ n. IsPeer place n) (sym (ap (λ (p : Party). p.0) is ∙ same)) peer
names-of from q place closed (cause.TooManyBytes p) is same peer = subst (λ n. IsPeer place n) (sym (ap (λ (p : Party). p.0) is ∙ same)) peer
names-of from q place closed (cause.PeerClosed p) is same peer = absurd is
names-of from q place closed cause.LinkFault is same peer = absurd is
names-of from q place closed cause.NoMemory is same peer = tt

-- ---- an event

module _ (place : Place) (closed after : ℕ → Bool) (inbox : InboxContents) (peers : List PeerRead) (are : ArePeers place closed peers) where
  -- the entry of each peer that is told as closed has ended, as long as none is closed anew
  still_ended : IsSame closed after → (p : ℕ) (peer : PeerRead) → slice_get peers p ≡ Some peer → after p ≡ true → has_ended peer.progress ≡ true
  still_ended same p peer there is = are.ended p peer there (sym (same p) ∙ is)

  -- bytes that are kept show nothing
  pub shows-nothing : (before : ByParty) (told now : Option ByParty) → HasTaken before told place inbox peers → IsKept told now → IsSame closed after → ShowsNothing before now after place (hellos_of peers) inbox.slots
  shows-nothing before told now far kept same = record {
    taken = far.taken;
    are_taken = taken-kept before told now far.taken far.are_taken kept;
    each = λ p expected peer there.
        let at = at_hello peers p expected there in
        rw at.2 (shows-none inbox (far.taken p) at.0 (after p) (far.read p at.0 peer at.1) (still_ended same p at.0 at.1));
  }

  module _ (q : ℕ) (peer : IsPeer (Some place) q) (old : PeerRead) (there : slice_get peers q ≡ Some old) where
    -- a peer that closed before its End
    pub closes-early : (before : ByParty) (told now : Option ByParty) (from : Party) → q ≡ from.0 → HasTaken before told place inbox peers → IsKept told now → IsUsedUp told q → IsWith closed after q → has_ended old.progress ≡ false → IsShown before now after place (hellos_of peers) inbox.slots (cause.PeerClosed from)
    closes-early before told now from is far kept used with_ unended =
        let number : old.expected.from.0 ≡ from.0 = are.in_order q old there ∙ is in
        let same : old.expected.from ≡ from = λ i. record { 0 = number i } in
        record {
          q = q;
          expected = old.expected;
          is_peer = peer;
          there = hello_at peers q old there;
          taken = far.taken;
          are_taken = taken-kept before told now far.taken far.are_taken kept;
          shows = subst (λ p. PeerShows old.expected inbox.slots (far.taken q) (after q) (Some (cause.PeerClosed p))) same (shows-closed inbox (far.taken q) old (after q) (far.read q old peer there) with_.0 unended);
          whole = λ p closed. taken-whole before told far.taken q far.are_taken used;
          others = λ p other is_peer ne at_p.
              let at = at_hello peers p other at_p in
              rw at.2 (shows-none inbox (far.taken p) at.0 (after p) (far.read p at.0 is_peer at.1) (λ told_so. are.ended p at.0 at.1 (sym (with_.1 p ne) ∙ told_so)));
        }

    -- a peer that closed behind its End
    pub closes : IsWith closed after q → has_ended old.progress ≡ true → ArePeers place after peers
    closes with_ ended = record {
      count = are.count;
      in_order = are.in_order;
      ended = λ p other at told_so. at_party p other at told_so (eqb p q) refl;
      room = are.room;
    } where
      at_party : (p : ℕ) (other : PeerRead) → slice_get peers p ≡ Some other → after p ≡ true → (b : Bool) → eqb p q ≡ b → has_ended other.progress ≡ true
      at_party p other at told_so true is =
          let same : p ≡ q = eqb-true p q is in
          let one : other ≡ old = same_Some other old (sym at ∙ ap (slice_get peers) same ∙ there) in
          rw one ended
      at_party p other at told_so false is =
          let ne : p ≢ q = eqb-false p q is in
          are.ended p other at (sym (with_.1 p ne) ∙ told_so)

    -- bytes of a peer show a cause
    pub bytes-show : (before : ByParty) (told now : Option ByParty) (piece : List ℕ) (shown : PartyError) (far : HasTaken before told place inbox peers) → IsCutOff told now q piece → IsSame closed after → IsOfPeer old.expected.from shown → Shows old.expected inbox.slots (far.taken q ++ piece) (Some shown) → IsShown before now after place (hellos_of peers) inbox.slots shown
    bytes-show before told now piece shown far cut same theirs shows = record {
      q = q;
      expected = old.expected;
      is_peer = peer;
      there = hello_at peers q old there;
      taken = more far.taken q piece;
      are_taken = taken-more before told now far.taken q piece far.are_taken cut;
      shows = subst (λ bytes. PeerShows old.expected inbox.slots bytes (after q) (Some shown)) (sym (more-here far.taken q piece)) (shows-some old.expected inbox.slots (far.taken q ++ piece) (after q) shown shows);
      whole = λ p closed. absurd (subst (IsOfPeer old.expected.from) closed theirs);
      others = λ p other is_peer ne at_p.
          let at = at_hello peers p other at_p in
          rw (more-there far.taken q piece p ne, at.2) (shows-none inbox (far.taken p) at.0 (after p) (far.read p at.0 is_peer at.1) (still_ended same p at.0 at.1));
    }

    -- bytes of a peer were read
    module _ (now : InboxContents) (new : PeerRead) (expected : new.expected ≡ old.expected) (slots : now.slots ≡ inbox.slots) (stay : (slot : Slot) → slot.from ≢ old.expected.from → m.get now.kept slot ≡ m.get inbox.kept slot) where
      other_stays : (p : ℕ) (other : PeerRead) (bytes : List ℕ) → slice_get peers p ≡ Some other → p ≢ q → HasRead inbox bytes other → HasRead now bytes other
      other_stays p other bytes at ne h = record {
        frames = h.frames;
        reads = h.reads;
        taken = h.taken;
        greeted = h.greeted;
        clean = rw slots h.clean;
        keeps = λ slot theirs. stay slot (λ ours. ne (sym (are.in_order p other at) ∙ ap (λ (p : Party). p.0) (sym theirs ∙ ours) ∙ are.in_order q old there)) ∙ h.keeps slot theirs;
      }

      pub bytes-taken : (before : ByParty) (told later : Option ByParty) (piece : List ℕ) (far : HasTaken before told place inbox peers) → IsCutOff told later q piece → HasRead now (far.taken q ++ piece) new → HasTaken before later place now (set peers q new)
      bytes-taken before told later piece far cut h = record {
        taken = more far.taken q piece;
        are_taken = taken-more before told later far.taken q piece far.are_taken cut;
        read = λ p other is_peer at. at_party p other is_peer at (eqb p q) refl;
      } where
        at_party : (p : ℕ) (other : PeerRead) → IsPeer (Some place) p → slice_get (set peers q new) p ≡ Some other → (b : Bool) → eqb p q ≡ b → HasRead now (more far.taken q piece p) other
        at_party p other is_peer at true is =
            let same : p ≡ q = eqb-true p q is in
            let one : other ≡ new = set_here peers q new other (slice_get_within peers q old there) (ap (slice_get (set peers q new)) (sym same) ∙ at) in
            rw (one, same, more-here far.taken q piece) h
        at_party p other is_peer at false is =
            let ne : p ≢ q = eqb-false p q is in
            let there_p = sym (set_there peers q p new ne) ∙ at in
            rw (more-there far.taken q piece p ne) (other_stays p other (far.taken p) there_p ne (far.read p other is_peer there_p))

      -- of each peer some bytes were read
      pub read-more : (piece : List ℕ) → HaveRead place inbox peers → ((bytes : List ℕ) → HasRead inbox bytes old → HasRead now (bytes ++ piece) new) → HaveRead place now (set peers q new)
      read-more piece have reads p other is_peer at = at_party (eqb p q) refl
        where
          at_party : (b : Bool) → eqb p q ≡ b → (bytes : List ℕ) × HasRead now bytes other
          at_party true is =
              let same : p ≡ q = eqb-true p q is in
              let one : other ≡ new = set_here peers q new other (slice_get_within peers q old there) (ap (slice_get (set peers q new)) (sym same) ∙ at) in
              let was = have q old peer there in
              (was.0 ++ piece, subst (λ (r : PeerRead). HasRead now (was.0 ++ piece) r) (sym one) (reads was.0 was.1))
          at_party false is =
              let ne : p ≢ q = eqb-false p q is in
              let there_p = sym (set_there peers q p new ne) ∙ at in
              let was = have p other is_peer there_p in
              (was.0, other_stays p other was.0 there_p ne was.1)

      pub peers-more : IsSame closed after → new.taken < peer_bytes → (has_ended old.progress ≡ true → has_ended new.progress ≡ true) → ArePeers place after (set peers q new)
      peers-more same room ended = record {
        count = length-set peers q new ∙ are.count;
        in_order = λ p other at. (at_party p other at (eqb p q) refl).0;
        ended = λ p other at. (at_party p other at (eqb p q) refl).1;
        room = λ p other at. (at_party p other at (eqb p q) refl).2;
      } where
        at_party : (p : ℕ) (other : PeerRead) → slice_get (set peers q new) p ≡ Some other → (b : Bool) → eqb p q ≡ b → (other.expected.from.0 ≡ p) × (after p ≡ true → has_ended other.progress ≡ true) × (other.taken < peer_bytes)
        at_party p other at true is =
            let here : p ≡ q = eqb-true p q is in
            let one : other ≡ new = set_here peers q new other (slice_get_within peers q old there) (ap (slice_get (set peers q new)) (sym here) ∙ at) in
            rw (one, here) (ap (λ (h : hello.Hello). h.from.0) expected ∙ are.in_order q old there, λ told_so. ended (are.ended q old there (sym (same q) ∙ told_so)), room)
        at_party p other at false is =
            let ne : p ≢ q = eqb-false p q is in
            let there_p = sym (set_there peers q p new ne) ∙ at in
            (are.in_order p other there_p, still_ended same p other there_p, are.room p other there_p)

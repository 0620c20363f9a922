-- What a party without messages heard of its peers.
use Rattle.std.proofs.Common.{◌≡◌, ◌≢◌, inl, inr, ℕ, ◌<◌, Bool, true, false, List, [], ◌∷◌, map, refl, sym, ap, ◌∙◌, Option, Some, arith}
use Rattle.std.specs.FinMap.{get-empty}
use Rattle.std.specs.List.{slice_get, range_with_len}
use Rattle.std.proofs.lemmas.List.FromFn.{length-map-range_with_len, get_or-map-range_with_len}
use Rattle.std.proofs.lemmas.Option.{slice_get_within, slice_get-get_or, get_or_from_slice_get}
use Rattle.mot_base.specs.Limits.{peer_bytes}
use Rattle.mot_base.specs.Links.{ByParty, IsKept}
use Rattle.mot_base.specs.declared.Party.{Party}
use Rattle.mot_base.specs.declared.links.LinkError.{LinkError}
use Rattle.mot_base.specs.declared.links.LinkError.TheVariants as link
use Rattle.mot_base.specs.declared.links.Place.{Place}
use Rattle.frames.specs.Reading.{Progress, Waiting, Faulty, Ended, Reads, has_ended, fault_at, frame_length}
use Rattle.frames.specs.declared.frame.Hello as hello
use Rattle.message_demux.specs.declared.slots.SlotSpec.{SlotSpec}
use Rattle.message_demux.specs.Inbox.{empty_inbox}
use Rattle.message_demux.specs.Kept.{InboxContents}
use Rattle.message_demux.specs.Slots.{slot_cmp}
use Rattle.peer_streams.specs.declared.error.PartyError.{PartyError}
use Rattle.peer_streams.specs.declared.error.PartyError.TheVariants as cause
use Rattle.peer_streams.specs.declared.run.Run.{Run}
use Rattle.peer_streams.specs.Reading.{KeepsOf, PeerRead, HasRead}
use Rattle.peer_streams.specs.Runs.{hello_of, party, place_in, hellos_to, fresh_peer, fresh_peers, EndsWell, HasHeard}
use Rattle.peer_streams.specs.Sending.{link_cause, IsOfLinks}
use Rattle.peer_streams.specs.Taking.{AreTaken, ArePeers, HasTaken, hellos_of, ShowsNothing, IsAnswer}
use Rattle.peer_streams.proofs.Taken.{taken-kept, shows-none, at_hello}
use Rattle.mot_base.proofs.Lists.{neither_some as neither}

-- ---- answers of links

pub link-answers : (error : LinkError) → IsOfLinks (link_cause error)
link-answers link.Failed = tt
link-answers link.NoMemory = tt

pub answers : (before : ByParty) (told : Option ByParty) (closed : ℕ → Bool) (place : Place) (hellos : List hello.Hello) (slots : List SlotSpec) (shown : PartyError) → IsOfLinks shown → ShowsNothing before told closed place hellos slots → IsAnswer before told closed place hellos slots shown
answers before told closed place hellos slots cause.LinkFault is nothing = inr (inl (refl, nothing))
answers before told closed place hellos slots cause.NoMemory is nothing = inl refl
answers before told closed place hellos slots (cause.TooFew few) is nothing = absurd is
answers before told closed place hellos slots (cause.HelloMissing p) is nothing = absurd is
answers before told closed place hellos slots (cause.HelloDiffers p field ours theirs) is nothing = absurd is
answers before told closed place hellos slots (cause.Frame p fault) is nothing = absurd is
answers before told closed place hellos slots (cause.Refused p refusal) is nothing = absurd is
answers before told closed place hellos slots (cause.EndEarly p slot) is nothing = absurd is
answers before told closed place hellos slots (cause.TooManyBytes p) is nothing = absurd is
answers before told closed place hellos slots (cause.PeerClosed p) is nothing = absurd is

-- ---- nothing was read yet

none_read : Reads [] [] (Waiting [])
unfolding fault_at frame_length
none_read = (record { whole = refl; each = tt }, record { faultless = refl; lacking = omega arith })

pub fresh-read : (inbox : InboxContents) (expected : hello.Hello) → KeepsOf inbox expected.from [] → HasRead inbox [] (fresh_peer expected)
fresh-read inbox expected keeps = record { frames = []; reads = none_read; taken = refl; greeted = refl; clean = refl; keeps = keeps }

empty_keeps : (slots : List SlotSpec) (peer : Party) → KeepsOf (empty_inbox slots) peer []
empty_keeps slots peer slot theirs = get-empty slot_cmp slot

at_range : {X : Type 0} (f : ℕ → X) (n q : ℕ) (x : X) → slice_get (map f (range_with_len 0 n)) q ≡ Some x → x ≡ f q
at_range f n q x there =
    let xs = map f (range_with_len 0 n) in
    let inside = slice_get_within xs q x there in
    let long = length-map-range_with_len f 0 n in
    sym (get_or_from_slice_get xs q x x there) ∙ get_or-map-range_with_len f 0 n q q x (omega arith) (omega arith)

range_at : {X : Type 0} (f : ℕ → X) (n q : ℕ) → q < n → slice_get (map f (range_with_len 0 n)) q ≡ Some (f q)
range_at f n q h =
    let xs = map f (range_with_len 0 n) in
    let long = length-map-range_with_len f 0 n in
    slice_get-get_or xs q (f q) (omega arith) ∙ ap Some (get_or-map-range_with_len f 0 n q q (f q) h (omega arith))

map_map : {X Y Z : Type 0} (g : Y → Z) (f : X → Y) (xs : List X) → map g (map f xs) ≡ map (λ x. g (f x)) xs
map_map g f [] = refl
map_map g f (x ∷ xs) = ap (λ ys. g (f x) ∷ ys) (map_map g f xs)

pub fresh-hellos : (run : Run) (me : Party) → hellos_of (fresh_peers run me) ≡ hellos_to run me
fresh-hellos run me =
    map_map (λ (peer : PeerRead). peer.expected) (λ q. fresh_peer (hello_of run (party q) me)) (range_with_len 0 run.parties)

module _ (run : Run) (me : Party) (before : ByParty) (told : Option ByParty) (closed : ℕ → Bool) (unclosed : (q : ℕ) → closed q ≡ false) where
  not_closed : (q : ℕ) (P : Type 0) → closed q ≡ true → P
  not_closed q P is = absurd (let clash : false ≡ true = sym (unclosed q) ∙ is in cc)

  nothing_taken : IsKept (Some before) told → AreTaken before told (λ q. [])
  nothing_taken kept = taken-kept before (Some before) told (λ q. []) (before, refl, λ q. refl) kept

  pub fresh-shows : (slots : List SlotSpec) → IsKept (Some before) told → ShowsNothing before told closed (place_in run me) (hellos_to run me) slots
  fresh-shows slots kept = record {
    taken = λ q. [];
    are_taken = nothing_taken kept;
    each = λ p expected peer there. shows-none (empty_inbox slots) [] (fresh_peer expected) (closed p) (fresh-read (empty_inbox slots) expected (empty_keeps slots expected.from)) (not_closed p _);
  }

  pub fresh-taken : (inbox : InboxContents) → inbox ≡ empty_inbox inbox.slots → IsKept (Some before) told → HasTaken before told (place_in run me) inbox (fresh_peers run me)
  fresh-taken inbox empty kept = record {
    taken = λ q. [];
    are_taken = nothing_taken kept;
    read = λ q peer is_peer there.
        let same = at_range (λ n. fresh_peer (hello_of run (party n) me)) run.parties q peer there in
        rw same (fresh-read inbox (hello_of run (party q) me) (rw empty (empty_keeps inbox.slots (party q))));
  }

  pub fresh-are : ArePeers (place_in run me) closed (fresh_peers run me)
  fresh-are = record {
    count = length-map-range_with_len (λ q. fresh_peer (hello_of run (party q) me)) 0 run.parties;
    in_order = λ q peer there.
        let same = at_range (λ n. fresh_peer (hello_of run (party n) me)) run.parties q peer there in rw same refl;
    ended = λ q peer there is. not_closed q _ is;
    room = λ q peer there.
        let same = at_range (λ n. fresh_peer (hello_of run (party n) me)) run.parties q peer there in rw same (omega arith);
  }

-- ---- all was read

is_ended : (progress : Progress) → has_ended progress ≡ true → progress ≡ Ended
is_ended (Waiting rest) is = absurd (cc)
is_ended (Faulty fault) is = absurd (cc)
is_ended Ended is = refl

ends-well : (inbox : InboxContents) (bytes : List ℕ) (peer : PeerRead) → HasRead inbox bytes peer → has_ended peer.progress ≡ true → peer.taken < peer_bytes → EndsWell inbox peer.expected bytes
ends-well inbox bytes peer h ended room = record {
  frames = h.frames;
  reads = rw (is_ended peer.progress ended) at h.reads;
  clean = (neither _ _ h.clean).0;
  few = omega (arith, h.taken, room);
  keeps = h.keeps;
}

pub heard-all : (run : Run) (me : Party) (before : ByParty) (told now : Option ByParty) (closed : ℕ → Bool) (inbox : InboxContents) (peers : List PeerRead) → HasTaken before told (place_in run me) inbox peers → IsKept told now → ArePeers (place_in run me) closed peers → hellos_of peers ≡ hellos_to run me → ((q : ℕ) (peer : PeerRead) → q ≢ me.0 → slice_get peers q ≡ Some peer → has_ended peer.progress ≡ true) → HasHeard before now (place_in run me) run inbox
heard-all run me before told now closed inbox peers far kept are hellos ended = record {
  taken = far.taken;
  are_taken = taken-kept before told now far.taken far.are_taken kept;
  each = λ q is_peer.
      let there = ap (λ hs. slice_get hs q) hellos ∙ range_at (λ n. hello_of run (party n) me) run.parties q is_peer.0 in
      let at = at_hello peers q (hello_of run (party q) me) there in
      rw at.2 (ends-well inbox (far.taken q) at.0 (far.read q at.0 is_peer at.1) (ended q at.0 is_peer.1 at.1) (are.room q at.0 at.1));
}

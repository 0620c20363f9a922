-- What the parties of a run say to each other before and behind their messages.
use Rattle.std.specs.Prelude.{◌≡◌, ℕ, ◌<◌, List, [], ◌++◌, length, map, Option, Some, None, false}
use Rattle.std.specs.List.{range_with_len}
use Rattle.mot_base.specs.Limits.{peer_bytes}
use Rattle.mot_base.specs.Links.{ByParty, IsPeer}
use Rattle.mot_base.specs.declared.Party.{Party}
use Rattle.mot_base.specs.declared.links.Place.{Place}
use Rattle.frames.specs.Reading.{Reads, Waiting, Ended}
use Rattle.frames.specs.declared.frame.Hello as hello
use Rattle.frames.specs.declared.frame.Frame.{Frame}
use Rattle.frames.specs.declared.frame.Frame.TheVariants.{Hello, End}
use Rattle.message_demux.specs.Kept.{InboxContents}
use Rattle.peer_streams.specs.declared.run.Run.{Run}
use Rattle.peer_streams.specs.Judging.{first_cause}
use Rattle.peer_streams.specs.Reading.{KeepsOf, PeerRead}
use Rattle.peer_streams.specs.Sending.{bytes_for}
use Rattle.peer_streams.specs.Taking.{AreTaken}

-- the Hello of a party to another
abbrev pub hello_of : Run → Party → Party → hello.Hello
hello_of run from to =
    record { version = 1; parties = run.parties; from = from; to = to; id = run.id; circuit = run.circuit }

-- the party with a number
abbrev pub party : ℕ → Party
party q = record { 0 = q }

-- where a party of a run is connected
abbrev pub place_in : Run → Party → Place
place_in run me = record { me = me; parties = run.parties }

-- the Hellos of a party to each party, and those that it expects of each
abbrev pub hellos_from : Run → Party → List Frame
hellos_from run me = map (λ q. Hello (hello_of run me (party q))) (range_with_len 0 run.parties)

abbrev pub hellos_to : Run → Party → List hello.Hello
hellos_to run me = map (λ q. hello_of run (party q) me) (range_with_len 0 run.parties)

-- an End for each party
abbrev pub ends_for : Run → List Frame
ends_for run = map (λ q. End) (range_with_len 0 run.parties)

-- a peer of whom nothing was read
abbrev pub fresh_peer : hello.Hello → PeerRead
fresh_peer expected = record { expected = expected; progress = Waiting []; taken = 0; greeted = false }

-- all parties, as one of them that read nothing yet expects them
abbrev pub fresh_peers : Run → Party → List PeerRead
fresh_peers run me = map (λ q. fresh_peer (hello_of run (party q) me)) (range_with_len 0 run.parties)

-- what a party that has no messages sends to each other one: Hello, and then End
abbrev pub greets_and_ends : Run → Party → ByParty
greets_and_ends run me q =
    bytes_for me.0 (hellos_from run me) q ++ bytes_for me.0 (ends_for run) q

-- The bytes of a peer of whom this Hello is expected hold its End, and their frames up to it show no
-- cause: the first is the expected Hello, each further Hello equals it, each message is expected and
-- of its shape, no two for one slot differ, and none is lacking. The inbox keeps these messages.
pub record EndsWell (inbox : InboxContents) (expected : hello.Hello) (bytes : List ℕ) : Type 0 where
  pub frames : List Frame
  pub reads : Reads bytes frames Ended
  pub clean : first_cause expected inbox.slots frames ≡ None
  pub few : length bytes < peer_bytes
  pub keeps : KeepsOf inbox expected.from frames

-- what was taken of each peer of a run ends well
pub record HasHeard (before : ByParty) (told : Option ByParty) (place : Place) (run : Run) (inbox : InboxContents) : Type 0 where
  pub taken : ByParty
  pub are_taken : AreTaken before told taken
  pub each : (q : ℕ) → IsPeer (Some place) q → EndsWell inbox (hello_of run (party q) place.me) (taken q)

-- Links in memory: what they give and to whom it was sent, which calls fail, and what a call
-- leaves.
use Rattle.std.specs.Prelude.{ℕ, ◌&&◌, ◌==◌, Bool, true, false, not, min, List, [], ◌++◌, length, drop, replicate, map, Option, Some, None, nat_lt, get_or, slice_set, position, if◌then◌else◌}
use Rattle.std.specs.List.{flat_map, remove, position_or_len, range_with_len}
use Rattle.mot_base.specs.Faults.{one_more}
use Rattle.mot_base.specs.Limits.{most_parties}
use Rattle.mot_base.specs.Links.{ByParty}
use Rattle.mot_base.specs.Memory.{is_listed}
use Rattle.mot_base.specs.declared.Party.{Party}
use Rattle.mot_base.specs.declared.links.Place.{Place}
use Rattle.mot_base.specs.declared.links.LinkEvent.{LinkEvent}
use Rattle.mot_base.specs.declared.links.LinkEvent.TheVariants.{Bytes, Closed, Failed}
use Rattle.mot_base.specs.declared.piece.Piece.{Piece}

-- links in memory: the pieces and the closings that are left, the numbers of the calls that are to
-- fail, the counts of calls and of faults, for whom they are connected, which parties were closed
-- since then, whether all is flushed, and what was sent to each party
pub record LinksInMemory : Type 0 where
  pub pieces : List Piece
  pub closing : List Party
  pub fails : List ℕ
  pub calls : ℕ
  pub faults : ℕ
  pub place : Option Place
  pub closed : List Bool
  pub flushed : Bool
  pub sent : List (List ℕ)

-- links that were just made
abbrev pub new_links : List Piece → List Party → List ℕ → LinksInMemory
new_links pieces closing fails =
    record {
      pieces = pieces;
      closing = closing;
      fails = fails;
      calls = 0;
      faults = 0;
      place = None;
      closed = replicate most_parties false;
      flushed = false;
      sent = replicate most_parties [];
    }

-- the bytes of a piece that are the party's
abbrev pub bytes_from : ℕ → Piece → List ℕ
bytes_from q piece = if piece.from.0 == q then piece.bytes else []

-- the bytes of each party in pieces: those of its own, one after another
abbrev pub bytes_by_party : List Piece → ByParty
bytes_by_party pieces q = flat_map (bytes_from q) pieces

-- the bytes that were sent to each party
abbrev pub sent_by_party : List (List ℕ) → ByParty
sent_by_party sent q = get_or sent q []

-- whether a party was closed
abbrev pub is_closed : List Bool → ℕ → Bool
is_closed closed q = get_or closed q false

-- whether a party is a peer
abbrev pub is_peer : Option Place → ℕ → Bool
is_peer None q = false
is_peer (Some place) q = nat_lt q place.parties && not (q == place.me.0)

-- the least peer: party 0, or party 1 where party 0 is connected
abbrev pub least_peer : Option Place → Party
least_peer None = record { 0 = 0 }
least_peer (Some place) = record { 0 = (if place.me.0 == 0 then 1 else 0) }

-- whether a party is a peer that was not closed
abbrev pub is_open : Option Place → List Bool → Party → Bool
is_open place closed party = is_peer place party.0 && not (is_closed closed party.0)

-- whether a piece is given: it is a peer's, and has bytes left
abbrev pub is_given : Option Place → Piece → Bool
is_given place piece = is_peer place piece.from.0 && nat_lt 0 (length piece.bytes)

-- all parties that there may be, in order
abbrev pub all_parties : List Party
all_parties = map (λ q. record { 0 = q }) (range_with_len 0 most_parties)

-- the links after a call, which is counted, and as a fault too where it is listed as one that fails
abbrev pub after_link_call : LinksInMemory → LinksInMemory
after_link_call links =
    record links {
      calls = one_more links.calls;
      faults = (if is_listed links.fails links.calls then one_more links.faults else links.faults);
    }

-- whether the next call fails
abbrev pub link_call_fails : LinksInMemory → Bool
link_call_fails links = is_listed links.fails links.calls

-- the links after a `connect` that left them for this party of so many, or for nobody
abbrev pub after_connect : LinksInMemory → Option Place → LinksInMemory
after_connect links place =
    record (after_link_call links) {
      place = place;
      closed = replicate most_parties false;
      flushed = false;
    }

-- the links after a `send` that appended the bytes for a party
abbrev pub after_send : LinksInMemory → ℕ → List ℕ → LinksInMemory
after_send links to bytes =
    record (after_link_call links) {
      flushed = false;
      sent = slice_set links.sent to (sent_by_party links.sent to ++ bytes);
    }

-- the links after a `send` that was refused
abbrev pub after_no_send : LinksInMemory → LinksInMemory
after_no_send links = record (after_link_call links) { flushed = false }

-- the links after a `finish` that ended
abbrev pub after_finish : LinksInMemory → LinksInMemory
after_finish links = record (after_link_call links) { flushed = true }

-- an event, and the links behind it
pub record Taken : Type 0 where
  pub event : LinkEvent
  pub links : LinksInMemory

-- what stands for a piece or a party at a place that a list does not have
abbrev pub no_piece : Piece
no_piece = record { from = record { 0 = 0 }; bytes = [] }

abbrev pub no_party : Party
no_party = record { 0 = 0 }

-- the first bytes of the piece at a place, as many as the room allows
abbrev pub piece_taken : LinksInMemory → ℕ → ℕ → Piece → Taken
piece_taken links room at piece =
    record {
      event = Bytes piece.from (min room (length piece.bytes));
      links = record links {
        pieces = slice_set links.pieces at
            (record piece { bytes = drop (min room (length piece.bytes)) piece.bytes });
      };
    }

-- the end of a party, behind which these closings are left
abbrev pub end_taken : LinksInMemory → List Party → Party → Taken
end_taken links closing party =
    record {
      event = Closed party;
      links = record links { closing = closing; closed = slice_set links.closed party.0 true };
    }

-- where no piece is given: the first closing of a peer that is open, or else the end of the least
-- such peer
abbrev pub end_taken_at : LinksInMemory → Option ℕ → Taken
end_taken_at links (Some at) =
    end_taken links (remove links.closing at) (get_or links.closing at no_party)
end_taken_at links None =
    end_taken links links.closing
    (get_or all_parties (position_or_len (is_open links.place links.closed) all_parties) no_party)

abbrev pub next_end : LinksInMemory → Taken
next_end links = end_taken_at links (position (is_open links.place links.closed) links.closing)

-- the first piece that is given, or else an end
abbrev pub taken_at : LinksInMemory → ℕ → Option ℕ → Taken
taken_at links room (Some at) = piece_taken links room at (get_or links.pieces at no_piece)
taken_at links room None = next_end links

-- what a `take` into a buffer of this length answers, and leaves
abbrev pub next_taken : LinksInMemory → ℕ → Taken
next_taken links room =
    if link_call_fails links
    then record { event = Failed (least_peer links.place); links = after_link_call links }
    else taken_at (after_link_call links) room (position (is_given links.place) links.pieces)

-- How the bytes that are left in pieces change where one of them gives its first bytes.
use Rattle.std.proofs.Common.{◌≡◌, ◌≢◌, ℕ, zero, suc, ◌<◌, ◌==◌, Bool, true, false, nat_lt, min, List, [], ◌∷◌, ◌++◌, length, take, drop, get_or, slice_set, Option, Some, None, refl, sym, ap, ◌∙◌, append_assoc, arith}
use Rattle.std.specs.Prelude.{position}
use Rattle.std.proofs.lemmas.Grind.{common_steps}
use Rattle.std.proofs.lemmas.List.Quantifiers.{position-Some}
use Rattle.std.proofs.lemmas.List.{take-append-drop}
use Rattle.mot_base.proofs.Lists.{nowhere_cons}
use Rattle.mot_base.specs.declared.links.Place.{Place}
use Rattle.mot_base.specs.declared.piece.Piece.{Piece}
use Rattle.mot_base.specs.declared.links.LinkEvent.{LinkEvent}
use Rattle.mot_base.specs.Links.{IsPeer, NamesPeer, Moves}
use Rattle.mot_base.specs.MemLinks.{LinksInMemory, bytes_from, bytes_by_party, is_peer, is_given, no_piece, piece_taken}

-- the piece, without its first bytes
abbrev pub rest_of : ℕ → Piece → Piece
rest_of n piece = record piece { bytes = drop n piece.bytes }

no_bytes : (xs : List ℕ) → nat_lt 0 (length xs) ≡ false → xs ≡ []
no_bytes [] none = refl
no_bytes (x ∷ xs) none = absurd (grind (arith, common_steps))

ungiven_by : (place : Option Place) (q : ℕ) (piece : Piece) (same : Bool) → (piece.from.0 == q) ≡ same → is_peer place q ≡ true → is_given place piece ≡ false → bytes_from q piece ≡ []
ungiven_by place q piece false e peer not = rw e refl
ungiven_by place q piece true e peer not =
    let is : piece.from.0 ≡ q = grind (arith, common_steps) in
    let empty : nat_lt 0 (length piece.bytes) ≡ false = rw (is, peer) at not in
    rw e (no_bytes piece.bytes empty)

-- a piece that is not given has no bytes of a peer
ungiven : (place : Option Place) (q : ℕ) (piece : Piece) → is_peer place q ≡ true → is_given place piece ≡ false → bytes_from q piece ≡ []
ungiven place q piece peer not = ungiven_by place q piece (piece.from.0 == q) refl peer not

-- bytes of another party
others : (q : ℕ) (piece : Piece) → piece.from.0 ≢ q → bytes_from q piece ≡ []
others q piece differs = let e : (piece.from.0 == q) ≡ false = grind (arith, common_steps) in rw e refl

-- the first bytes of a party's piece, and then the rest of it
own : (q n : ℕ) (piece : Piece) → piece.from.0 ≡ q → bytes_from q piece ≡ take n piece.bytes ++ bytes_from q (rest_of n piece)
own q n piece is = let e : (piece.from.0 == q) ≡ true = grind (arith, common_steps) in rw e (sym (take-append-drop n piece.bytes))

-- the piece at a place gives its first bytes, and none before it is given: those are the next of
-- its party
pub cut_off : (place : Option Place) (q n : ℕ) (pieces : List Piece) (at : ℕ) →
    at < length pieces → (get_or pieces at no_piece).from.0 ≡ q → is_peer place q ≡ true →
    ((k : ℕ) → k < at → is_given place (get_or pieces k no_piece) ≡ false) →
    bytes_by_party pieces q
    ≡ take n (get_or pieces at no_piece).bytes ++ bytes_by_party (slice_set pieces at (rest_of n (get_or pieces at no_piece))) q
cut_off place q n [] at inside is peer before = absurd (omega arith)
cut_off place q n (x ∷ xs) zero inside is peer before =
    ap (λ bytes. bytes ++ bytes_by_party xs q) (own q n x is) ∙ append_assoc (take n x.bytes) (bytes_from q (rest_of n x)) (bytes_by_party xs q)
cut_off place q n (x ∷ xs) (suc at) inside is peer before =
    let first = ungiven place q x peer (before 0 (omega arith)) in
    rw first (cut_off place q n xs at (omega arith) is peer (λ k small. before (suc k) (omega arith)))

-- those of all others stay
pub others_stay : (q n : ℕ) (pieces : List Piece) (at : ℕ) → (get_or pieces at no_piece).from.0 ≢ q →
    bytes_by_party (slice_set pieces at (rest_of n (get_or pieces at no_piece))) q ≡ bytes_by_party pieces q
others_stay q n [] at differs = refl
others_stay q n (x ∷ xs) zero differs = ap (λ bytes. bytes ++ bytes_by_party xs q) (others q (rest_of n x) differs ∙ sym (others q x differs))
others_stay q n (x ∷ xs) (suc at) differs = ap (λ bytes. bytes_from q x ++ bytes) (others_stay q n xs at differs)

-- where no piece is given, none of a peer's bytes are left
pub used_up : (place : Option Place) (q : ℕ) (pieces : List Piece) → is_peer place q ≡ true → position (is_given place) pieces ≡ None → bytes_by_party pieces q ≡ []
used_up place q [] peer none = refl
used_up place q (x ∷ xs) peer none =
    let parts = nowhere_cons (is_given place) x xs none in
    rw (ungiven place q x peer parts.0, used_up place q xs peer parts.1) refl

-- the test of a peer, and what it says
pub peer_is : (place : Option Place) (q : ℕ) → is_peer place q ≡ true → IsPeer place q
peer_is None q e = absurd (let wrong = e in cc)
peer_is (Some place) q e = grind (arith, common_steps)

pub peer_test : (place : Option Place) (q : ℕ) → IsPeer place q → is_peer place q ≡ true
peer_test None q peer = absurd peer
peer_test (Some place) q peer = grind (arith, common_steps)

given_by : (place : Option Place) (piece : Piece) (peer : Bool) → is_peer place piece.from.0 ≡ peer → is_given place piece ≡ true → (is_peer place piece.from.0 ≡ true) × (0 < length piece.bytes)
given_by place piece true e given = let some : nat_lt 0 (length piece.bytes) ≡ true = rw e at given in (e, grind (arith, common_steps))
given_by place piece false e given = absurd (let wrong = rw e at given in cc)

given_parts : (place : Option Place) (piece : Piece) → is_given place piece ≡ true → (is_peer place piece.from.0 ≡ true) × (0 < length piece.bytes)
given_parts place piece given = given_by place piece (is_peer place piece.from.0) refl given

-- The first piece that is given is of a peer, and its first bytes are moved to the buffer's front.
pub moved : (links : LinksInMemory) (room at : ℕ) (buffer : List ℕ) (event : LinkEvent) (after : LinksInMemory) →
    position (is_given links.place) links.pieces ≡ Some at → 0 < room → length buffer ≡ room →
    take (min room (length (get_or links.pieces at no_piece).bytes)) buffer
    ≡ take (min room (length (get_or links.pieces at no_piece).bytes)) (get_or links.pieces at no_piece).bytes →
    event ≡ (piece_taken links room at (get_or links.pieces at no_piece)).event →
    after ≡ (piece_taken links room at (get_or links.pieces at no_piece)).links →
    NamesPeer links.place event × Moves (Some (bytes_by_party links.pieces)) (Some (bytes_by_party after.pieces)) buffer event
moved links room at buffer event after first some fits given is_event is_after =
    let found = position-Some (is_given links.place) links.pieces at no_piece first in
    let piece = get_or links.pieces at no_piece in
    let parts = given_parts links.place piece found.1 in
    let n = min room (length piece.bytes) in
    rw (is_event, is_after) (
      peer_is links.place piece.from.0 parts.0,
      (
        omega (arith, parts.1),
        omega arith,
        (
          rw given (cut_off links.place piece.from.0 n links.pieces at found.0 refl parts.0 found.2),
          λ p differs. others_stay p n links.pieces at (λ same. differs (sym same)),
        ),
      ),
    )

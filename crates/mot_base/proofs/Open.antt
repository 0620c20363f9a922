-- Which peers are open.
use Rattle.std.proofs.Common.{◌≡◌, ℕ, zero, suc, ◌<◌, ◌≤◌, ◌&&◌, not, Bool, true, false, List, get_or, Option, Some, None, IfSome, refl, arith}
use Rattle.std.specs.Prelude.{position}
use Rattle.mot_base.proofs.Lists.{nowhere_at}
use Rattle.mot_base.proofs.Pieces.{peer_is, peer_test}
use Rattle.mot_base.specs.declared.Party.{Party}
use Rattle.mot_base.specs.declared.links.Place.{Place}
use Rattle.mot_base.specs.Limits.{most_parties}
use Rattle.mot_base.specs.Links.{IsPeer, IsOpen}
use Rattle.mot_base.specs.MemLinks.{LinksInMemory, is_peer, is_closed, is_open, all_parties, no_party, end_taken_at}

open_by : (peer shut : Bool) → (peer && not shut) ≡ true → (peer ≡ true) × (shut ≡ false)
open_by true false e = (refl, refl)
open_by true true e = absurd (let wrong = e in cc)
open_by false shut e = absurd (let wrong = e in cc)

-- what the test of an open peer says
pub open_is : (place : Option Place) (closed : List Bool) (party : Party) → is_open place closed party ≡ true → IsPeer place party.0 × (is_closed closed party.0 ≡ false)
open_is place closed party e =
    let parts = open_by (is_peer place party.0) (is_closed closed party.0) e in
    (peer_is place party.0 parts.0, parts.1)

-- the party of a number stands at its place
party_at : (q : ℕ) → q < 8 → get_or all_parties q no_party ≡ record { 0 = q }
party_at zero few = refl
party_at (suc zero) few = refl
party_at (suc (suc zero)) few = refl
party_at (suc (suc (suc zero))) few = refl
party_at (suc (suc (suc (suc zero)))) few = refl
party_at (suc (suc (suc (suc (suc zero))))) few = refl
party_at (suc (suc (suc (suc (suc (suc zero)))))) few = refl
party_at (suc (suc (suc (suc (suc (suc (suc zero))))))) few = refl
party_at (suc (suc (suc (suc (suc (suc (suc (suc q)))))))) few = absurd (omega arith)

below : (place : Option Place) (q : ℕ) → IsPeer place q → IfSome place (λ at. at.parties ≤ most_parties) → q < 8
below None q peer most = absurd peer
below (Some at) q peer most = omega (arith, peer.0, most)

-- where some peer is open, the search for one finds it
pub some_is_open : (place : Option Place) (closed : List Bool) → IsOpen place (is_closed closed) → IfSome place (λ at. at.parties ≤ most_parties) → position (is_open place closed) all_parties ≡ None → ⊥
some_is_open place closed peer most nowhere =
    let few = below place peer.0 peer.1 most in
    let shut = nowhere_at (is_open place closed) all_parties no_party nowhere peer.0 few in
    let here : is_open place closed (record { 0 = peer.0 }) ≡ false = rw (party_at peer.0 few) at shut in
    let stands : is_open place closed (record { 0 = peer.0 }) ≡ true = rw (peer_test place peer.0 peer.1, peer.2) refl in
    let wrong = rw stands at here in cc

-- an end leaves the pieces as they are
pub end_keeps : (links : LinksInMemory) (at : Option ℕ) → (end_taken_at links at).links.pieces ≡ links.pieces
end_keeps links (Some at) = refl
end_keeps links None = refl

-- What links tell of the parties that they link, and what an event says of them.
use Rattle.std.specs.Prelude.{ℕ, ◌<◌, ◌≤◌, ◌≡◌, ◌≢◌, Bool, true, false, List, [], ◌++◌, length, take, Option, Some, None}
use Rattle.mot_base.specs.declared.links.Place.{Place}
use Rattle.mot_base.specs.declared.links.LinkEvent.{LinkEvent}
use Rattle.mot_base.specs.declared.links.LinkEvent.TheVariants.{Bytes, Closed, Failed, NoMemory}

-- bytes for each party, by its number
abbrev pub ByParty : Type 0
ByParty = ℕ → List ℕ

-- a peer has a number below that of the parties, and is another than the party that connected
abbrev pub IsPeer : Option Place → ℕ → Type 0
IsPeer None q = ⊥
IsPeer (Some place) q = (q < place.parties) × (q ≢ place.me.0)

-- some peer was not answered as closed
abbrev pub IsOpen : Option Place → (ℕ → Bool) → Type 0
IsOpen place closed = (q : ℕ) × IsPeer place q × (closed q ≡ false)

-- where bytes are told, they are told still, and are the same
abbrev pub IsKept : Option ByParty → Option ByParty → Type 0
IsKept None after = Unit {0}
IsKept (Some before) None = ⊥
IsKept (Some before) (Some after) = (p : ℕ) → after p ≡ before p

-- where bytes are told, those of the party q were this piece and then what they are now, and those
-- of all others are the same
abbrev pub IsCutOff : Option ByParty → Option ByParty → ℕ → List ℕ → Type 0
IsCutOff None after q piece = Unit {0}
IsCutOff (Some before) None q piece = ⊥
IsCutOff (Some before) (Some after) q piece =
    (before q ≡ piece ++ after q) × ((p : ℕ) → p ≢ q → after p ≡ before p)

-- where bytes are told, those of the party q are what they were and then this piece, and those of
-- all others are the same
abbrev pub IsAppended : Option ByParty → Option ByParty → ℕ → List ℕ → Type 0
IsAppended None after q piece = Unit {0}
IsAppended (Some before) None q piece = ⊥
IsAppended (Some before) (Some after) q piece =
    (after q ≡ before q ++ piece) × ((p : ℕ) → p ≢ q → after p ≡ before p)

-- where bytes are told, there are none of the party q
abbrev pub IsUsedUp : Option ByParty → ℕ → Type 0
IsUsedUp None q = Unit {0}
IsUsedUp (Some left) q = left q ≡ []

-- the same parties are told as closed
abbrev pub IsSame : (ℕ → Bool) → (ℕ → Bool) → Type 0
IsSame before after = (p : ℕ) → after p ≡ before p

-- the party q is told as closed too, and of all others the same is told
abbrev pub IsWith : (ℕ → Bool) → (ℕ → Bool) → ℕ → Type 0
IsWith before after q = (after q ≡ true) × ((p : ℕ) → p ≢ q → after p ≡ before p)

-- the party that an event names is a peer
abbrev pub NamesPeer : Option Place → LinkEvent → Type 0
NamesPeer place (Bytes q n) = IsPeer place q.0
NamesPeer place (Closed q) = IsPeer place q.0
NamesPeer place (Failed q) = IsPeer place q.0
NamesPeer place NoMemory = Unit {0}

-- What an event says of the bytes that are left, where `buffer` is what the buffer holds behind it:
-- `Bytes` moved the next ones of a peer, at least one, to the buffer's front; `Closed` comes only
-- where none of the peer are left; and all other bytes stay.
abbrev pub Moves : Option ByParty → Option ByParty → List ℕ → LinkEvent → Type 0
Moves before after buffer (Bytes q n) =
    (1 ≤ n) × (n ≤ length buffer) × IsCutOff before after q.0 (take n buffer)
Moves before after buffer (Closed q) = IsKept before after × IsUsedUp before q.0
Moves before after buffer (Failed q) = IsKept before after
Moves before after buffer NoMemory = IsKept before after

-- What an event says of the peers that are told as closed: `Closed` adds the peer that it names,
-- which was not told before, and no other event adds one.
abbrev pub Closes : (ℕ → Bool) → (ℕ → Bool) → LinkEvent → Type 0
Closes before after (Closed q) = (before q.0 ≡ false) × IsWith before after q.0
Closes before after (Bytes q n) = IsSame before after
Closes before after (Failed q) = IsSame before after
Closes before after NoMemory = IsSame before after

-- an event that says that the links failed
abbrev pub IsFault : LinkEvent → Type 0
IsFault (Failed q) = Unit {0}
IsFault (Bytes q n) = ⊥
IsFault (Closed q) = ⊥
IsFault NoMemory = ⊥

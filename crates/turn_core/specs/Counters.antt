-- What the core counts, against its sets.
use Rattle.std.specs.Prelude.{◌≡◌, ◌≢◌, ℕ, ◌+◌, ◌<◌, ◌≤◌, ◌==◌, Bool, true, false, if◌then◌else◌, zero, suc, List, [], ◌∷◌, length, get_or}
use Rattle.std.specs.List.{count_by}
use Rattle.turn_core.specs.Graph.{Graph, targets, incoming}
use Rattle.turn_core.specs.Core.{Flags, IsIn, IsOut, Core, IsCore}

-- how many edges end at the item and are not marked
abbrev pub unmarked : ℕ → List ℕ → Flags → ℕ
unmarked k [] marks = 0
unmarked k (t ∷ ts) [] = 0
unmarked k (t ∷ ts) (m ∷ ms) = (if m then 0 else (if t == k then 1 else 0)) + unmarked k ts ms

-- a counter that is not 0 holds its item back
abbrev pub is_waiting : ℕ → Bool
is_waiting zero = false
is_waiting (suc n) = true

-- the item stands at one of the first `len` places of the queue
abbrev pub IsQueued : List ℕ → ℕ → ℕ → Type 0
IsQueued queue len k = (i : ℕ) × (i < len) × (get_or queue i 0 ≡ k)

-- the first `len` places of the queue have the items whose counter is 0, each once, and there is room for all
pub record IsQueue (missing queue : List ℕ) (len : ℕ) : Type 0 where
  pub places : length queue ≡ length missing
  pub room : len + count_by is_waiting missing ≤ length missing
  pub queued : (i : ℕ) → i < len → get_or queue i 0 < length missing
  pub queued_has_all : (i : ℕ) → i < len → get_or missing (get_or queue i 0) 0 ≡ 0
  pub once : (i j : ℕ) → i < j → j < len → get_or queue i 0 ≢ get_or queue j 0
  pub kept : (k : ℕ) → k < length missing → get_or missing k 0 ≡ 0 → IsQueued queue len k

-- with no edge marked, a counter is the number of edges that end at its item
pub record AreMissing (g : Graph) (missing : List ℕ) : Type 0 where
  pub as_many : length missing ≡ g.items
  pub each : (k : ℕ) → k < g.items → get_or missing k 0 ≡ length (incoming g k)

-- counters and queue are those of the sets: the first `len` places of the queue have the items that may be
-- handed out, and some that were, each once
pub record IsTied (c : Core) (missing queue : List ℕ) (len : ℕ) : Type 0 where
  pub core : IsCore c
  pub counters : length missing ≡ c.graph.items
  pub places : length queue ≡ c.graph.items
  pub counts : (k : ℕ) → k < c.graph.items → get_or missing k 0 ≡ unmarked k (targets c.graph) c.marked
  pub ended : (k : ℕ) → IsIn c.handed k → get_or missing k 0 ≡ 0
  pub room : len + count_by is_waiting missing ≤ c.graph.items
  pub queued : (i : ℕ) → i < len → get_or queue i 0 < c.graph.items
  pub queued_has_all : (i : ℕ) → i < len → get_or missing (get_or queue i 0) 0 ≡ 0
  pub once : (i j : ℕ) → i < j → j < len → get_or queue i 0 ≢ get_or queue j 0
  pub kept : (k : ℕ) → k < c.graph.items → IsOut c.handed k → get_or missing k 0 ≡ 0 → IsQueued queue len k

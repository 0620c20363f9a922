-- A core that has just begun.
use Rattle.std.proofs.Common.{◌≡◌, ◌≢◌, ℕ, zero, suc, ◌+◌, ◌<◌, ◌≤◌, true, false, List, [], ◌∷◌, ◌++◌, length, get_or, take, replicate, refl, sym, ap, ◌∙◌, subst, arith, ⊎_elim}
use Rattle.std.proofs.Math.ListN.{set}
use Rattle.std.specs.List.{count_by}
use Rattle.std.proofs.lemmas.Bool.{false≢true, cases_eq}
use Rattle.std.proofs.lemmas.List.{length-set, length-map, length_push, length-replicate, get_or_append_left, get_or_push, take_all}
use Rattle.std.proofs.lemmas.List.Sums.{count_by_more_yes, count_by_more_no}
use Rattle.turn_core.specs.Graph.{Graph, IsSound, targets, incoming}
use Rattle.turn_core.specs.Core.{at_start}
use Rattle.turn_core.specs.Counters.{unmarked, is_waiting, IsQueued, IsQueue, AreMissing, IsTied}
use Rattle.turn_core.proofs.Counts.{unmarked-start}
use Rattle.turn_core.proofs.Events.{none_in, starts}
use Rattle.turn_core.proofs.Places.{places-short}
use Rattle.turn_core.proofs.Ties.{pushed, pushed_once, is_pushed, still_queued}

-- ---- the counters

-- the counters of the first items
pub record AreMissingTo (g : Graph) (missing : List ℕ) (i : ℕ) : Type 0 where
  pub as_many : length missing ≡ i
  pub each : (k : ℕ) → k < i → get_or missing k 0 ≡ length (incoming g k)

pub missing-none : (g : Graph) → AreMissingTo g [] 0
missing-none g = record { as_many = refl; each = λ k h. absurd (omega (arith, h)) }

pub missing-more : (g : Graph) (missing : List ℕ) (i n : ℕ) → n ≡ length (incoming g i) → AreMissingTo g missing i → AreMissingTo g (missing ++ n ∷ []) (i + 1)
missing-more g missing i n new old = record {
  as_many = length_push missing n ∙ ap (λ (m : ℕ). m + 1) old.as_many;
  each = λ k h.
      ⊎_elim
      (λ (same : k ≡ i). get_or_push missing n 0 k (old.as_many ∙ sym same) ∙ new ∙ ap (λ (m : ℕ). length (incoming g m)) (sym same))
      (λ (other : k ≢ i).
      let short : k < i = omega (arith, h, other) in
      get_or_append_left missing (n ∷ []) 0 k (omega (arith, short, old.as_many)) ∙ old.each k short)
      (cases_eq k i);
}

pub missing-all : (g : Graph) (missing : List ℕ) → AreMissingTo g missing g.items → AreMissing g missing
missing-all g missing m = record { as_many = m.as_many; each = m.each }

-- an item has no more edges than there are
pub incoming-short : (g : Graph) (k : ℕ) → length (incoming g k) ≤ length g.edges
incoming-short g k = omega (arith, places-short k (targets g), length-map g.edges (λ e. e.target))

-- ---- the queue

-- the items before i whose counter is 0 are in the queue
pub record IsQueueTo (missing queue : List ℕ) (len i : ℕ) : Type 0 where
  pub places : length queue ≡ length missing
  pub room : len + count_by is_waiting (take i missing) ≤ i
  pub queued : (a : ℕ) → a < len → get_or queue a 0 < i
  pub queued_has_all : (a : ℕ) → a < len → get_or missing (get_or queue a 0) 0 ≡ 0
  pub once : (a b : ℕ) → a < b → b < len → get_or queue a 0 ≢ get_or queue b 0
  pub kept : (k : ℕ) → k < i → get_or missing k 0 ≡ 0 → IsQueued queue len k

pub queue-none : (missing : List ℕ) → IsQueueTo missing (replicate (length missing) 0) 0 0
queue-none missing = record {
  places = length-replicate (length missing) 0;
  room = omega arith;
  queued = λ a h. absurd (omega (arith, h));
  queued_has_all = λ a h. absurd (omega (arith, h));
  once = λ a b less h same. omega (arith, h);
  kept = λ k h none. absurd (omega (arith, h));
}

waits : (n : ℕ) → 0 < n → is_waiting n ≡ true
waits zero some = absurd (omega arith)
waits (suc n) some = refl

waits_not : (n : ℕ) → n ≡ 0 → is_waiting n ≡ false
waits_not n none = rw none refl

-- an item that waits
pub queue-skip : (missing queue : List ℕ) (len i : ℕ) → i < length missing → 0 < get_or missing i 0 → IsQueueTo missing queue len i → IsQueueTo missing queue len (i + 1)
queue-skip missing queue len i within some q = record {
  places = q.places;
  room = omega (arith, q.room, count_by_more_yes is_waiting missing i 0 within (waits (get_or missing i 0) some));
  queued = λ a h. omega (arith, q.queued a h);
  queued_has_all = q.queued_has_all;
  once = q.once;
  kept = λ k h none.
      let other : k ≢ i = λ same. let at : get_or missing i 0 ≡ 0 = subst (λ (m : ℕ). get_or missing m 0 ≡ 0) same none in omega (arith, at, some) in
      q.kept k (omega (arith, h, other)) none;
}

-- there is room for one item more
pub queue-room : (missing queue : List ℕ) (len i : ℕ) → i < length missing → IsQueueTo missing queue len i → len < length queue
queue-room missing queue len i within q = omega (arith, q.room, q.places, within)

-- an item that is ready
pub queue-one : (missing queue : List ℕ) (len i : ℕ) → i < length missing → get_or missing i 0 ≡ 0 → IsQueueTo missing queue len i → IsQueueTo missing (set queue len i) (len + 1) (i + 1)
queue-one missing queue len i within none q =
    let fits = queue-room missing queue len i within q in
    record {
      places = length-set queue len i ∙ q.places;
      room = omega (arith, q.room, count_by_more_no is_waiting missing i 0 within (waits_not (get_or missing i 0) none));
      queued = pushed (λ k. k < i + 1) queue len i fits (λ a h. omega (arith, q.queued a h)) (omega arith);
      queued_has_all = pushed (λ k. get_or missing k 0 ≡ 0) queue len i fits q.queued_has_all none;
      once = pushed_once queue len i fits q.once (λ a h same. omega (arith, q.queued a h, same));
      kept = λ k h here.
          ⊎_elim
          (λ (same : k ≡ i). is_pushed queue len i k fits same)
          (λ (other : k ≢ i). still_queued queue len i k (q.kept k (omega (arith, h, other)) here))
          (cases_eq k i);
    }

pub queue-all : (missing queue : List ℕ) (len : ℕ) → IsQueueTo missing queue len (length missing) → IsQueue missing queue len
queue-all missing queue len q = record {
  places = q.places;
  room = subst (λ (xs : List ℕ). len + count_by is_waiting xs ≤ length missing) (take_all (length missing) missing (omega arith)) q.room;
  queued = q.queued;
  queued_has_all = q.queued_has_all;
  once = q.once;
  kept = q.kept;
}

-- ---- the whole core

pub begins : (g : Graph) (missing queue : List ℕ) (len : ℕ) → IsSound g → AreMissing g missing → IsQueue missing queue len → IsTied (at_start g) missing queue len
begins g missing queue len sound m q = record {
  core = starts g sound;
  counters = m.as_many;
  places = q.places ∙ m.as_many;
  counts = λ k h.
      let many : length (targets g) ≡ length g.edges = length-map g.edges (λ e. e.target) in
      m.each k h ∙ sym (unmarked-start k (targets g))
      ∙ ap (λ (n : ℕ). unmarked k (targets g) (replicate n false)) many;
  ended = λ k here. absurd (false≢true (sym (none_in g.items k) ∙ here));
  room = omega (arith, q.room, m.as_many);
  queued = λ i h. omega (arith, q.queued i h, m.as_many);
  queued_has_all = q.queued_has_all;
  once = q.once;
  kept = λ k item out none. q.kept k (omega (arith, item, m.as_many)) none;
}

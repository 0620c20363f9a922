-- Counters and queue stay those of the sets: one lemma for each way in which the core changes.
use Rattle.std.proofs.Common.{◌≡◌, ◌≢◌, ℕ, zero, suc, ◌+◌, ◌-◌, ◌<◌, ◌≤◌, ◌⊎◌, Bool, true, false, not, cond, List, length, get_or, refl, sym, ap, ◌∙◌, subst, arith, ⊎_elim}
use Rattle.std.proofs.Math.ListN.{set}
use Rattle.std.specs.List.{count_by}
use Rattle.std.proofs.lemmas.Bool.{false≢true, cases_eq, cases_lt, cases_Bool}
use Rattle.std.proofs.lemmas.List.{length-set, length-map, get_or-set_same, get_or-set_other, get_or_read}
use Rattle.std.proofs.lemmas.List.Sums.{sum_by-set, get_or-le-sum_by}
use Rattle.turn_core.specs.declared.edge.TheConstants.{TERMINAL}
use Rattle.turn_core.specs.Graph.{target, targets}
use Rattle.turn_core.specs.Core.{Flags, IsIn, IsOut, with_one, Core, Arrives, HandsOut, Leaves, IsReady, May, after, IsCore}
use Rattle.turn_core.specs.Counters.{unmarked, is_waiting, IsQueued, IsTied}
use Rattle.turn_core.proofs.Events.{in-with_one, with_one-cases, stays}
use Rattle.turn_core.proofs.Counts.{one_if, unmarked-same, unmarked-other, unmarked-none, unmarked-all}
use Rattle.mot_base.proofs.Lists.{not_true as is_down}

-- ---- a mark

-- the state with one edge more marked
abbrev pub with_mark : Core → ℕ → Core
with_mark c e = record c { marked = with_one c.marked e }

abbrev pub MayMark : Core → ℕ → Type 0
MayMark c e = May c (Arrives e) ⊎ May c (Leaves e)

pub is_edge : (c : Core) (e : ℕ) → MayMark c e → e < length c.graph.edges
is_edge c e may = ⊎_elim (λ (out : May c (Arrives e)). out.0) (λ (inside : May c (Leaves e)). inside.0) may

pub marks-core : (c : Core) (e : ℕ) → IsCore c → MayMark c e → IsCore (with_mark c e)
marks-core c e core may = ⊎_elim (λ out. stays c (Arrives e) core out) (λ inside. stays c (Leaves e) core inside) may

-- what a mark of edge e, which was not marked, leaves to show
pub record IsMark (c : Core) (missing queue : List ℕ) (len e : ℕ) : Type 0 where
  pub tied : IsTied c missing queue len
  pub may : MayMark c e
  pub fresh : IsOut c.marked e

-- the item at which the edge ends has a counter above 0
pub record Holds (c : Core) (missing queue : List ℕ) (len e t : ℕ) : Type 0 where
  pub mark : IsMark c missing queue len e
  pub to : target c.graph e ≡ t
  pub is_item : t < c.graph.items

-- a mark, as the test of its flag tells it
pub a_mark : (c : Core) (missing queue : List ℕ) (len e : ℕ) (b : Bool) → IsTied c missing queue len → MayMark c e → b ≡ get_or c.marked e b → b ≡ false → IsMark c missing queue len e
a_mark c missing queue len e b tied may read down =
    let within : e < length c.marked = let edge = is_edge c e may in omega (arith, edge, tied.core.edges) in
    record { tied = tied; may = may; fresh = sym (get_or_read c.marked e b within read false) ∙ down }

-- the item at which an edge that is marked ends
pub holds : (c : Core) (missing queue : List ℕ) (len e t : ℕ) → IsMark c missing queue len e → t ≡ target c.graph e → t ≢ TERMINAL → Holds c missing queue len e t
holds c missing queue len e t mark to inside = record {
  mark = mark;
  to = sym to;
  is_item = subst (λ (m : ℕ). m < c.graph.items) (sym to)
      (⊎_elim
      (λ (item : target c.graph e < c.graph.items). item)
      (λ (end : target c.graph e ≡ TERMINAL). absurd (inside (to ∙ end)))
      (mark.tied.core.sound.targets_known e (is_edge c e mark.may)));
}

-- a counter, as it is read
pub counter : (c : Core) (missing queue : List ℕ) (len e t x : ℕ) → Holds c missing queue len e t → x ≡ get_or missing t x → x ≡ get_or missing t 0
counter c missing queue len e t x held read =
    get_or_read missing t x (omega (arith, held.mark.tied.counters, held.is_item)) read 0

many_targets : (c : Core) → length (targets c.graph) ≡ length c.graph.edges
many_targets c = length-map c.graph.edges (λ e. e.target)

-- the edge ends at no item
pub marks-terminal : (c : Core) (missing queue : List ℕ) (len e : ℕ) → IsMark c missing queue len e → target c.graph e ≡ TERMINAL → IsTied (with_mark c e) missing queue len
marks-terminal c missing queue len e mark end =
    let within = is_edge c e mark.may in
    record {
      core = marks-core c e mark.tied.core mark.may;
      counters = mark.tied.counters;
      places = mark.tied.places;
      counts = λ k h.
          let other : target c.graph e ≢ k = λ same. omega (arith, end, mark.tied.core.sound.items_fit, same) in
          mark.tied.counts k h ∙ sym (unmarked-other k (targets c.graph) c.marked e TERMINAL (omega (arith, within, many_targets c)) other);
      ended = mark.tied.ended;
      room = mark.tied.room;
      queued = mark.tied.queued;
      queued_has_all = mark.tied.queued_has_all;
      once = mark.tied.once;
      kept = mark.tied.kept;
    }

pub some_missing : (c : Core) (missing queue : List ℕ) (len e t : ℕ) → Holds c missing queue len e t → 0 < get_or missing t 0
some_missing c missing queue len e t holds =
    let mark = holds.mark in
    let within = is_edge c e mark.may in
    let falls = unmarked-same t (targets c.graph) c.marked e TERMINAL (omega (arith, within, many_targets c)) (omega (arith, within, mark.tied.core.edges)) mark.fresh holds.to in
    omega (arith, falls, mark.tied.counts t holds.is_item)

abbrev pub lowered : List ℕ → ℕ → List ℕ
lowered missing t = set missing t (get_or missing t 0 - 1)

lowered-counts : (c : Core) (missing queue : List ℕ) (len e t : ℕ) → Holds c missing queue len e t → (k : ℕ) → k < c.graph.items → get_or (lowered missing t) k 0 ≡ unmarked k (targets c.graph) (with_one c.marked e)
lowered-counts c missing queue len e t holds k h =
    let mark = holds.mark in
    let within = is_edge c e mark.may in
    let short : e < length (targets c.graph) = omega (arith, within, many_targets c) in
    ⊎_elim
    (λ (same : k ≡ t).
    let falls = unmarked-same k (targets c.graph) c.marked e TERMINAL short (omega (arith, within, mark.tied.core.edges)) mark.fresh (holds.to ∙ sym same) in
    let here = get_or-set_same missing t (get_or missing t 0 - 1) 0 (omega (arith, mark.tied.counters, holds.is_item)) in
    let now : get_or (lowered missing t) k 0 ≡ get_or missing t 0 - 1 = subst (λ (m : ℕ). get_or (lowered missing t) m 0 ≡ get_or missing t 0 - 1) (sym same) here in
    let was : get_or missing t 0 ≡ unmarked k (targets c.graph) c.marked = subst (λ (m : ℕ). get_or missing m 0 ≡ unmarked k (targets c.graph) c.marked) same (mark.tied.counts k h) in
    omega (arith, falls, now, was))
    (λ (other : k ≢ t).
    let apart : target c.graph e ≢ k = λ back. other (sym back ∙ holds.to) in
    get_or-set_other missing t k (get_or missing t 0 - 1) 0 other ∙ mark.tied.counts k h ∙ sym (unmarked-other k (targets c.graph) c.marked e TERMINAL short apart))
    (cases_eq k t)

lowered-ended : (c : Core) (missing queue : List ℕ) (len e t : ℕ) → Holds c missing queue len e t → (k : ℕ) → IsIn c.handed k → get_or (lowered missing t) k 0 ≡ 0
lowered-ended c missing queue len e t holds k here =
    let some = some_missing c missing queue len e t holds in
    let none = holds.mark.tied.ended k here in
    let other : k ≢ t = λ same. let at : get_or missing t 0 ≡ 0 = subst (λ (m : ℕ). get_or missing m 0 ≡ 0) same none in omega (arith, some, at) in
    get_or-set_other missing t k (get_or missing t 0 - 1) 0 other ∙ none

-- an item of the queue is another one
queued-other : (c : Core) (missing queue : List ℕ) (len e t i : ℕ) → Holds c missing queue len e t → i < len → get_or queue i 0 ≢ t
queued-other c missing queue len e t i holds within same =
    let some = some_missing c missing queue len e t holds in
    let none = holds.mark.tied.queued_has_all i within in
    let at : get_or missing t 0 ≡ 0 = subst (λ (m : ℕ). get_or missing m 0 ≡ 0) same none in
    omega (arith, some, at)

-- how many items wait after the counter of one was lowered
waiting-lowered : (missing : List ℕ) (t n : ℕ) → t < length missing → count_by is_waiting (set missing t n) + cond (is_waiting (get_or missing t 0)) 1 0 ≡ count_by is_waiting missing + cond (is_waiting n) 1 0
waiting-lowered missing t n within = sum_by-set (λ (x : ℕ). cond (is_waiting x) 1 0) missing t n 0 within

waits : (n : ℕ) → 0 < n → one_if (is_waiting n) ≡ 1
waits zero some = absurd (omega arith)
waits (suc n) some = refl

waits_not : (n : ℕ) → n ≡ 0 → one_if (is_waiting n) ≡ 0
waits_not n none = rw none refl

-- the item still waits
pub marks-waiting : (c : Core) (missing queue : List ℕ) (len e t : ℕ) → Holds c missing queue len e t → 0 < get_or missing t 0 - 1 → IsTied (with_mark c e) (lowered missing t) queue len
marks-waiting c missing queue len e t holds still =
    let tied = holds.mark.tied in
    let change = waiting-lowered missing t (get_or missing t 0 - 1) (omega (arith, tied.counters, holds.is_item)) in
    record {
      core = marks-core c e tied.core holds.mark.may;
      counters = length-set missing t (get_or missing t 0 - 1) ∙ tied.counters;
      places = tied.places;
      counts = lowered-counts c missing queue len e t holds;
      ended = lowered-ended c missing queue len e t holds;
      room = omega (arith, tied.room, change, waits (get_or missing t 0) (omega arith), waits (get_or missing t 0 - 1) still);
      queued = tied.queued;
      queued_has_all = λ i within. get_or-set_other missing t (get_or queue i 0) (get_or missing t 0 - 1) 0 (queued-other c missing queue len e t i holds within) ∙ tied.queued_has_all i within;
      once = tied.once;
      kept = λ k item out none.
          let here : get_or (lowered missing t) t 0 ≡ get_or missing t 0 - 1 = get_or-set_same missing t (get_or missing t 0 - 1) 0 (omega (arith, tied.counters, holds.is_item)) in
          let other : k ≢ t = λ same. let at : get_or (lowered missing t) t 0 ≡ 0 = subst (λ (m : ℕ). get_or (lowered missing t) m 0 ≡ 0) same none in omega (arith, at, here, still) in
          tied.kept k item out (sym (get_or-set_other missing t k (get_or missing t 0 - 1) 0 other) ∙ none);
    }

-- there is room in the queue while an item waits
pub room : (c : Core) (missing queue : List ℕ) (len t : ℕ) → IsTied c missing queue len → t < c.graph.items → 0 < get_or missing t 0 → len < c.graph.items
room c missing queue len t tied within some =
    let one = get_or-le-sum_by (λ (x : ℕ). cond (is_waiting x) 1 0) missing t 0 (omega (arith, tied.counters)) in
    omega (arith, tied.room, one, waits (get_or missing t 0) some)

-- the queue with one item more
push-old : (queue : List ℕ) (len t i : ℕ) → i < len → get_or (set queue len t) i 0 ≡ get_or queue i 0
push-old queue len t i within = get_or-set_other queue len i t 0 (λ same. omega (arith, same))

-- what holds of each item of the queue and of the new one
pub pushed : (P : ℕ → Type 0) (queue : List ℕ) (len t : ℕ) → len < length queue → ((i : ℕ) → i < len → P (get_or queue i 0)) → P t → (i : ℕ) → i < len + 1 → P (get_or (set queue len t) i 0)
pushed P queue len t fits old new i within =
    ⊎_elim
    (λ (same : i ≡ len). subst P (sym (ap (λ (m : ℕ). get_or (set queue len t) m 0) same ∙ get_or-set_same queue len t 0 fits)) new)
    (λ (other : i ≢ len).
    let below : i < len = omega (arith, other) in
    subst P (sym (push-old queue len t i below)) (old i below))
    (cases_eq i len)

pub pushed_once : (queue : List ℕ) (len t : ℕ) → len < length queue → ((i j : ℕ) → i < j → j < len → get_or queue i 0 ≢ get_or queue j 0) → ((i : ℕ) → i < len → get_or queue i 0 ≢ t) → (i j : ℕ) → i < j → j < len + 1 → get_or (set queue len t) i 0 ≢ get_or (set queue len t) j 0
pushed_once queue len t fits old new i j less within same =
    let first = push-old queue len t i (omega arith) in
    ⊎_elim
    (λ (end : j ≡ len).
    let last : get_or (set queue len t) j 0 ≡ t = ap (λ (m : ℕ). get_or (set queue len t) m 0) end ∙ get_or-set_same queue len t 0 fits in
    new i (omega arith) (sym first ∙ same ∙ last))
    (λ (other : j ≢ len).
    let below : j < len = omega (arith, other) in
    old i j less below (sym first ∙ same ∙ push-old queue len t j below))
    (cases_eq j len)

-- the new item is in the queue, and those that were there are
pub is_pushed : (queue : List ℕ) (len t k : ℕ) → len < length queue → k ≡ t → IsQueued (set queue len t) (len + 1) k
is_pushed queue len t k fits same = (len, omega arith, get_or-set_same queue len t 0 fits ∙ sym same)

pub still_queued : (queue : List ℕ) (len t k : ℕ) → IsQueued queue len k → IsQueued (set queue len t) (len + 1) k
still_queued queue len t k q = (q.0, omega (arith, q.1), push-old queue len t q.0 q.1 ∙ q.2)

-- the item may be handed out now
pub marks-ready : (c : Core) (missing queue : List ℕ) (len e t : ℕ) → Holds c missing queue len e t → get_or missing t 0 - 1 ≡ 0 → IsTied (with_mark c e) (lowered missing t) (set queue len t) (len + 1)
marks-ready c missing queue len e t holds none =
    let tied = holds.mark.tied in
    let some = some_missing c missing queue len e t holds in
    let counted : t < length missing = omega (arith, tied.counters, holds.is_item) in
    let change = waiting-lowered missing t (get_or missing t 0 - 1) counted in
    let fits : len < length queue = omega (arith, tied.places, room c missing queue len t tied holds.is_item some) in
    let zero_at : get_or (lowered missing t) t 0 ≡ 0 = get_or-set_same missing t (get_or missing t 0 - 1) 0 counted ∙ none in
    record {
      core = marks-core c e tied.core holds.mark.may;
      counters = length-set missing t (get_or missing t 0 - 1) ∙ tied.counters;
      places = length-set queue len t ∙ tied.places;
      counts = lowered-counts c missing queue len e t holds;
      ended = lowered-ended c missing queue len e t holds;
      room = omega (arith, tied.room, change, waits (get_or missing t 0) some, waits_not (get_or missing t 0 - 1) none);
      queued = pushed (λ k. k < c.graph.items) queue len t fits tied.queued holds.is_item;
      queued_has_all = pushed (λ k. get_or (lowered missing t) k 0 ≡ 0) queue len t fits
          (λ i within. get_or-set_other missing t (get_or queue i 0) (get_or missing t 0 - 1) 0 (queued-other c missing queue len e t i holds within) ∙ tied.queued_has_all i within) zero_at;
      once = pushed_once queue len t fits tied.once (λ i within. queued-other c missing queue len e t i holds within);
      kept = λ k item out here.
          ⊎_elim
          (λ (same : k ≡ t). is_pushed queue len t k fits same)
          (λ (other : k ≢ t). still_queued queue len t k (tied.kept k item out (sym (get_or-set_other missing t k (get_or missing t 0 - 1) 0 other) ∙ here)))
          (cases_eq k t);
    }

-- ---- a handing out

-- an item whose counter is 0 and that was not handed out may be
pub is_ready : (c : Core) (missing queue : List ℕ) (len k : ℕ) → IsTied c missing queue len → k < c.graph.items → get_or missing k 0 ≡ 0 → IsOut c.handed k → IsReady c k
is_ready c missing queue len k tied item none out = record {
  is_item = item;
  is_new = out;
  has_all = λ e short to. unmarked-none k (targets c.graph) c.marked e TERMINAL (sym (tied.counts k item) ∙ none) (tied.core.edges ∙ sym (many_targets c)) (omega (arith, short, many_targets c)) to;
}

-- the last item of the queue may be handed out where it was not
pub last_ready : (c : Core) (missing queue : List ℕ) (left k : ℕ) → IsTied c missing queue left → 0 < left → IsOut c.handed (get_or queue (left - 1) 0) → k ≡ get_or queue (left - 1) 0 → IsReady c k
last_ready c missing queue left k tied some out here =
    let last : left - 1 < left = omega (arith, some) in
    let ready = is_ready c missing queue left (get_or queue (left - 1) 0) tied (tied.queued (left - 1) last) (tied.queued_has_all (left - 1) last) out in
    subst (λ (m : ℕ). IsReady c m) (sym here) ready

-- an item that may be handed out has a counter of 0
pub none_missing : (c : Core) (missing queue : List ℕ) (len k : ℕ) → IsTied c missing queue len → IsReady c k → get_or missing k 0 ≡ 0
none_missing c missing queue len k tied ready =
    tied.counts k ready.is_item ∙ unmarked-all k (targets c.graph) c.marked TERMINAL (tied.core.edges ∙ sym (many_targets c)) (λ e short to. ready.has_all e (omega (arith, short, many_targets c)) to)

-- what is not in a set was not in it without one number
out_before : (s : Flags) (k j : ℕ) → IsOut (with_one s k) j → IsOut s j
out_before s k j out =
    ⊎_elim
    (λ (inside : IsIn s j). absurd (false≢true (sym out ∙ in-with_one s k j inside)))
    (λ (outside : IsOut s j). outside)
    (cases_Bool (get_or s j false))

-- an item of the queue that was not handed out is not dropped
stays_queued : (handed : Flags) (queue : List ℕ) (len left k : ℕ) → IsOut handed k → ((i : ℕ) → left ≤ i → i < len → IsIn handed (get_or queue i 0)) → IsQueued queue len k → IsQueued queue left k
stays_queued handed queue len left k out dropped q =
    ⊎_elim
    (λ (low : q.0 < left). (q.0, low, q.2))
    (λ (high : left ≤ q.0).
    let up : IsIn handed k = subst (λ (m : ℕ). IsIn handed m) q.2 (dropped q.0 high q.1) in
    absurd (false≢true (sym out ∙ up)))
    (cases_lt q.0 left)

-- an item is handed out, and the queue stays
pub hands_out : (c : Core) (missing queue : List ℕ) (len k : ℕ) → IsTied c missing queue len → IsReady c k → IsTied (after c (HandsOut k)) missing queue len
hands_out c missing queue len k tied ready = record {
  core = stays c (HandsOut k) tied.core ready;
  counters = tied.counters;
  places = tied.places;
  counts = tied.counts;
  ended = λ j inside.
      ⊎_elim
      (λ (same : j ≡ k). ap (λ (m : ℕ). get_or missing m 0) same ∙ none_missing c missing queue len k tied ready)
      (λ was. tied.ended j was)
      (with_one-cases c.handed k j inside);
  room = tied.room;
  queued = tied.queued;
  queued_has_all = tied.queued_has_all;
  once = tied.once;
  kept = λ j item out none. tied.kept j item (out_before c.handed k j out) none;
}

-- without the items at the end of the queue that were handed out
pub drops : (c : Core) (missing queue : List ℕ) (len left : ℕ) → IsTied c missing queue len → left ≤ len → ((i : ℕ) → left ≤ i → i < len → IsIn c.handed (get_or queue i 0)) → IsTied c missing queue left
drops c missing queue len left tied fewer dropped = record {
  core = tied.core;
  counters = tied.counters;
  places = tied.places;
  counts = tied.counts;
  ended = tied.ended;
  room = omega (arith, tied.room, fewer);
  queued = λ i within. tied.queued i (omega (arith, within, fewer));
  queued_has_all = λ i within. tied.queued_has_all i (omega (arith, within, fewer));
  once = λ i j less within. tied.once i j less (omega (arith, within, fewer));
  kept = λ k item out none. stays_queued c.handed queue len left k out dropped (tied.kept k item out none);
}

-- with an empty queue no item may be handed out
pub none_ready : (c : Core) (missing queue : List ℕ) → IsTied c missing queue 0 → (k : ℕ) → IsReady c k → ⊥
none_ready c missing queue tied k ready =
    let q = tied.kept k ready.is_item ready.is_new (none_missing c missing queue 0 k tied ready) in
    omega (arith, q.1)

-- The rule of words and slots is kept by each step.
use Rattle.std.proofs.Common.{◌≡◌, ℕ, zero, suc, ◌+◌, ◌<◌, ◌≤◌, ◌%◌, ◌⊎◌, inl, inr, ⊎_elim, Bool, eqb, List, [], ◌∷◌, ◌++◌, length, map, get_or, set, replicate, Option, Some, None, refl, sym, ap, ◌∙◌, subst, arith}
use Rattle.std.specs.Prelude.{min}
use Rattle.std.proofs.lemmas.Bool.{eq-eqb, ne_eqb}
use Rattle.std.proofs.lemmas.List.{length-set, length-replicate, length-map}
use mathlib.Core.Logic.{dite}
use mathlib.Core.Option as M
use native.Mathlib.Decide.{ℕ_discrete, dec_lt}
use mathlib.Core.Option.{some, none, some-injective, some-ne-none}
use lib.ListN.{get_elem?}
use prog.Atomic.{either}
use Rattle.atomic_table.specs.Table.{State, Me, Act, keeps, takes, gives, chain, rest, carried_after, homes_after, Valid, stepped, Allows, Splits, Joins, opening}
use Rattle.atomic_table.proofs.Lists.{set_here, set_else, set_again}
use Rattle.turn_core.specs.declared.edge.Edge.{Edge}
use Rattle.turn_core.proofs.Places.{places-short}
use Rattle.pool_workers.specs.declared.view.View.{View}
use Rattle.pool_workers.specs.Sums.{once, times, missing, source_at, target_at, IsForward, incoming_of, outgoing_of}
use Rattle.pool_workers.specs.Words.{AreAtStart, taken_word, all_parts, view, takers, givers, left, word_at, Fair, Words, with_item, with_edge, less_one_part, one_part, together, spent}
use Rattle.pool_workers.specs.Slots.{Cell, Kept}
use Rattle.pool_workers.specs.Steps.{MayGive, keys_of, Inputs, Taking, Giving, Returning}
use Rattle.pool_workers.proofs.Totals.{total-set, total-snoc, one_le}
use Rattle.pool_workers.proofs.Counts.{once_same, once_other, times-append, times-snoc, missing-none, none_missing, missing_all, set_self, times_incoming, times_outgoing}
use Rattle.pool_workers.proofs.WordSteps as W

-- ---- slots that are taken at once

module _ {S : Type 0} where
  abbrev pub take_keys : (ℕ → S) → List ℕ → Act S
  take_keys f [] = keeps
  take_keys f (k ∷ ks) = chain (take_keys f ks) (takes k (f k))

  pub carried-keys : (f : ℕ → S) (ks : List ℕ) (c : List (ℕ × S)) → carried_after c (take_keys f ks) ≡ map (λ k. (k, f k)) ks ++ c
  carried-keys f [] c = refl
  carried-keys f (k ∷ ks) c = ap (λ (l : List (ℕ × S)). (k, f k) ∷ l) (carried-keys f ks c)

  pub away : (f : ℕ → S) (ks : List ℕ) (hs : List (M.Option S)) (c : List (ℕ × S)) (j : ℕ) → times j ks ≡ 0 → get_elem? (homes_after hs c (take_keys f ks)) j ≡ get_elem? hs j
  away f [] hs c j absent = refl
  away f (k ∷ ks) hs c j none_of =
      set_else (homes_after hs c (take_keys f ks)) k j none (λ e. let o = once_same j k e in omega arith)
      ∙ away f ks hs c j (omega arith)

  pub valid : (f : ℕ → S) (ks : List ℕ) (hs : List (M.Option S)) (c : List (ℕ × S)) → ((j : ℕ) → times j ks ≤ 1) → ((j : ℕ) → 1 ≤ times j ks → get_elem? hs j ≡ some (some (f j))) → Valid hs c (take_keys f ks)
  valid f [] hs c apart home = tt
  valid f (k ∷ ks) hs c apart home =
      let o = once_same k k refl in
      let a = apart k in (
        valid f ks hs c (λ j. let b = apart j in omega arith) (λ j one. home j (omega arith)),
        away f ks hs c k (omega arith) ∙ home k (omega arith),
      )

  pub length-homes : (f : ℕ → S) (ks : List ℕ) (hs : List (M.Option S)) (c : List (ℕ × S)) → length (homes_after hs c (take_keys f ks)) ≡ length hs
  length-homes f [] hs c = refl
  length-homes f (k ∷ ks) hs c = length-set (homes_after hs c (take_keys f ks)) k none ∙ length-homes f ks hs c

  top_key : List (ℕ × S) → ℕ
  top_key [] = 0
  top_key (x ∷ xs) = x.0

  pub same_key : (e j : ℕ) (x y : S) (xs ys : List (ℕ × S)) → (e, x) ∷ xs ≡ (j, y) ∷ ys → e ≡ j
  unfolding top_key
  same_key e j x y xs ys p = ap top_key p

-- what lies at home
abbrev found : {E : Type 0} → M.Option (M.Option (Option E)) → Option E
found none = None
found (some none) = None
found (some (some y)) = y

at_start : {S : Type 0} (n e : ℕ) (x : S) → e < n → get_elem? (map some (replicate n x)) e ≡ some (some x)
at_start zero e x within = absurd (omega arith)
at_start (suc n) zero x within = refl
at_start (suc n) (suc e) x within = at_start n e x (omega arith)

past : (xs : List ℕ) (e d : ℕ) → length xs ≤ e → get_or xs e d ≡ d
past [] e d high = refl
past (x ∷ xs) zero d high = absurd (omega arith)
past (x ∷ xs) (suc e) d high = past xs e d (omega arith)

-- no edge ends where it starts
no_loop : (items : ℕ) (edges : List Edge) (item e : ℕ) → IsForward items edges → item < items → target_at edges e ≡ item → source_at edges e ≡ item → ⊥
no_loop items edges item e f is_item t s =
    let few = f.few in
    let l = length-map edges (λ x. x.target) in
    dite (dec_lt e (length edges))
    (λ within. let g = f.targets e within (λ z. omega arith) in omega (arith, g.0))
    (λ high. let p = past (map (λ x. x.target) edges) e 4294967295 (omega arith) in omega arith)

-- an edge stands once among those of an item
keys_once : (items : ℕ) (edges : List Edge) (item e : ℕ) → IsForward items edges → item < items → times e (keys_of item edges) ≤ 1
keys_once items edges item e f is_item =
    let few = f.few in
    let a = times-append e (incoming_of item edges) (outgoing_of item edges) in
    let i = times_incoming item edges e (omega arith) in
    let o = times_outgoing item edges e (omega arith) in
    dite (ℕ_discrete (target_at edges e) item)
    (λ t. let x = once_same (target_at edges e) item t in let y = once_other (source_at edges e) item (no_loop items edges item e f is_item t) in omega arith)
    (λ t. let x = once_other (target_at edges e) item t in
    dite (ℕ_discrete (source_at edges e) item)
    (λ s. let y = once_same (source_at edges e) item s in omega arith)
    (λ s. let y = once_other (source_at edges e) item s in omega arith))

within_of : (items : ℕ) (edges : List Edge) (e : ℕ) (item : ℕ) → IsForward items edges → item < items → (target_at edges e ≡ item) ⊎ (source_at edges e ≡ item) → e < length edges
within_of items edges e item f is_item is =
    let few = f.few in
    let l = length-map edges (λ x. x.target) in
    let m = length-map edges (λ x. x.source) in
    dite (dec_lt e (length edges)) (λ within. within)
    (λ high.
    let p = past (map (λ x. x.target) edges) e 4294967295 (omega arith) in
    let q = past (map (λ x. x.source) edges) e 4294967295 (omega arith) in
    ⊎_elim (λ t. absurd (omega arith)) (λ t. absurd (omega arith)) is)

module _ {E : Type 0} (items : ℕ) (edges : List Edge) (means : ℕ → E → Type 0) where
  -- ---- views that are regrouped

  pub kept_regroup : (s : State (Option E) View) (news : List View) → Kept items edges means s → Words items edges s.words news → ((x : ℕ) → takers news x ≡ takers s.views x) → ((e : ℕ) → givers news e ≡ givers s.views e) → Kept items edges means (record { words = s.words; homes = s.homes; views = news })
  kept_regroup s news k w took gave = record {
    words = w;
    slots = k.slots;
    cells = λ e within. let c = k.cells e within in record {
      empty = λ z. c.empty (sym (took (source_at edges e)) ∙ z);
      full = λ g t. c.full (subst (λ (n : ℕ). 1 ≤ n) (gave e) g) (sym (took (target_at edges e)) ∙ t);
    };
  }

  pub split_kept : (id : ℕ) (v : View) → 1 < v.parts → Splits (Kept items edges means) id v (less_one_part v) (one_part v)
  split_kept id v more s k at =
      kept_regroup s (set s.views id (less_one_part v) ++ one_part v ∷ []) k (W.splits items edges s.words s.views id v more at k.words)
      (λ x. let a = total-snoc (λ u. times x u.took) (set s.views id (less_one_part v)) (one_part v) in let t = total-set (λ u. times x u.took) s.views id v (less_one_part v) at in omega arith)
      (λ e. let a = total-snoc (λ u. times e u.gave) (set s.views id (less_one_part v)) (one_part v) in let t = total-set (λ u. times e u.gave) s.views id v (less_one_part v) at in omega arith)

  pub join_kept : (id : ℕ) (v : View) (other : ℕ) (o : View) → 0 < v.parts → Joins (Kept items edges means) id v other o (together v o) spent
  join_kept id v other o some_part s k at apart there =
      kept_regroup s (set (set s.views id (together v o)) other spent) k (W.joins items edges s.words s.views id v other o some_part at apart there k.words)
      (λ x. let a = total-set (λ u. times x u.took) (set s.views id (together v o)) other o spent there in let t = total-set (λ u. times x u.took) s.views id v (together v o) at in let p = times-append x v.took o.took in omega arith)
      (λ e. let a = total-set (λ u. times e u.gave) (set s.views id (together v o)) other o spent there in let t = total-set (λ u. times e u.gave) s.views id v (together v o) at in let p = times-append e v.gave o.gave in omega arith)

  -- ---- an item is taken

  module _ (dag : IsForward items edges) (item : ℕ) (is_item : item < items) (s : State (Option E) View) (k : Kept items edges means s) (id : ℕ) (v : View) (some_part : 0 < v.parts) (at : get_elem? s.views id ≡ some v) (free : word_at s.words item ≡ 0) where
    no_taker : takers s.views item ≡ 0
    no_taker = let t = k.words.taken item is_item in let o = once_other (word_at s.words item) taken_word (λ z. omega arith) in omega arith

    min_item : min items item ≡ item
    min_item = omega arith

    none_left : missing item 0 edges (givers s.views) ≡ 0
    none_left =
        let w = k.words.waits item (inl is_item) in
        let l : left (word_at s.words (min items item)) ≡ 0 = subst (λ (j : ℕ). left (word_at s.words j) ≡ 0) (sym min_item) (ap left free) in
        omega arith

    home_in : (e : ℕ) → e < length edges → target_at edges e ≡ item → (x : E) × (get_elem? s.homes e ≡ some (some (Some x))) × means e x
    home_in e within t =
        let c = k.cells e within in
        let at_e : 0 + e ≡ e = omega arith in
        c.full (subst (λ (m : ℕ). 1 ≤ givers s.views m) at_e (missing-none item 0 edges (givers s.views) none_left e within t)) (ap (takers s.views) t ∙ no_taker)

    home_out : (e : ℕ) → e < length edges → source_at edges e ≡ item → get_elem? s.homes e ≡ some (some None)
    home_out e within o = (k.cells e within).empty (ap (takers s.views) o ∙ no_taker)

    abbrev pub at_home : ℕ → Option E
    at_home e = found (get_elem? s.homes e)

    pub took_inputs : Inputs edges means item at_home
    took_inputs = record {
      full = λ e within t. let h = home_in e within t in (h.0, ap found h.1, h.2);
      empty = λ e within o. ap found (home_out e within o);
    }

    is_home : (e : ℕ) → 1 ≤ times e (keys_of item edges) → get_elem? s.homes e ≡ some (some (at_home e))
    is_home e one =
        let few = dag.few in
        let a = times-append e (incoming_of item edges) (outgoing_of item edges) in
        let i = times_incoming item edges e (omega arith) in
        let o = times_outgoing item edges e (omega arith) in
        dite (ℕ_discrete (target_at edges e) item)
        (λ t. let h = home_in e (within_of items edges e item dag is_item (inl t)) t in h.1 ∙ ap (λ (y : Option E). some (some y)) (sym (ap found h.1)))
        (λ t. let x = once_other (target_at edges e) item t in
        dite (ℕ_discrete (source_at edges e) item)
        (λ b. let h = home_out e (within_of items edges e item dag is_item (inr b)) b in h ∙ ap (λ (y : Option E). some (some y)) (sym (ap found h)))
        (λ b. let y = once_other (source_at edges e) item b in absurd (omega arith)))

    pub took_valid : (c : List (ℕ × Option E)) → Valid s.homes c (take_keys at_home (keys_of item edges))
    took_valid c = valid at_home (keys_of item edges) s.homes c (λ e. keys_once items edges item e dag is_item) is_home

    more_takers : (y : ℕ) → takers (set s.views id (with_item v item)) y ≡ takers s.views y + once (eqb y item)
    more_takers y = let t = total-set (λ u. times y u.took) s.views id v (with_item v item) at in let p = times-snoc y v.took item in omega arith

    same_givers : (e : ℕ) → givers (set s.views id (with_item v item)) e ≡ givers s.views e
    same_givers e = let t = total-set (λ u. times e u.gave) s.views id v (with_item v item) at in omega arith

    took_cell : (c : List (ℕ × Option E)) (e : ℕ) → e < length edges → Cell (means e) (takers (set s.views id (with_item v item)) (source_at edges e)) (givers (set s.views id (with_item v item)) e) (takers (set s.views id (with_item v item)) (target_at edges e)) (get_elem? (homes_after s.homes c (take_keys at_home (keys_of item edges))) e)
    took_cell c e within =
        let few = dag.few in
        let old = k.cells e within in
        let below = W.given_below items edges s.words s.views e k.words in
        let a = times-append e (incoming_of item edges) (outgoing_of item edges) in
        let i = times_incoming item edges e (omega arith) in
        let o = times_outgoing item edges e (omega arith) in
        let ms = more_takers (source_at edges e) in
        let mt = more_takers (target_at edges e) in
        let g = same_givers e in
        dite (ℕ_discrete (source_at edges e) item)
        (λ b.
        let y = once_same (source_at edges e) item b in
        let z : takers s.views (source_at edges e) ≡ 0 = ap (takers s.views) b ∙ no_taker in
        record { empty = λ none_took. absurd (omega arith); full = λ given none_took. absurd (omega arith) })
        (λ b.
        let y = once_other (source_at edges e) item b in
        dite (ℕ_discrete (target_at edges e) item)
        (λ t.
        let x = once_same (target_at edges e) item t in
        let at_e : 0 + e ≡ e = omega arith in
        let one = subst (λ (m : ℕ). 1 ≤ givers s.views m) at_e (missing-none item 0 edges (givers s.views) none_left e within t) in
        record { empty = λ none_took. absurd (omega arith); full = λ given none_took. absurd (omega arith) })
        (λ t.
        let x = once_other (target_at edges e) item t in
        let stays = away at_home (keys_of item edges) s.homes c e (omega arith) in
        record {
          empty = λ none_took. stays ∙ old.empty (omega arith);
          full = λ given none_took. let r = old.full (omega arith) (omega arith) in (r.0, stays ∙ r.1, r.2);
        }))

    pub took_kept : (c : List (ℕ × Option E)) → Kept items edges means (stepped s item taken_word id c (with_item v item) (take_keys at_home (keys_of item edges)))
    took_kept c = record {
      words = W.takes items edges s.words s.views id v item is_item some_part at free k.words;
      slots = length-homes at_home (keys_of item edges) s.homes c ∙ k.slots;
      cells = took_cell c;
    }

  -- where all edges to an item were given by one view, its word is 0 or that of a taken item
  own_last : (s : State (Option E) View) (item id : ℕ) (v : View) → item < items → Kept items edges means s → get_elem? s.views id ≡ some v → missing item 0 edges (λ e. times e v.gave) ≡ 0 → left (word_at s.words item) ≡ 0
  own_last s item id v is_item k at none_missed =
      let all = none_missing item 0 edges (givers s.views) (λ d within t. let m = missing-none item 0 edges (λ e. times e v.gave) none_missed d within t in let l = one_le (λ u. times (0 + d) u.gave) s.views id v at in omega arith) in
      let w = k.words.waits item (inl is_item) in
      let m : min items item ≡ item = omega arith in
      subst (λ (j : ℕ). left (word_at s.words j) ≡ 0) m (w ∙ all)

  own_take : (s : State (Option E) View) (item id : ℕ) (v : View) → item < items → Kept items edges means s → get_elem? s.views id ≡ some v → v.parts ≡ all_parts → word_at s.words item ≡ taken_word → times item v.took ≡ 1
  own_take s item id v is_item k at all is =
      let o = W.knows_takers items edges s.words s.views id v all at k.words item in
      let t = k.words.taken item is_item in
      let e = once_same (word_at s.words item) taken_word is in
      omega arith

  -- the table as it was
  same_state : (s : State (Option E) View) (i id : ℕ) (v : View) (c : List (ℕ × Option E)) → Kept items edges means s → get_elem? s.views id ≡ some v → Kept items edges means (stepped s i (word_at s.words i) id c v keeps)
  same_state s i id v c k at =
      subst (λ (ws : List ℕ). Kept items edges means (record { words = ws; homes = s.homes; views = set s.views id v })) (sym (set_self s.words i))
      (subst (λ (vs : List View). Kept items edges means (record { words = s.words; homes = s.homes; views = vs })) (sym (set_again s.views id v at)) k)

  pub allow_take : (slots id item : ℕ) (me : Me (Option E) View) → IsForward items edges → item < items → 0 < me.0.parts → Allows (Kept items edges means) slots id me item (λ n. either (eqb n 0) taken_word n) (Taking edges means item me)
  allow_take slots id item me dag is_item some_part s k many at small =
      dite (ℕ_discrete (word_at s.words item) 0)
      (λ free.
      let f = at_home dag item is_item s k id me.0 some_part at free in
      let keys = keys_of item edges in (
        with_item me.0 item,
        take_keys (at_home dag item is_item s k id me.0 some_part at free) (keys_of item edges),
        took_valid dag item is_item s k id me.0 some_part at free me.1,
        subst (λ (b : Bool). Kept items edges means (stepped s item (either b taken_word (word_at s.words item)) id me.1 (with_item me.0 item) (take_keys (at_home dag item is_item s k id me.0 some_part at free) (keys_of item edges)))) (sym (eq-eqb (word_at s.words item) 0 free)) (took_kept dag item is_item s k id me.0 some_part at free me.1),
        record {
          hit = λ zero_word. (refl, at_home dag item is_item s k id me.0 some_part at free, carried-keys (at_home dag item is_item s k id me.0 some_part at free) (keys_of item edges) me.1, took_inputs dag item is_item s k id me.0 some_part at free);
          miss = λ other. absurd (other free);
          fresh = λ zero_word. let o = one_le (λ u. times item u.took) s.views id me.0 at in let z = no_taker dag item is_item s k id me.0 some_part at free in omega arith;
          last = λ none_missed. ap left free;
          mine = λ all is. absurd (omega arith);
        },
      ))
      (λ busy. (
        me.0,
        keeps,
        tt,
        subst (λ (b : Bool). Kept items edges means (stepped s item (either b taken_word (word_at s.words item)) id me.1 me.0 keeps)) (sym (ne_eqb (word_at s.words item) 0 busy)) (same_state s item id me.0 me.1 k at),
        record {
          hit = λ zero_word. absurd (busy zero_word);
          miss = λ other. refl;
          fresh = λ zero_word. absurd (busy zero_word);
          last = λ none_missed. own_last s item id me.0 is_item k at none_missed;
          mine = λ all is. own_take s item id me.0 is_item k at all is;
        },
      ))

  -- ---- an edge is given

  less_one : (n : ℕ) → 1 ≤ n → n < 18446744073709551616 → (n + 18446744073709551615) % 18446744073709551616 + 1 ≡ n
  less_one n some_left small = omega arith

  pub allow_give : (slots id e : ℕ) (v : View) (y : E) (others : List (ℕ × Option E)) → MayGive items edges v e → means e y → Allows (Kept items edges means) slots id (v, (e, Some y) ∷ others) (min items (target_at edges e)) (λ n. (n + 18446744073709551615) % 18446744073709551616) (λ n after. Giving (v, (e, Some y) ∷ others) after)
  allow_give slots id e v y others may mean s k many at small =
      let i : ℕ = min items (target_at edges e) in
      let sl = W.some_left items edges s.words s.views id v e at may k.words in
      let m : ℕ = (word_at s.words i + 18446744073709551615) % 18446744073709551616 in
      let one : (word_at s.words i + 18446744073709551615) % 18446744073709551616 + 1 ≡ word_at s.words i = less_one (word_at s.words i) sl.0 small in
      let gave = W.gave_one items edges s.words s.views id v e at may k.words in (
        with_edge v e,
        gives,
        tt,
        record {
          words = W.gives items edges s.words s.views id v e at may k.words ((word_at s.words (min items (target_at edges e)) + 18446744073709551615) % 18446744073709551616) one (omega arith);
          slots = length-set s.homes e (some (Some y)) ∙ k.slots;
          cells = λ j within.
              let old = k.cells j within in
              let g = gave j in
              let ts = total-set (λ u. times (source_at edges j) u.took) s.views id v (with_edge v e) at in
              let tt' = total-set (λ u. times (target_at edges j) u.took) s.views id v (with_edge v e) at in
              let ns : takers (set s.views id (with_edge v e)) (source_at edges j) ≡ takers s.views (source_at edges j) = omega arith in
              let nt : takers (set s.views id (with_edge v e)) (target_at edges j) ≡ takers s.views (target_at edges j) = omega arith in
              dite (ℕ_discrete j e)
              (λ same.
              let here : get_elem? (set s.homes e (some (Some y))) j ≡ some (some (Some y)) = subst (λ (x : ℕ). get_elem? (set s.homes e (some (Some y))) x ≡ some (some (Some y))) (sym same) (set_here s.homes e (some (Some y)) (let l = k.slots in let w = may.within in omega arith)) in
              let l = one_le (λ u. times (source_at edges e) u.took) s.views id v at in
              let some_took : 1 ≤ takers s.views (source_at edges j) = subst (λ (x : ℕ). 1 ≤ takers s.views (source_at edges x)) (sym same) (let t = may.took in omega arith) in
              record {
                empty = λ none_took. absurd (omega arith);
                full = λ given none_took. (y, here, subst (λ (x : ℕ). means x y) (sym same) mean);
              })
              (λ apart.
              let stays = set_else s.homes e j (some (Some y)) apart in
              let o = once_other j e apart in
              record {
                empty = λ none_took. stays ∙ old.empty (omega arith);
                full = λ given none_took. let r = old.full (omega arith) (omega arith) in (r.0, stays ∙ r.1, r.2);
              });
        },
        (λ j z rest_of is.
            let p = same_key e j (Some y) z others rest_of is in
            let q : others ≡ rest_of = ap rest is in
            λ i. (with_edge v (p i), q i)),
      )

  -- ---- an emptied slot is given back

  pub allow_return : (slots id e item : ℕ) (v : View) (others : List (ℕ × Option E)) → e < length edges → target_at edges e ≡ item → 1 ≤ times item v.took → Allows (Kept items edges means) slots id (v, (e, None) ∷ others) item (λ n. n) (λ n after. Returning (v, (e, None) ∷ others) after)
  allow_return slots id e item v others within t took s k many at small = (
    v,
    gives,
    tt,
    subst (λ (ws : List ℕ). Kept items edges means (record { words = ws; homes = set s.homes e (some None); views = set s.views id v })) (sym (set_self s.words item))
        (subst (λ (vs : List View). Kept items edges means (record { words = s.words; homes = set s.homes e (some None); views = vs })) (sym (set_again s.views id v at))
        (record {
          words = k.words;
          slots = length-set s.homes e (some None) ∙ k.slots;
          cells = λ j inside.
              let old = k.cells j inside in
              dite (ℕ_discrete j e)
              (λ same.
              let here : get_elem? (set s.homes e (some None)) j ≡ some (some None) = subst (λ (x : ℕ). get_elem? (set s.homes e (some None)) x ≡ some (some None)) (sym same) (set_here s.homes e (some None) (let l = k.slots in omega arith)) in
              let l = one_le (λ u. times item u.took) s.views id v at in
              let e_t : target_at edges j ≡ item = ap (target_at edges) same ∙ t in
              let some_took : 1 ≤ takers s.views (target_at edges j) = subst (λ (x : ℕ). 1 ≤ takers s.views x) (sym e_t) (omega arith) in
              record { empty = λ none_took. here; full = λ given none_took. absurd (omega arith) })
              (λ apart.
              let stays = set_else s.homes e j (some None) apart in
              record {
                empty = λ none_took. stays ∙ old.empty none_took;
                full = λ given none_took. let r = old.full given none_took in (r.0, stays ∙ r.1, r.2);
              });
        })),
    (λ p rest_of is. let q : others ≡ rest_of = ap rest is in λ i. (v, q i)),
  )

  -- ---- the start

  pub opens : (words : List ℕ) → IsForward items edges → AreAtStart items edges words → Kept items edges means (opening words (replicate (length edges) None) (view 1024 [] []))
  opens words dag start = record {
    words = record {
      wide = start.wide;
      parts = refl;
      each = λ id v here. fair_at id v here;
      taken = λ x is_item.
          let w = start.waits x (inl is_item) in
          let few = dag.few in
          let m : min items x ≡ x = omega arith in
          let ws : word_at words x ≡ length (incoming_of x edges) = subst (λ (j : ℕ). word_at words j ≡ length (incoming_of x edges)) m w in
          let short = places-short x (map (λ (y : Edge). y.target) edges) in
          let l = length-map edges (λ x. x.target) in
          sym (once_other (word_at words x) taken_word (λ z. omega arith));
      waits = λ t is.
          let w = start.waits t is in
          let few = dag.few in
          let short = places-short t (map (λ (y : Edge). y.target) edges) in
          let l = length-map edges (λ x. x.target) in
          W.left-other items edges (word_at words (min items t)) (λ z. omega arith) ∙ w ∙ sym (missing_all t 0 edges (givers (view 1024 [] [] ∷ [])) (λ j. refl));
    };
    slots = length-map (replicate (length edges) None) some ∙ length-replicate (length edges) None;
    cells = λ e within. record { empty = λ z. at_start (length edges) e None within; full = λ given none_took. absurd (omega arith) };
  }
    where
      fair_at : (id : ℕ) (v : View) → get_elem? (view 1024 [] [] ∷ []) id ≡ some v → Fair items edges v
      fair_at zero v here = subst (λ (u : View). Fair items edges u) (some-injective (view 1024 [] []) v here) (record { known = λ x high. refl; gave = λ e. omega arith; idle = λ none_of. (refl, refl) })
      fair_at (suc id) v here = absurd (some-ne-none v (sym here))

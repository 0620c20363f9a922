-- One item: its inputs are read, it is run, and its outputs are given.
use Rattle.std.proofs.Common.{◌≡◌, ◌≢◌, ℕ, zero, suc, ◌+◌, ◌<◌, ◌≤◌, inl, inr, Bool, cond, List, [], ◌∷◌, ◌++◌, length, map, get_or, take, drop, Option, Some, None, refl, sym, ap, ap₂, ◌∙◌, subst, arith, append_assoc}
use Rattle.std.proofs.Math.Seq.{drop-cons}
use Rattle.std.proofs.lemmas.Bool.{ne_eqb}
use Rattle.std.proofs.lemmas.List.{append-nil, take_more, take_all, take-append-drop, length-map, length-drop}
use mathlib.Core.Logic.{dite}
use native.Mathlib.Decide.{ℕ_discrete, dec_lt}
use Rattle.atomic_table.specs.Table.{Me, rest}
use Rattle.turn_core.specs.declared.edge.Edge.{Edge}
use Rattle.turn_core.proofs.Places.{places-each, places-short}
use Rattle.task_pool.specs.Meanings.{AreMeanings}
use Rattle.pool_workers.specs.declared.view.View.{View}
use Rattle.pool_workers.specs.Sums.{times, missing, source_at, target_at, IsForward, incoming_of, outgoing_of}
use Rattle.pool_workers.specs.Words.{taken_word, all_parts, view, left, with_item, with_edge}
use Rattle.pool_workers.specs.Steps.{keys_of, held, Taking, Holding, empties, with_edges, Complete, IsIdle, MayGive, IsTop}
use Rattle.pool_workers.proofs.Counts.{once_same, times-append, times-snoc, times_outgoing}

pub meanings-snoc : {E : Type 0} (means : ℕ → E → Type 0) (es : List ℕ) (vs : List E) (e : ℕ) (v : E) → AreMeanings means es vs → means e v → AreMeanings means (es ++ e ∷ []) (vs ++ v ∷ [])
meanings-snoc means [] [] e v are m = (m, tt)
meanings-snoc means [] (w ∷ vs) e v are m = absurd are
meanings-snoc means (d ∷ es) [] e v are m = absurd are
meanings-snoc means (d ∷ es) (w ∷ vs) e v are m = (are.0, meanings-snoc means es vs e v are.1 m)

pub agree_all : {E : Type 0} (m n : ℕ → E → Type 0) (es : List ℕ) (vs : List E) → ((e : ℕ) (x : E) → m e x → n e x) → AreMeanings m es vs → AreMeanings n es vs
agree_all m n [] [] agree are = tt
agree_all m n [] (v ∷ vs) agree are = are
agree_all m n (e ∷ es) [] agree are = are
agree_all m n (e ∷ es) (v ∷ vs) agree are = (agree e v are.0, agree_all m n es vs agree are.1)

-- ---- the edges of an item

pub in_incoming : (item : ℕ) (edges : List Edge) (i : ℕ) → i < length (incoming_of item edges) → (get_or (incoming_of item edges) i 0 < length edges) × (target_at edges (get_or (incoming_of item edges) i 0) ≡ item)
in_incoming item edges i short =
    let p = places-each item (map (λ (x : Edge). x.target) edges) i short in
    let l = length-map edges (λ x. x.target) in
    let same : get_or (incoming_of item edges) i 0 ≡ p.at = omega (arith, p.is) in
    (omega (arith, p.within), ap (target_at edges) same ∙ p.here 4294967295)

pub in_outgoing : (item : ℕ) (edges : List Edge) (i : ℕ) → i < length (outgoing_of item edges) → (get_or (outgoing_of item edges) i 0 < length edges) × (source_at edges (get_or (outgoing_of item edges) i 0) ≡ item)
in_outgoing item edges i short =
    let p = places-each item (map (λ (x : Edge). x.source) edges) i short in
    let l = length-map edges (λ x. x.source) in
    let same : get_or (outgoing_of item edges) i 0 ≡ p.at = omega (arith, p.is) in
    (omega (arith, p.within), ap (source_at edges) same ∙ p.here 4294967295)

pub edges_below : (item : ℕ) (edges : List Edge) → (length (incoming_of item edges) ≤ length edges) × (length (outgoing_of item edges) ≤ length edges)
edges_below item edges =
    let l = length-map edges (λ x. x.target) in
    let m = length-map edges (λ x. x.source) in
    let a = places-short item (map (λ (x : Edge). x.target) edges) in
    let b = places-short item (map (λ (x : Edge). x.source) edges) in
    (omega arith, omega arith)

-- ---- inputs

drop_all : (xs : List ℕ) (k : ℕ) → length xs ≤ k → drop k xs ≡ []
drop_all [] zero long = refl
drop_all [] (suc k) long = refl
drop_all (x ∷ xs) zero long = absurd (omega arith)
drop_all (x ∷ xs) (suc k) long = drop_all xs k (omega arith)

no_drop : (xs : List ℕ) (k : ℕ) → drop k xs ≡ [] → length xs ≤ k
no_drop xs k e = let l = length-drop k xs in let z = ap length e in omega arith

pub complete_more : (items : ℕ) (edges : List Edge) (item : ℕ) (v : View) → IsForward items edges → item < items → Complete edges v → Complete edges (with_edges (with_item v item) (outgoing_of item edges))
complete_more items edges item v dag is_item complete e within =
    let few = dag.few in
    let c = complete e within in
    let o = times_outgoing item edges e (omega arith) in
    let a = times-append e v.gave (outgoing_of item edges) in
    let s = times-snoc (source_at edges e) v.took item in
    omega arith

module _ {E : Type 0} where
  top_value : List (ℕ × Option E) → Option E
  top_value [] = None
  top_value (x ∷ xs) = x.1

  same_value : (e j : ℕ) (x y : Option E) (xs ys : List (ℕ × Option E)) → (e, x) ∷ xs ≡ (j, y) ∷ ys → x ≡ y
  unfolding top_value
  same_value e j x y xs ys p = ap top_value p

  pub record Read (edges : List Edge) (means : ℕ → E → Type 0) (item k : ℕ) (e : ℕ) (c : List (ℕ × Option E)) : Type 0 where
    pub value : E
    pub is : c ≡ (e, Some value) ∷ rest c
    pub mean : means e value
    pub next : Holding edges means item (k + 1) (rest c)

  -- the next input is on top
  pub reads : (edges : List Edge) (means : ℕ → E → Type 0) (item k : ℕ) (c : List (ℕ × Option E)) → k < length (incoming_of item edges) → Holding edges means item k c → Read edges means item k (get_or (incoming_of item edges) k 0) c
  reads edges means item k c short h =
      let e : ℕ = get_or (incoming_of item edges) k 0 in
      let p = in_incoming item edges k short in
      let y = h.inputs.full (get_or (incoming_of item edges) k 0) p.0 p.1 in
      let one : suc k ≡ k + 1 = omega arith in
      let d : drop k (incoming_of item edges) ≡ get_or (incoming_of item edges) k 0 ∷ drop (k + 1) (incoming_of item edges) = drop-cons (incoming_of item edges) k 0 short ∙ ap (λ (n : ℕ). get_or (incoming_of item edges) k 0 ∷ drop n (incoming_of item edges)) one in
      let whole : c ≡ (get_or (incoming_of item edges) k 0, h.f (get_or (incoming_of item edges) k 0)) ∷ held h.f (drop (k + 1) (incoming_of item edges) ++ outgoing_of item edges) = h.is ∙ ap (λ (l : List ℕ). held h.f (l ++ outgoing_of item edges)) d in
      let tail : rest c ≡ held h.f (drop (k + 1) (incoming_of item edges) ++ outgoing_of item edges) = ap rest whole in
      record {
        value = y.0;
        is = whole ∙ ap₂ (λ (x : Option E) (l : List (ℕ × Option E)). (get_or (incoming_of item edges) k 0, x) ∷ l) y.1 (sym tail);
        mean = y.2;
        next = record { f = h.f; is = tail; inputs = h.inputs };
      }

  pub read_is : (edges : List Edge) (means : ℕ → E → Type 0) (item k e : ℕ) (c : List (ℕ × Option E)) (x : Option E) (r : Read edges means item k e c) → c ≡ (e, x) ∷ rest c → x ≡ Some r.value
  read_is edges means item k e c x r is = same_value e e x (Some r.value) (rest c) (rest c) (sym is ∙ r.is)

  pub reads_more : (edges : List Edge) (means : ℕ → E → Type 0) (item k : ℕ) (vs : List E) (v : E) → k < length (incoming_of item edges) → AreMeanings means (take k (incoming_of item edges)) vs → means (get_or (incoming_of item edges) k 0) v → AreMeanings means (take (k + 1) (incoming_of item edges)) (vs ++ v ∷ [])
  reads_more edges means item k vs v short are m =
      subst (λ (l : List ℕ). AreMeanings means l (vs ++ v ∷ [])) (sym (take_more (incoming_of item edges) k 0 short)) (meanings-snoc means (take k (incoming_of item edges)) vs (get_or (incoming_of item edges) k 0) v are m)

  out_held : (f : ℕ → Option E) (ks : List ℕ) → ((i : ℕ) → i < length ks → f (get_or ks i 0) ≡ None) → held f ks ≡ empties ks
  out_held f [] none = refl
  out_held f (k ∷ ks) none = ap₂ (λ (x : Option E) (l : List (ℕ × Option E)). (k, x) ∷ l) (none 0 (omega arith)) (out_held f ks (λ i short. none (suc i) (omega arith)))

  -- all inputs were read
  pub read_all : (edges : List Edge) (means : ℕ → E → Type 0) (item k : ℕ) (c : List (ℕ × Option E)) → length (incoming_of item edges) ≤ k → Holding edges means item k c → c ≡ empties (outgoing_of item edges)
  read_all edges means item k c long h =
      h.is ∙ ap (λ (l : List ℕ). held h.f (l ++ outgoing_of item edges)) (drop_all (incoming_of item edges) k long)
      ∙ out_held h.f (outgoing_of item edges) (λ i short. let p = in_outgoing item edges i short in h.inputs.empty (get_or (outgoing_of item edges) i 0) p.0 p.1)

  -- ---- outputs

  -- of the edges from an item so many were given
  pub record Gave (edges : List Edge) (means : ℕ → E → Type 0) (item k : ℕ) (v : View) (me : Me (Option E) View) (left_over : List E) : Type 0 where
    pub view_is : me.0 ≡ with_edges v (take k (outgoing_of item edges))
    pub slots : me.1 ≡ empties (drop k (outgoing_of item edges))
    pub mean : AreMeanings means (drop k (outgoing_of item edges)) left_over
    pub some_left : k ≤ length (outgoing_of item edges)

  pub gave_none : (edges : List Edge) (means : ℕ → E → Type 0) (item : ℕ) (v : View) (me : Me (Option E) View) (vs : List E) → me.0 ≡ v → me.1 ≡ empties (outgoing_of item edges) → AreMeanings means (outgoing_of item edges) vs → Gave edges means item 0 v me vs
  gave_none edges means item v me vs same slots are = record {
    view_is = same ∙ ap (λ (l : List ℕ). view v.parts v.took l) (sym (append-nil v.gave));
    slots = slots;
    mean = are;
    some_left = omega arith;
  }

  -- what is known at the next output
  pub record Turn (items : ℕ) (edges : List Edge) (means : ℕ → E → Type 0) (item k : ℕ) (v : View) (me : Me (Option E) View) (value : E) (others : List E) : Type 0 where
    pub short : k < length (outgoing_of item edges)
    pub within : get_or (outgoing_of item edges) k 0 < length edges
    pub may : MayGive items edges me.0 (get_or (outgoing_of item edges) k 0)
    pub top : IsTop (get_or (outgoing_of item edges) k 0) me.1
    pub mean : means (get_or (outgoing_of item edges) k 0) value
    pub next : (after : Me (Option E) View) → after ≡ (with_edge me.0 (get_or (outgoing_of item edges) k 0), rest me.1) → Gave edges means item (k + 1) v after others

  more_to_give : (means : ℕ → E → Type 0) (xs : List ℕ) (k : ℕ) (value : E) (others : List E) → AreMeanings means (drop k xs) (value ∷ others) → k < length xs
  more_to_give means xs k value others are =
      dite (dec_lt k (length xs)) (λ h. h) (λ h. absurd (subst (λ (l : List ℕ). AreMeanings means l (value ∷ others)) (drop_all xs k (omega arith)) are))

  pub turn : (items : ℕ) (edges : List Edge) (means : ℕ → E → Type 0) (item k : ℕ) (v : View) (me : Me (Option E) View) (value : E) (others : List E) → IsForward items edges → item < items → 0 < v.parts → 1 ≤ times item v.took → ((e : ℕ) → e < length edges → source_at edges e ≡ item → times e v.gave ≡ 0) → Gave edges means item k v me (value ∷ others) → Turn items edges means item k v me value others
  turn items edges means item k v me value others dag is_item some_part took none g =
      let out : List ℕ = outgoing_of item edges in
      let short = more_to_give means (outgoing_of item edges) k value others g.mean in
      let e : ℕ = get_or (outgoing_of item edges) k 0 in
      let p = in_outgoing item edges k short in
      let few = dag.few in
      let one : suc k ≡ k + 1 = omega arith in
      let d : drop k (outgoing_of item edges) ≡ get_or (outgoing_of item edges) k 0 ∷ drop (k + 1) (outgoing_of item edges) = drop-cons (outgoing_of item edges) k 0 short ∙ ap (λ (n : ℕ). get_or (outgoing_of item edges) k 0 ∷ drop n (outgoing_of item edges)) one in
      let whole : me.1 ≡ (get_or (outgoing_of item edges) k 0, None) ∷ empties (drop (k + 1) (outgoing_of item edges)) = g.slots ∙ ap empties d in
      let tail : rest me.1 ≡ empties (drop (k + 1) (outgoing_of item edges)) = ap rest whole in
      let are = subst (λ (l : List ℕ). AreMeanings means l (value ∷ others)) d g.mean in
      let counts : times (get_or (outgoing_of item edges) k 0) (outgoing_of item edges) ≡ 1 = times_outgoing item edges (get_or (outgoing_of item edges) k 0) (omega arith) ∙ once_same (source_at edges (get_or (outgoing_of item edges) k 0)) item p.1 in
      let cut : times (get_or (outgoing_of item edges) k 0) (take k (outgoing_of item edges)) + times (get_or (outgoing_of item edges) k 0) (drop k (outgoing_of item edges)) ≡ 1 = sym (times-append (get_or (outgoing_of item edges) k 0) (take k (outgoing_of item edges)) (drop k (outgoing_of item edges))) ∙ ap (times (get_or (outgoing_of item edges) k 0)) (take-append-drop k (outgoing_of item edges)) ∙ counts in
      let here : 1 ≤ times (get_or (outgoing_of item edges) k 0) (drop k (outgoing_of item edges)) = subst (λ (l : List ℕ). 1 ≤ times (get_or (outgoing_of item edges) k 0) l) (sym d) (let o = once_same (get_or (outgoing_of item edges) k 0) (get_or (outgoing_of item edges) k 0) refl in omega arith) in
      let none_before = none (get_or (outgoing_of item edges) k 0) p.0 p.1 in
      let gaves = times-append (get_or (outgoing_of item edges) k 0) v.gave (take k (outgoing_of item edges)) in
      record {
        short = short;
        within = p.0;
        may = subst (λ (u : View). MayGive items edges u (get_or (outgoing_of item edges) k 0)) (sym g.view_is) (record {
          few = few.0;
          within = p.0;
          some_part = some_part;
          source = subst (λ (n : ℕ). n < items) (sym p.1) is_item;
          target = dite (ℕ_discrete (target_at edges (get_or (outgoing_of item edges) k 0)) 4294967295) (λ t. inr t) (λ t. inl (dag.targets (get_or (outgoing_of item edges) k 0) p.0 t).1);
          took = subst (λ (n : ℕ). 1 ≤ times n v.took) (sym p.1) took;
          none = omega arith;
        });
        top = (None, whole ∙ ap (λ (l : List (ℕ × Option E)). (get_or (outgoing_of item edges) k 0, None) ∷ l) (sym tail));
        mean = are.0;
        next = λ after is. record {
          view_is = ap (λ (m : Me (Option E) View). m.0) is ∙ ap (λ (u : View). with_edge u (get_or (outgoing_of item edges) k 0)) g.view_is ∙ ap (λ (l : List ℕ). view v.parts v.took l) (append_assoc v.gave (take k (outgoing_of item edges)) (get_or (outgoing_of item edges) k 0 ∷ [])) ∙ ap (λ (l : List ℕ). view v.parts v.took (v.gave ++ l)) (sym (take_more (outgoing_of item edges) k 0 short));
          slots = ap (λ (m : Me (Option E) View). m.1) is ∙ tail;
          mean = are.1;
          some_left = omega arith;
        };
      }

  none_left : (means : ℕ → E → Type 0) (xs : List ℕ) → AreMeanings means xs [] → xs ≡ []
  none_left means [] are = refl
  none_left means (x ∷ xs) are = absurd are

  -- all outputs were given
  pub gave_all : (edges : List Edge) (means : ℕ → E → Type 0) (item k : ℕ) (v : View) (me : Me (Option E) View) → Gave edges means item k v me [] → me ≡ (with_edges v (outgoing_of item edges), [])
  gave_all edges means item k v me g =
      let z = none_left means (drop k (outgoing_of item edges)) g.mean in
      let long = no_drop (outgoing_of item edges) k z in
      let a : me.0 ≡ with_edges v (outgoing_of item edges) = g.view_is ∙ ap (with_edges v) (take_all k (outgoing_of item edges) long) in
      let b : me.1 ≡ [] = g.slots ∙ ap empties z in
      λ i. (a i, b i)

  -- ---- an item as a whole

  pub begins : (edges : List Edge) (means : ℕ → E → Type 0) (item n : ℕ) (me after : Me (Option E) View) → n ≡ 0 → me.1 ≡ [] → Taking edges means item me n after → Holding edges means item 0 after.1
  begins edges means item n me after free none t =
      let h = t.hit free in
      record { f = h.1; is = h.2 ∙ ap (λ (l : List (ℕ × Option E)). held h.1 (keys_of item edges) ++ l) none ∙ append-nil (held h.1 (keys_of item edges)); inputs = h.3 }

  pub fresh_edges : (edges : List Edge) (means : ℕ → E → Type 0) (item n : ℕ) (me after : Me (Option E) View) → n ≡ 0 → Complete edges me.0 → Taking edges means item me n after → (e : ℕ) → e < length edges → source_at edges e ≡ item → times e after.0.gave ≡ 0
  fresh_edges edges means item n me after free complete t e within is =
      let h = t.hit free in
      let g : times e after.0.gave ≡ times e me.0.gave = ap (λ (u : View). times e u.gave) h.0 in
      let f = t.fresh free in
      g ∙ complete e within ∙ ap (λ (x : ℕ). times x me.0.took) is ∙ f

  pub ran_took : (edges : List Edge) (means : ℕ → E → Type 0) (item n : ℕ) (me after end : Me (Option E) View) → n ≡ 0 → Taking edges means item me n after → end ≡ (with_edges after.0 (outgoing_of item edges), []) → (end.0 ≡ with_edges (with_item me.0 item) (outgoing_of item edges)) × (end.1 ≡ [])
  ran_took edges means item n me after end free t is =
      (ap (λ (m : Me (Option E) View). m.0) is ∙ ap (λ (u : View). with_edges u (outgoing_of item edges)) (t.hit free).0, ap (λ (m : Me (Option E) View). m.1) is)

  pub ran_idle : (items : ℕ) (edges : List Edge) (item : ℕ) (me end : Me (Option E) View) → IsForward items edges → item < items → IsIdle edges me → (end.0 ≡ with_edges (with_item me.0 item) (outgoing_of item edges)) × (end.1 ≡ []) → IsIdle edges end × (end.0.parts ≡ me.0.parts)
  ran_idle items edges item me end dag is_item idle is =
      let parts : end.0.parts ≡ me.0.parts = ap (λ (u : View). u.parts) is.0 in (
        (is.1, (let p = idle.1 in omega arith), subst (λ (u : View). Complete edges u) (sym is.0) (complete_more items edges item me.0 dag is_item idle.2)),
        parts,
      )

  pub ran_done : (edges : List Edge) (means : ℕ → E → Type 0) (item n : ℕ) (me after : Me (Option E) View) (took : List ℕ) → n ≡ 0 → Taking edges means item me n after → took ≡ me.0.took ++ item ∷ [] → times item took ≡ 1
  ran_done edges means item n me after took free t is =
      let f = t.fresh free in
      let s = times-snoc item me.0.took item in
      let o = once_same item item refl in
      ap (times item) is ∙ omega arith

  pub tried_done : (edges : List Edge) (means : ℕ → E → Type 0) (item n : ℕ) (me after : Me (Option E) View) → n ≢ 0 → Taking edges means item me n after → me.0.parts ≡ all_parts → missing item 0 edges (λ e. times e me.0.gave) ≡ 0 → times item after.0.took ≡ 1
  tried_done edges means item n me after busy t all none =
      let l = t.last none in
      let is : n ≡ taken_word = dite (ℕ_discrete n taken_word) (λ e. e) (λ d. let z : left n ≡ n = ap (λ (b : Bool). cond b 0 n) (ne_eqb n taken_word d) in absurd (busy (sym z ∙ l))) in
      ap (λ (m : Me (Option E) View). times item m.0.took) (t.miss busy) ∙ t.mine all is

  pub took_some : (edges : List Edge) (means : ℕ → E → Type 0) (item n : ℕ) (me after : Me (Option E) View) → n ≡ 0 → 0 < me.0.parts → Taking edges means item me n after → (0 < after.0.parts) × (1 ≤ times item after.0.took)
  took_some edges means item n me after free some_part t =
      let h = (t.hit free).0 in
      let s = times-snoc item me.0.took item in
      let o = once_same item item refl in
      let p : after.0.parts ≡ me.0.parts = ap (λ (u : View). u.parts) h in
      let q : times item after.0.took ≡ times item (me.0.took ++ item ∷ []) = ap (λ (u : View). times item u.took) h in
      (omega arith, omega arith)

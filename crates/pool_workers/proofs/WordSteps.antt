-- The rule of the words is kept by each step.
use Rattle.std.proofs.Common.{◌≡◌, ◌≢◌, ℕ, ◌+◌, ◌<◌, ◌≤◌, ⊎_elim, Bool, true, false, cond, eqb, List, [], ◌∷◌, ◌++◌, length, set, refl, sym, ap, ◌∙◌, subst, arith}
use Rattle.std.specs.Prelude.{min}
use Rattle.std.proofs.lemmas.Bool.{eq-eqb, ne_eqb}
use Rattle.std.proofs.lemmas.List.{length-set, get_or-set_same, get_or-set_other}
use mathlib.Core.Logic.{dite}
use native.Mathlib.Decide.{ℕ_discrete}
use mathlib.Core.Option.{some}
use lib.ListN.{get_elem?}
use Rattle.atomic_table.proofs.Lists.{at_set, at_snoc}
use Rattle.turn_core.specs.declared.edge.Edge.{Edge}
use Rattle.pool_workers.specs.declared.view.View.{View}
use Rattle.pool_workers.specs.Sums.{once, times, missing, source_at, target_at, IsTarget}
use Rattle.pool_workers.specs.Words.{taken_word, all_parts, total, takers, givers, left, word_at, Fair, Words, with_item, with_edge, less_one_part, one_part, together, spent}
use Rattle.pool_workers.specs.Steps.{MayGive}
use Rattle.pool_workers.proofs.Totals.{total-set, total-snoc, total-le, total_but, total_only}
use Rattle.pool_workers.proofs.Counts.{once_same, once_other, times-append, times-snoc, missing-same, missing-one}

module _ (items : ℕ) (edges : List Edge) where
  -- the same sums, the same rule
  pub regroup : (words : List ℕ) (views news : List View) → Words items edges words views → total (λ v. v.parts) news ≡ total (λ v. v.parts) views → ((x : ℕ) → takers news x ≡ takers views x) → ((e : ℕ) → givers news e ≡ givers views e) → ((id : ℕ) (v : View) → get_elem? news id ≡ some v → Fair items edges v) → Words items edges words news
  regroup words views news w parts took gave each = record {
    wide = w.wide;
    parts = parts ∙ w.parts;
    each = each;
    taken = λ x is_item. took x ∙ w.taken x is_item;
    waits = λ t is. w.waits t is ∙ sym (missing-same t 0 edges (givers views) (givers news) (λ j low. gave j));
  }

  fair_with_item : (v : View) (x : ℕ) → x < items → 0 < v.parts → Fair items edges v → Fair items edges (with_item v x)
  fair_with_item v x is_item some_part f = record {
    known = λ y high. let k = f.known y high in let s = times-snoc y v.took x in let o = once_other y x (λ e. omega arith) in omega arith;
    gave = λ e. let g = f.gave e in let s = times-snoc (source_at edges e) v.took x in omega arith;
    idle = λ none. absurd (omega arith);
  }

  taken_left : (words : List ℕ) (x i : ℕ) → x < length words → word_at words x ≡ 0 → left (word_at (set words x taken_word) i) ≡ left (word_at words i)
  taken_left words x i within zero_word =
      dite (ℕ_discrete i x)
      (λ e. subst (λ (j : ℕ). left (word_at (set words x taken_word) j) ≡ left (word_at words j)) (sym e)
      (ap left (get_or-set_same words x taken_word 0 within) ∙ ap left (sym zero_word)))
      (λ n. ap left (get_or-set_other words x i taken_word 0 n))

  -- an item is taken
  pub takes : (words : List ℕ) (views : List View) (id : ℕ) (v : View) (x : ℕ) → x < items → 0 < v.parts → get_elem? views id ≡ some v → word_at words x ≡ 0 → Words items edges words views → Words items edges (set words x taken_word) (set views id (with_item v x))
  takes words views id v x is_item some_part at zero_word w = record {
    wide = length-set words x taken_word ∙ w.wide;
    parts = let s = total-set (λ u. u.parts) views id v (with_item v x) at in let p = w.parts in omega arith;
    each = λ j u here. ⊎_elim (λ t. subst (λ (r : View). Fair items edges r) t.1 (fair_with_item v x is_item some_part (w.each id v at))) (λ t. w.each j u t.1) (at_set views id j (with_item v x) u here);
    taken = λ y y_item.
        let s = total-set (λ u. times y u.took) views id v (with_item v x) at in
        let t = times-snoc y v.took x in
        let was = w.taken y y_item in
        dite (ℕ_discrete y x)
        (λ e.
        let one = once_same y x e in
        let old : once (eqb (word_at words y) taken_word) ≡ 0 = once_other (word_at words y) taken_word (λ z. let zw : word_at words y ≡ 0 = subst (λ (j : ℕ). word_at words j ≡ 0) (sym e) zero_word in omega arith) in
        let new : word_at (set words x taken_word) y ≡ taken_word = subst (λ (j : ℕ). word_at (set words x taken_word) j ≡ taken_word) (sym e) (get_or-set_same words x taken_word 0 (let l = w.wide in omega arith)) in
        let o = once_same (word_at (set words x taken_word) y) taken_word new in
        omega arith)
        (λ n.
        let none = once_other y x n in
        let same = ap (λ (m : ℕ). once (eqb m taken_word)) (get_or-set_other words x y taken_word 0 n) in
        omega arith);
    waits = λ t is.
        let gave : (e : ℕ) → givers (set views id (with_item v x)) e ≡ givers views e = λ e. let s = total-set (λ u. times e u.gave) views id v (with_item v x) at in omega arith in
        taken_left words x (min items t) (let l = w.wide in omega arith) zero_word ∙ w.waits t is ∙ sym (missing-same t 0 edges (givers views) (givers (set views id (with_item v x))) (λ j low. gave j));
  }

  -- no one gives an edge before its source is taken
  pub given_below : (words : List ℕ) (views : List View) (e : ℕ) → Words items edges words views → givers views e ≤ takers views (source_at edges e)
  given_below words views e w = total-le (λ u. times e u.gave) (λ u. times (source_at edges e) u.took) views (λ id v at. (w.each id v at).gave e)

  once_small : (b : Bool) → once b ≤ 1
  once_small true = omega arith
  once_small false = omega arith

  -- an edge that the taker of its source did not give was given by no one
  pub not_given : (words : List ℕ) (views : List View) (id : ℕ) (v : View) (e : ℕ) → get_elem? views id ≡ some v → source_at edges e < items → 1 ≤ times (source_at edges e) v.took → times e v.gave ≡ 0 → Words items edges words views → givers views e ≡ 0
  not_given words views id v e at is_item took none w =
      let b = total_but (λ u. times e u.gave) (λ u. times (source_at edges e) u.took) views id v (λ j u here. (w.each j u here).gave e) at in
      let t = w.taken (source_at edges e) is_item in
      let s = once_small (eqb (word_at words (source_at edges e)) taken_word) in
      omega arith

  pub left-cases : (n : ℕ) → 1 ≤ left n → (left n ≡ n) × (n ≢ taken_word)
  left-cases n some_left =
      dite (ℕ_discrete n taken_word)
      (λ e. let z : left n ≡ 0 = ap (λ (b : Bool). cond b 0 n) (eq-eqb n taken_word e) in absurd (omega arith))
      (λ d. (ap (λ (b : Bool). cond b 0 n) (ne_eqb n taken_word d), d))

  pub left-other : (n : ℕ) → n ≢ taken_word → left n ≡ n
  left-other n d = ap (λ (b : Bool). cond b 0 n) (ne_eqb n taken_word d)

  same_target : (t u : ℕ) → items ≤ 4294967295 → IsTarget items t → IsTarget items u → min items u ≡ min items t → u ≡ t
  same_target t u few is_t is_u same =
      ⊎_elim (λ (a : t < items). ⊎_elim (λ (b : u < items). omega arith) (λ (b : u ≡ 4294967295). omega arith) is_u)
      (λ (a : t ≡ 4294967295). ⊎_elim (λ (b : u < items). omega arith) (λ (b : u ≡ 4294967295). omega arith) is_u) is_t

  fair_with_edge : (v : View) (e : ℕ) → 1 ≤ times (source_at edges e) v.took → times e v.gave ≡ 0 → Fair items edges v → 0 < v.parts → Fair items edges (with_edge v e)
  fair_with_edge v e took none f some_part = record {
    known = f.known;
    gave = λ j. let g = f.gave j in let s = times-snoc j v.gave e in
        dite (ℕ_discrete j e)
        (λ same.
        let o = once_same j e same in
        let z : times j v.gave ≡ 0 = subst (λ (m : ℕ). times m v.gave ≡ 0) (sym same) none in
        let l : 1 ≤ times (source_at edges j) v.took = subst (λ (m : ℕ). 1 ≤ times (source_at edges m) v.took) (sym same) took in
        omega arith)
        (λ n. let o = once_other j e n in omega arith);
    idle = λ no_part. absurd (omega arith);
  }

  module _ (words : List ℕ) (views : List View) (id : ℕ) (v : View) (e : ℕ) (at : get_elem? views id ≡ some v) (may : MayGive items edges v e) (w : Words items edges words views) where
    pub gave_one : (j : ℕ) → givers (set views id (with_edge v e)) j ≡ givers views j + once (eqb j e)
    gave_one j = let s = total-set (λ u. times j u.gave) views id v (with_edge v e) at in let t = times-snoc j v.gave e in omega arith

    less : (t : ℕ) → missing t 0 edges (givers (set views id (with_edge v e))) + once (eqb (target_at edges e) t) ≡ missing t 0 edges (givers views)
    less t =
        let same : 0 + e ≡ e = omega arith in
        let z = not_given words views id v e at may.source may.took may.none w in
        let one = gave_one e in
        let o = once_same e e refl in
        missing-one t 0 edges (givers views) (givers (set views id (with_edge v e))) e may.within
        (subst (λ (m : ℕ). givers views m ≡ 0) (sym same) z)
        (subst (λ (m : ℕ). givers (set views id (with_edge v e)) m ≡ 1) (sym same) (omega arith))
        (λ j other. let g = gave_one j in let n = once_other j e (λ s. other (omega arith)) in omega arith)

    -- the word is neither 0 nor that of a taken item
    pub some_left : (1 ≤ word_at words (min items (target_at edges e))) × (word_at words (min items (target_at edges e)) ≢ taken_word)
    some_left =
        let l = less (target_at edges e) in
        let o = once_same (target_at edges e) (target_at edges e) refl in
        let wa = w.waits (target_at edges e) may.target in
        let c = left-cases (word_at words (min items (target_at edges e))) (omega arith) in
        (omega (arith, c.0), c.1)

    -- an edge is given
    pub gives : (m : ℕ) → m + 1 ≡ word_at words (min items (target_at edges e)) → m + 1 < 18446744073709551616 → Words items edges (set words (min items (target_at edges e)) m) (set views id (with_edge v e))
    gives m one_less small = record {
      wide = length-set words (min items (target_at edges e)) m ∙ w.wide;
      parts = let s = total-set (λ u. u.parts) views id v (with_edge v e) at in let p = w.parts in omega arith;
      each = λ j u here. ⊎_elim (λ t. subst (λ (r : View). Fair items edges r) t.1 (fair_with_edge v e may.took may.none (w.each id v at) may.some_part)) (λ t. w.each j u t.1) (at_set views id j (with_edge v e) u here);
      taken = λ y y_item.
          let s = total-set (λ u. times y u.took) views id v (with_edge v e) at in
          let was = w.taken y y_item in
          let l = w.wide in
          dite (ℕ_discrete y (min items (target_at edges e)))
          (λ same.
          let old = once_other (word_at words y) taken_word (subst (λ (j : ℕ). word_at words j ≢ taken_word) (sym same) some_left.1) in
          let new : word_at (set words (min items (target_at edges e)) m) y ≡ m = subst (λ (j : ℕ). word_at (set words (min items (target_at edges e)) m) j ≡ m) (sym same) (get_or-set_same words (min items (target_at edges e)) m 0 (omega arith)) in
          let o = once_other (word_at (set words (min items (target_at edges e)) m) y) taken_word (λ z. omega arith) in
          omega arith)
          (λ n. let same = ap (λ (k : ℕ). once (eqb k taken_word)) (get_or-set_other words (min items (target_at edges e)) y m 0 n) in omega arith);
      waits = λ u is.
          let l = less u in
          let wa = w.waits u is in
          let wide = w.wide in
          dite (ℕ_discrete (min items u) (min items (target_at edges e)))
          (λ same.
          let t = same_target (target_at edges e) u may.few may.target is same in
          let o = once_same (target_at edges e) u (sym t) in
          let sl = subst (λ (j : ℕ). word_at words j ≢ taken_word) (sym same) some_left.1 in
          let old = left-other (word_at words (min items u)) sl in
          let was : word_at words (min items u) ≡ m + 1 = subst (λ (j : ℕ). word_at words j ≡ m + 1) (sym same) (sym one_less) in
          let new : word_at (set words (min items (target_at edges e)) m) (min items u) ≡ m = subst (λ (j : ℕ). word_at (set words (min items (target_at edges e)) m) j ≡ m) (sym same) (get_or-set_same words (min items (target_at edges e)) m 0 (omega arith)) in
          let nl = left-other (word_at (set words (min items (target_at edges e)) m) (min items u)) (λ z. omega arith) in
          omega arith)
          (λ n.
          let o = once_other (target_at edges e) u (λ s. n (ap (λ (k : ℕ). min items k) (sym s))) in
          ap left (get_or-set_other words (min items (target_at edges e)) (min items u) m 0 n) ∙ wa ∙ omega arith);
    }

  -- a part is cut off
  pub splits : (words : List ℕ) (views : List View) (id : ℕ) (v : View) → 1 < v.parts → get_elem? views id ≡ some v → Words items edges words views → Words items edges words (set views id (less_one_part v) ++ one_part v ∷ [])
  splits words views id v more at w =
      let news = set views id (less_one_part v) in
      let f = w.each id v at in
      let fl : Fair items edges (less_one_part v) = record { known = f.known; gave = f.gave; idle = λ none. absurd (omega arith) } in
      let fr : Fair items edges (one_part v) = record { known = λ x high. refl; gave = λ e. omega arith; idle = λ none. absurd (omega arith) } in
      regroup words views (set views id (less_one_part v) ++ one_part v ∷ []) w
      (let a = total-snoc (λ u. u.parts) (set views id (less_one_part v)) (one_part v) in let s = total-set (λ u. u.parts) views id v (less_one_part v) at in omega arith)
      (λ x. let a = total-snoc (λ u. times x u.took) (set views id (less_one_part v)) (one_part v) in let s = total-set (λ u. times x u.took) views id v (less_one_part v) at in omega arith)
      (λ e. let a = total-snoc (λ u. times e u.gave) (set views id (less_one_part v)) (one_part v) in let s = total-set (λ u. times e u.gave) views id v (less_one_part v) at in omega arith)
      (λ j u here. ⊎_elim (λ t. ⊎_elim (λ r. subst (λ (x : View). Fair items edges x) r.1 fl) (λ r. w.each j u r.1) (at_set views id j (less_one_part v) u t)) (λ r. subst (λ (x : View). Fair items edges x) r fr) (at_snoc (set views id (less_one_part v)) (one_part v) u j here))

  fair_together : (v o : View) → 0 < v.parts → Fair items edges v → Fair items edges o → Fair items edges (together v o)
  fair_together v o some_part f g = record {
    known = λ x high. let a = f.known x high in let b = g.known x high in let t = times-append x v.took o.took in omega arith;
    gave = λ e. let a = f.gave e in let b = g.gave e in let t = times-append (source_at edges e) v.took o.took in let s = times-append e v.gave o.gave in omega arith;
    idle = λ none. absurd (omega arith);
  }

  -- two views are made one
  pub joins : (words : List ℕ) (views : List View) (id : ℕ) (v : View) (other : ℕ) (o : View) → 0 < v.parts → get_elem? views id ≡ some v → other ≢ id → get_elem? (set views id (together v o)) other ≡ some o → Words items edges words views → Words items edges words (set (set views id (together v o)) other spent)
  joins words views id v other o some_part at apart there w =
      let mid : List View = set views id (together v o) in
      let was : get_elem? views other ≡ some o = ⊎_elim (λ t. absurd (apart t.0)) (λ t. t.1) (at_set views id other (together v o) o there) in
      let fs : Fair items edges spent = record { known = λ x high. refl; gave = λ e. omega arith; idle = λ none. (refl, refl) } in
      let ft = fair_together v o some_part (w.each id v at) (w.each other o was) in
      regroup words views (set (set views id (together v o)) other spent) w
      (let a = total-set (λ u. u.parts) (set views id (together v o)) other o spent there in let s = total-set (λ u. u.parts) views id v (together v o) at in omega arith)
      (λ x. let a = total-set (λ u. times x u.took) (set views id (together v o)) other o spent there in let s = total-set (λ u. times x u.took) views id v (together v o) at in let t = times-append x v.took o.took in omega arith)
      (λ e. let a = total-set (λ u. times e u.gave) (set views id (together v o)) other o spent there in let s = total-set (λ u. times e u.gave) views id v (together v o) at in let t = times-append e v.gave o.gave in omega arith)
      (λ j u here. ⊎_elim (λ t. subst (λ (x : View). Fair items edges x) t.1 fs) (λ t. ⊎_elim (λ r. subst (λ (x : View). Fair items edges x) r.1 ft) (λ r. w.each j u r.1) (at_set views id j (together v o) u t.1)) (at_set (set views id (together v o)) other j spent u here))

  -- one view with every part knows who took and who gave
  pub knows_takers : (words : List ℕ) (views : List View) (id : ℕ) (v : View) → v.parts ≡ all_parts → get_elem? views id ≡ some v → Words items edges words views → (x : ℕ) → takers views x ≡ times x v.took
  knows_takers words views id v all at w x = total_only (λ u. times x u.took) views id v (λ j u here none. ap (times x) ((w.each j u here).idle none).0) at (w.parts ∙ sym all)

  pub knows_givers : (words : List ℕ) (views : List View) (id : ℕ) (v : View) → v.parts ≡ all_parts → get_elem? views id ≡ some v → Words items edges words views → (e : ℕ) → givers views e ≡ times e v.gave
  knows_givers words views id v all at w e = total_only (λ u. times e u.gave) views id v (λ j u here none. ap (times e) ((w.each j u here).idle none).1) at (w.parts ∙ sym all)

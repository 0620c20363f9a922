-- Workers side by side, and the last pass.
use Rattle.std.proofs.Common.{◌≡◌, ℕ, ◌+◌, ◌<◌, ◌≤◌, Bool, true, false, List, [], ◌∷◌, ◌++◌, length, Option, Some, Vec, Global, sym, ap, ◌∙◌, subst, arith}
use Rattle.std.specs.Prelude.{IfSome}
use Rattle.std.specs.List.{All}
use Rattle.std.specs.Option.{option_to_list}
use Rattle.std.proofs.lemmas.List.{length_push}
use Rattle.std.proofs.lemmas.List.Elements.{All-pop, All-push, All-same}
use Rattle.atomic_table.specs.Table.{Me}
use Rattle.atomic_table.specs.Seated.{TableId}
use Rattle.atomic_table.specs.declared.shared.Seat.{Seat}
use Rattle.turn_core.specs.declared.edge.Edge.{Edge}
use Rattle.pool_workers.specs.declared.view.View.{View}
use Rattle.pool_workers.specs.Sums.{times, times_in, missing, source_at, IsForward}
use Rattle.pool_workers.specs.Words.{view, together}
use Rattle.pool_workers.specs.Steps.{Complete, IsIdle, Tried}
use Rattle.pool_workers.specs.Shifts.{HasWorked, lists, AreItems}
use Rattle.pool_workers.proofs.Counts.{times-append, times-snoc, none_missing}

pub items-split : (n : ℕ) (xs ys : List ℕ) → AreItems n (xs ++ ys) → AreItems n xs × AreItems n ys
items-split n [] ys all = (tt, all)
items-split n (x ∷ xs) ys all = let r = items-split n xs ys all.1 in ((all.0, r.0), r.1)

pub items-append : (n : ℕ) (xs ys : List ℕ) → AreItems n xs → AreItems n ys → AreItems n (xs ++ ys)
items-append n [] ys all more = more
items-append n (x ∷ xs) ys all more = (all.0, items-append n xs ys all.1 more)

pub lists-snoc : (x : ℕ) (ran : List (Vec ℕ Global)) (last : Vec ℕ Global) → times_in x (lists (ran ++ last ∷ [])) ≡ times_in x (lists ran) + times x last.items
lists-snoc x [] last = omega arith
lists-snoc x (r ∷ ran) last = let ih = lists-snoc x ran last in omega arith

-- one of a list was popped, and one was pushed
pub popped : {X : Type 0} (P : X → Type 0) (xs ys : List X) (r : Option X) (x : X) → xs ≡ ys ++ option_to_list r → r ≡ Some x → All P xs → All P ys × P x × (length xs ≡ length ys + 1)
popped {X = X} P xs ys r x is some all =
    let p = All-pop P xs ys r is all in (
      p.0,
      subst (λ (o : Option X). IfSome o P) some p.1,
      ap (λ (l : List X). length l) is ∙ ap (λ (o : Option X). length (ys ++ option_to_list o)) some ∙ length_push ys x,
    )

pub pushed : {X : Type 0} (P : X → Type 0) (xs more : List X) (x : X) → more ≡ xs ++ x ∷ [] → All P xs → P x → All P more × (length more ≡ length xs + 1)
pushed {X = X} P xs more x is all here = (All-same P more (xs ++ x ∷ []) is (All-push P xs x all here), ap (λ (l : List X). length l) is ∙ length_push xs x)

-- an item was tried, and it ran
pub did_ran : (item : ℕ) (v w : View) (old new : List ℕ) → Tried true item v w → new ≡ old ++ item ∷ [] → (x : ℕ) → times x new + times x v.took ≡ times x old + times x w.took
did_ran item v w old new t is x =
    let a = times-snoc x old item in
    let b = times-snoc x v.took item in
    let c = ap (times x) t in
    let d = ap (times x) is in
    omega arith

pub did_more : (b : Bool) (item : ℕ) (v w : View) → Tried b item v w → (x : ℕ) → times x v.took ≤ times x w.took
did_more true item v w t x = let c = ap (times x) t in let b = times-snoc x v.took item in omega arith
did_more false item v w t x = let c = ap (times x) t in omega arith

-- before an item each edge to it was given, where all items before it were taken
pub none_before : (items : ℕ) (edges : List Edge) (item : ℕ) (v : View) → IsForward items edges → item < items → Complete edges v → ((x : ℕ) → x < item → 1 ≤ times x v.took) → missing item 0 edges (λ e. times e v.gave) ≡ 0
none_before items edges item v dag is_item complete all =
    none_missing item 0 edges (λ e. times e v.gave) (λ d within t.
    let few = dag.few in
    let f = dag.targets d within (λ z. omega arith) in
    let low : source_at edges d < item = subst (λ (n : ℕ). source_at edges d < n) t f.0 in
    let a = all (source_at edges d) low in
    let c = complete d within in
    let same : d ≡ 0 + d = omega arith in
    subst (λ (n : ℕ). 1 ≤ times n v.gave) same (omega arith))

pub complete_both : (edges : List Edge) (v w : View) → Complete edges v → Complete edges w → Complete edges (together v w)
complete_both edges v w c d e within =
    let a = times-append e v.gave w.gave in
    let b = times-append (source_at edges e) v.took w.took in
    let x = c e within in let y = d e within in omega arith

module _ {E : Type 0} (edges : List Edge) where
  pub worked_more : (id : TableId) (s new : Seat (Option E) View) (ran ran' : List ℕ) → HasWorked edges id s ran → new.table_id ≡ s.table_id → IsIdle edges new.me × (new.me.0.parts ≡ s.me.0.parts) → ((x : ℕ) → times x ran' + times x s.me.0.took ≡ times x ran + times x new.me.0.took) → HasWorked edges id new ran'
  worked_more id s new ran ran' w same idle counts = record {
    table = same ∙ w.table;
    idle = idle.0;
    one = idle.1 ∙ w.one;
    took = λ x. let c = counts x in let t = w.took x in omega arith;
  }

  pub idle_both : (me new : Me (Option E) View) (id : TableId) (s : Seat (Option E) View) (ran : List ℕ) → IsIdle edges me → HasWorked edges id s ran → new ≡ (together me.0 s.me.0, me.1) → IsIdle edges new × (new.0.parts ≡ me.0.parts + 1)
  idle_both me new id s ran idle w is =
      let p : new.0.parts ≡ me.0.parts + s.me.0.parts = ap (λ (m : Me (Option E) View). m.0.parts) is in
      let o = w.one in
      let i = idle.1 in
      ((ap (λ (m : Me (Option E) View). m.1) is ∙ idle.0, omega arith, subst (λ (m : Me (Option E) View). Complete edges m.0) (sym is) (complete_both edges me.0 s.me.0 idle.2 w.idle.2)), omega arith)

  pub ran_both : (me new : Me (Option E) View) (id : TableId) (s : Seat (Option E) View) (last : Vec ℕ Global) (ran ran' : List (Vec ℕ Global)) → HasWorked edges id s last.items → new ≡ (together me.0 s.me.0, me.1) → ran' ≡ ran ++ last ∷ [] → ((x : ℕ) → times_in x (lists ran) ≡ times x me.0.took) → (x : ℕ) → times_in x (lists ran') ≡ times x new.0.took
  ran_both me new id s last ran ran' w is more counts x =
      let a = lists-snoc x ran last in
      let b = ap (λ (r : List (Vec ℕ Global)). times_in x (lists r)) more in
      let c = counts x in
      let d = w.took x in
      let t = times-append x me.0.took s.me.0.took in
      let e : times x new.0.took ≡ times x (me.0.took ++ s.me.0.took) = ap (λ (m : Me (Option E) View). times x m.0.took) is in
      omega arith

  pub idle_start : (me : Me (Option E) View) → me.1 ≡ [] → 0 < me.0.parts → me.0.took ≡ [] → me.0.gave ≡ [] → IsIdle edges me
  idle_start me free some_part took gave = (free, some_part, λ e within. ap (times e) gave ∙ sym (ap (times (source_at edges e)) took))

  -- a worker that was just made
  pub worked_none : (id : TableId) (s : Seat (Option E) View) (ran : List ℕ) → s.table_id ≡ id → s.me ≡ (view 1 [] [], []) → ran ≡ [] → HasWorked edges id s ran
  worked_none id s ran same fresh none =
      let one : s.me.0.parts ≡ 1 = ap (λ (m : Me (Option E) View). m.0.parts) fresh in
      record {
        table = same;
        idle = idle_start s.me (ap (λ (m : Me (Option E) View). m.1) fresh) (omega arith) (ap (λ (m : Me (Option E) View). m.0.took) fresh) (ap (λ (m : Me (Option E) View). m.0.gave) fresh);
        one = one;
        took = λ x. ap (times x) none ∙ sym (ap (λ (m : Me (Option E) View). times x m.0.took) fresh);
      }

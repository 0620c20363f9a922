-- Whether what is asked for holds, part by part.
use Rattle.std.proofs.Common.{◌≡◌, ◌↔◌, ℕ, zero, suc, ◌<◌, ◌≤◌, ◌+◌, Bool, true, false, not, List, [], ◌++◌, length, get_or, Option, Some, None, refl, sym, ◌∙◌, ap, arith}
use Rattle.std.specs.Prelude.{slice_get, option_map}
use Rattle.std.specs.Option.{option_to_list}
use Rattle.share_types.specs.declared.needs.Needs.{Needs}
use Rattle.share_types.specs.declared.needs.Kind as stock
use Rattle.share_types.specs.Needs.{count_of, sum_of_needs}
use Rattle.share_types.specs.declared.needs.Kind.TheVariants.{Mult, Bit, Shared, Key}
use Rattle.plan_gates.specs.Gate.{Kind, Gate}
use Rattle.joint_run.specs.Honest.{Taken, taken_by}
use Rattle.gate_tasks.specs.declared.value.Value.{Value}
use Rattle.plan_gates.specs.Plan.{Gates}
use Rattle.gate_tasks.specs.Stage.{HasInput, taken_from, IsOf, operands_at}
use Rattle.gate_tasks.specs.Task.{HoldTypes}
use Rattle.gate_tasks.specs.Wires.{value_held}
use Rattle.mot_base.proofs.Lists.{same_some}

-- ---- in parts

-- what was decided not to hold stands against all that needs it
pub refused : {P Q : Type 0} (b : Bool) → (b ≡ true) ↔ P → b ≡ false → (Q → P) → (false ≡ true) ↔ Q
refused b decides is needs = (λ e. cc, λ all. sym is ∙ decides.1 (needs all))

pub not_false : (b : Bool) → not b ≡ false → b ≡ true
not_false true e = refl
not_false false e = cc

-- ---- records

pub of_all_kinds : (P : stock.Kind → Type 0) → P Mult → P Bit → P Shared → P Key → (kind : stock.Kind) → P kind
of_all_kinds P m b s k Mult = m
of_all_kinds P m b s k Bit = b
of_all_kinds P m b s k Shared = s
of_all_kinds P m b s k Key = k

-- where there are records enough of all kinds but one, it hangs on that one
pub all_behind : (bases before asked counts before' asked' counts' : Needs) (b : Bool) →
    before' ≡ before → asked' ≡ asked → counts' ≡ counts →
    (0 < asked'.mult → bases.mult + before'.mult + asked'.mult ≤ counts'.mult) →
    (0 < asked'.bit → bases.bit + before'.bit + asked'.bit ≤ counts'.bit) →
    (0 < asked'.shared → bases.shared + before'.shared + asked'.shared ≤ counts'.shared) →
    (b ≡ true) ↔ (0 < asked'.key → bases.key + before'.key + asked'.key ≤ counts'.key) →
    (b ≡ true) ↔ ((kind : stock.Kind) → 0 < count_of asked kind →
    count_of (sum_of_needs (sum_of_needs bases before) asked) kind ≤ count_of counts kind)
all_behind bases before asked counts before' asked' counts' b before_is asked_is counts_is mult bit shared decides = (
  λ yes. of_all_kinds
      (λ kind. 0 < count_of asked kind → count_of (sum_of_needs (sum_of_needs bases before) asked) kind ≤ count_of counts kind)
      (λ some.
      let asked_same = ap (λ (n : Needs). n.mult) asked_is in
      let before_same = ap (λ (n : Needs). n.mult) before_is in
      let counts_same = ap (λ (n : Needs). n.mult) counts_is in
      let enough = mult (omega (arith, some, asked_same)) in
      omega (arith, enough, asked_same, before_same, counts_same))
      (λ some.
      let asked_same = ap (λ (n : Needs). n.bit) asked_is in
      let before_same = ap (λ (n : Needs). n.bit) before_is in
      let counts_same = ap (λ (n : Needs). n.bit) counts_is in
      let enough = bit (omega (arith, some, asked_same)) in
      omega (arith, enough, asked_same, before_same, counts_same))
      (λ some.
      let asked_same = ap (λ (n : Needs). n.shared) asked_is in
      let before_same = ap (λ (n : Needs). n.shared) before_is in
      let counts_same = ap (λ (n : Needs). n.shared) counts_is in
      let enough = shared (omega (arith, some, asked_same)) in
      omega (arith, enough, asked_same, before_same, counts_same))
      (let key = decides.0 yes in λ some.
      let asked_same = ap (λ (n : Needs). n.key) asked_is in
      let before_same = ap (λ (n : Needs). n.key) before_is in
      let counts_same = ap (λ (n : Needs). n.key) counts_is in
      let enough = key (omega (arith, some, asked_same)) in
      omega (arith, enough, asked_same, before_same, counts_same)),
  λ all. decides.1 (λ some.
      let asked_same = ap (λ (n : Needs). n.key) asked_is in
      let before_same = ap (λ (n : Needs). n.key) before_is in
      let counts_same = ap (λ (n : Needs). n.key) counts_is in
      let enough = all Key (omega (arith, some, asked_same)) in
      omega (arith, enough, asked_same, before_same, counts_same)),
)

-- ---- inputs

-- an input that a gate takes has its bits exactly where it has those of the kind and the width that the gate has
pub input_is : (o : Option Gate) (kind : Kind) (w p : ℕ) (inputs : List (List Bool)) (t : Taken) → option_map (λ g. g.kind) o ≡ Some kind → option_map (λ g. g.width) o ≡ Some w → taken_by kind ≡ Some t → t.party ≡ p →
    (taken_from kind + w ≤ length (get_or inputs t.k [])) ↔ ((g : Gate) → o ≡ Some g → HasInput g p inputs)
input_is None kind w p inputs t of wide takes mine = cc
input_is (Some gate) kind w p inputs t of wide takes mine =
    let kind_is : gate.kind ≡ kind = same_some gate.kind kind of in
    let wide_is : gate.width ≡ w = same_some gate.width w wide in
    let there : taken_by gate.kind ≡ Some t = ap taken_by kind_is ∙ takes in (
      λ enough g same t' takes' mine'.
          let is : gate ≡ g = same_some gate g same in
          let one : t ≡ t' = same_some t t' (sym there ∙ (ap (λ (x : Gate). taken_by x.kind) is ∙ takes')) in
          let from : taken_from g.kind ≡ taken_from kind = ap (λ (x : Gate). taken_from x.kind) (sym is) ∙ ap taken_from kind_is in
          let width : g.width ≡ w = ap (λ (x : Gate). x.width) (sym is) ∙ wide_is in
          let long : length (get_or inputs t'.k []) ≡ length (get_or inputs t.k []) = ap (λ (x : Taken). length (get_or inputs x.k [])) (sym one) in
          omega (arith, enough, from, width, long),
      λ all.
          let from : taken_from gate.kind ≡ taken_from kind = ap taken_from kind_is in
          let enough = all gate refl t there mine in
          omega (arith, enough, from, wide_is),
    )

-- ---- operands

-- what holds of each number of a list
abbrev At : List ℕ → (ℕ → Type 0) → Type 0
At xs P = (i x : ℕ) → slice_get xs i ≡ Some x → P x

pub front_at : (P : ℕ → Type 0) (o : Option ℕ) (ys : List ℕ) → At (option_to_list o ++ ys) P → (x : ℕ) → o ≡ Some x → P x
front_at P None ys all x e = cc
front_at P (Some y) ys all x e = all 0 x e

pub rest_at : (P : ℕ → Type 0) (o : Option ℕ) (ys : List ℕ) → At (option_to_list o ++ ys) P → At ys P
rest_at P None ys all i x there = all i x there
rest_at P (Some y) ys all i x there = all (suc i) x there

pub last_at : (P : ℕ → Type 0) (o : Option ℕ) → At (option_to_list o) P → (x : ℕ) → o ≡ Some x → P x
last_at P None all x e = cc
last_at P (Some y) all x e = all 0 x e

pub both_at : (P : ℕ → Type 0) (o : Option ℕ) (ys : List ℕ) → ((x : ℕ) → o ≡ Some x → P x) → At ys P → At (option_to_list o ++ ys) P
both_at P None ys one rest i x there = rest i x there
both_at P (Some y) ys one rest zero x there = one x there
both_at P (Some y) ys one rest (suc i) x there = rest i x there

pub one_at : (P : ℕ → Type 0) (o : Option ℕ) → ((x : ℕ) → o ≡ Some x → P x) → At (option_to_list o) P
one_at P None one i x there = cc
one_at P (Some y) one zero x there = one x there
one_at P (Some y) one (suc i) x there = cc

-- a value that is held of a gate has the type that the gate gives
abbrev pub HasType : List Gate → List (Option Value) → ℕ → Type 0
HasType gates wires x = (gate : Gate) (value : Value) → slice_get gates x ≡ Some gate → value_held wires x ≡ Some value → IsOf gate value

pub typed_at : (plan : Gates) (g : ℕ) (wires : List (Option Value)) (xs : List ℕ) → operands_at plan.gates g ≡ xs → HoldTypes plan g wires → At xs (HasType plan.gates wires)
typed_at plan g wires xs same all i x there gate value known held =
    all i x gate value (ap (λ (l : List ℕ). slice_get l i) same ∙ there) known held

pub types_from : (plan : Gates) (g : ℕ) (wires : List (Option Value)) (xs : List ℕ) → operands_at plan.gates g ≡ xs → At xs (HasType plan.gates wires) → HoldTypes plan g wires
types_from plan g wires xs same all i x gate value there known held =
    all i x (ap (λ (l : List ℕ). slice_get l i) (sym same) ∙ there) gate value known held

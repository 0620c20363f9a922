-- How many outputs a gate of a circuit has.
use Rattle.std.proofs.Common.{ℕ, ◌≡◌, ◌<◌, ◌≤◌, Bool, true, false, not, nat_lt, List, [], ◌∷◌, length, Option, Some, None, inl, inr, refl, sym, ◌∙◌, ap, ap₂, arith}
use Rattle.std.specs.Prelude.{◌==◌, slice_get, option_map}
use Rattle.std.specs.List.{list_all, list_any, AllByRecursion, IsDistinct}
use Rattle.std.proofs.lemmas.Bool.{and_parts, or_cases, or_parts, eqb-true, ltb-true}
use Rattle.std.proofs.lemmas.Map.Steps.{length-le_from_distinct_below}
use Rattle.mot_base.specs.Limits.{most_wires}
use Rattle.bristol_reader.specs.declared.kind.BristolKind.{BristolKind}
use Rattle.bristol_reader.specs.Circuit.{Gate, Circuit, is_among, are_apart}
use Rattle.bristol_reader.specs.Line.{input_bound}
use Rattle.bristol_reader.specs.Built.{IsCircuit}
use Rattle.mot_base.proofs.Lists.{not_true, equal_turned as same_sym}
use Rattle.gate_plan.specs.Bristol.{gates_of_kind, gates_of_gate}

others : (ws : List ℕ) (w : ℕ) → is_among ws w ≡ false → AllByRecursion (λ v. (w == v) ≡ false) ws
others [] w h = tt
others (v ∷ ws) w h =
    let parts = or_parts (v == w) (is_among ws w) h in
    (same_sym w v ∙ parts.0, others ws w parts.1)

distinct : (ws : List ℕ) → are_apart ws ≡ true → IsDistinct (λ x y. x == y) ws
unfolding IsDistinct
distinct [] h = tt
distinct (w ∷ ws) h =
    let parts = and_parts (not (is_among ws w)) (are_apart ws) h in
    (others ws w (not_true (is_among ws w) parts.0), distinct ws parts.1)

below : (n : ℕ) (ws : List ℕ) → list_all (λ w. nat_lt w n) ws ≡ true →
    (q : ℕ) → list_any (λ w. q == w) ws ≡ true → q < n
below n [] h q e = cc
below n (w ∷ ws) h q e =
    let parts = and_parts (nat_lt w n) (list_all (λ v. nat_lt v n) ws) h in
    elim (or_cases (q == w) (list_any (λ v. q == v) ws) e) [
      | inl here ↦ (let same = eqb-true q w here in let small = ltb-true w n parts.0 in omega arith)
      | inr later ↦ below n ws parts.1 q later
    ]

-- a gate has no more outputs than there are wires
pub few_outs : (c : Circuit) (at : ℕ) (g : Gate) → IsCircuit c → slice_get c.gates at ≡ Some g →
    length g.outs ≤ c.wires
few_outs c at g circuit there =
    let fits = circuit.built.each at g there in
    let apart = (and_parts _ (are_apart g.outs) fits.once).1 in
    let range = (and_parts (list_all (λ x. nat_lt x (input_bound g.kind c.wires)) g.ins) _ fits.range).1 in
    length-le_from_distinct_below g.outs c.wires (distinct g.outs apart) (below c.wires g.outs range)

-- the gate at a place, of which the kind and the outputs are known
pub record IsThere (gates : List Gate) (at : ℕ) (kind : BristolKind) (outs : List ℕ) : Type 0 where
  pub gate : Gate
  pub there : slice_get gates at ≡ Some gate
  pub kind_is : gate.kind ≡ kind
  pub outs_are : gate.outs ≡ outs

some_there : (gates : List Gate) (at : ℕ) (kind : BristolKind) (outs : List ℕ) (o : Option Gate) →
    slice_get gates at ≡ o →
    option_map (λ g. g.kind) o ≡ Some kind → option_map (λ g. g.outs) o ≡ Some outs →
    IsThere gates at kind outs
some_there gates at kind outs None e k s = cc
some_there gates at kind outs (Some g) e k s = record { gate = g; there = e; kind_is = cc; outs_are = cc }

pub is_there : (gates : List Gate) (at : ℕ) (kind : BristolKind) (outs : List ℕ) →
    option_map (λ g. g.kind) (slice_get gates at) ≡ Some kind → option_map (λ g. g.outs) (slice_get gates at)
    ≡ Some outs →
    IsThere gates at kind outs
is_there gates at kind outs k s = some_there gates at kind outs (slice_get gates at) refl k s

-- how many gates it has
pub count_there : (keys : Bool) (gates : List Gate) (at : ℕ) (kind : BristolKind) (outs : List ℕ) →
    IsThere gates at kind outs →
    gates_of_kind keys kind (length outs) ≡ gates_of_gate keys (slice_get gates at)
count_there keys gates at kind outs is =
    ap₂ (λ (k : BristolKind) (ws : List ℕ). gates_of_kind keys k (length ws)) (sym is.kind_is)
    (sym is.outs_are)
    ∙ sym (ap (gates_of_gate keys) is.there)

-- how many outputs it has
pub few_there : (c : Circuit) (at : ℕ) (kind : BristolKind) (outs : List ℕ) → IsCircuit c →
    IsThere c.gates at kind outs →
    length outs ≤ most_wires
few_there c at kind outs circuit is =
    let few = few_outs c at is.gate circuit is.there in
    let same = ap (λ (ws : List ℕ). length ws) is.outs_are in
    let most = circuit.built.few_wires in
    omega arith

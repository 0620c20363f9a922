-- The gates and the wires of a circuit's statements, one statement after another.
use Rattle.std.proofs.Common.{ℕ, zero, suc, ◌≡◌, ◌<◌, ◌≤◌, ◌+◌, [], ◌∷◌, ◌++◌, length, Some, inl, inr, refl, sym, ◌∙◌, ap, subst, arith}
use Rattle.std.specs.Prelude.{slice_get}
use Rattle.std.proofs.lemmas.Bool.{cases_lt}
use Rattle.std.proofs.lemmas.List.{length-append}
use Rattle.mot_base.proofs.Lists.{inside_of, some_at, behind_at, last_at}
use Rattle.mixed_language.specs.Circuit.{Circuit, Statement}
use Rattle.gate_plan.specs.Blocks.{Block, Lowered, with_block, Stand}
use Rattle.gate_plan.specs.Lowering.{Source, block_of, source_of, block_at, lowered_to, lowered, wire_handled, is_keys, gates_in, gates_before}
use Rattle.gate_plan.proofs.StandLemmas.{grown}
use Rattle.gate_plan.proofs.OperationLemmas.{block_count}

-- the number of the first gate of the statement at a place, what its gates are made of, and the gates
-- themselves
abbrev pub start : Circuit → ℕ → ℕ
start c n = length (lowered_to c n).gates

abbrev pub source : Circuit → ℕ → Statement → Source
source c n s = source_of c n (lowered_to c n).wires s

abbrev pub block : Circuit → ℕ → Statement → Block
block c n s = block_of c.parties s.shape.operation (is_keys (wire_handled c.statements s)) (source c n s) (start c n)

pub next : (c : Circuit) (n : ℕ) (s : Statement) → slice_get c.statements n ≡ Some s →
    lowered_to c (suc n) ≡ with_block (lowered_to c n) (block c n s)
next c n s there = ap (λ o. with_block (lowered_to c n) (block_at c n (lowered_to c n) o)) there

-- ---- where they stand

-- what the statement at a place adds, if there is one
abbrev added : Circuit → ℕ → Block
added c n = block_at c n (lowered_to c n) (slice_get c.statements n)

-- the gates of a statement stand in the plan
pub stands : (c : Circuit) (n : ℕ) (s : Statement) → slice_get c.statements n ≡ Some s →
    Stand (lowered c).gates (start c n) (block c n s).gates
stands c n s there i gate e =
    let within = inside_of c.statements n s there in
    grown (λ m. (lowered_to c m).gates) (λ m. ((added c m).gates, refl)) (suc n) (length c.statements)
    (start c n + i) gate
    (omega (arith, within))
    (ap (λ (l : Lowered). slice_get l.gates (start c n + i)) (next c n s there)
    ∙ (behind_at (lowered_to c n).gates (block c n s).gates i ∙ e))

pub wires_count : (c : Circuit) (n : ℕ) → length (lowered_to c n).wires ≡ n
wires_count c zero = refl
wires_count c (suc n) =
    let before = wires_count c n in
    length-append (lowered_to c n).wires ((added c n).wire ∷ []) ∙ omega arith

-- and its wire is kept
pub wire_in : (c : Circuit) (n m : ℕ) (s : Statement) → slice_get c.statements n ≡ Some s → n < m →
    slice_get (lowered_to c m).wires n ≡ Some (block c n s).wire
wire_in c n m s there h =
    let before = (lowered_to c n).wires in
    grown (λ k. (lowered_to c k).wires) (λ k. ((added c k).wire ∷ [], refl)) (suc n) m n (block c n s).wire
    (omega (arith, h))
    (ap (λ (l : Lowered). slice_get l.wires n) (next c n s there)
    ∙ (ap (slice_get (before ++ (block c n s).wire ∷ [])) (sym (wires_count c n))
    ∙ last_at before (block c n s).wire))

-- ---- how many they are

pub next_start : (c : Circuit) (n : ℕ) (s : Statement) → slice_get c.statements n ≡ Some s →
    start c (suc n) ≡ start c n + length (block c n s).gates
next_start c n s there =
    ap (λ (l : Lowered). length l.gates) (next c n s there) ∙ length-append (lowered_to c n).gates
    (block c n s).gates

pub count : (c : Circuit) (n : ℕ) → n ≤ length c.statements →
    start c n ≡ gates_before c.parties c.statements n
count c zero h = refl
count c (suc n) h =
    let here = some_at c.statements n (omega (arith, h)) in
    let before = count c n (omega (arith, h)) in
    let more = next_start c n here.0 here.1 in
    let own : length (block c n here.0).gates ≡ gates_in c.parties c.statements (slice_get c.statements n) =
    block_count c.parties here.0.shape.operation (is_keys (wire_handled c.statements here.0))
    (source c n here.0) (start c n)
    ∙ sym (ap (gates_in c.parties c.statements) here.1) in
    omega (arith, before, more, own)

-- the gates before a place are no more than those before a later one
pub gates_rise : (c : Circuit) (n m : ℕ) → n ≤ m →
    gates_before c.parties c.statements n ≤ gates_before c.parties c.statements m
gates_rise c n zero h =
    let e : 0 ≡ n = omega arith in
    subst (λ k. gates_before c.parties c.statements k ≤ gates_before c.parties c.statements 0) e
    (omega arith)
gates_rise c n (suc m) h =
    elim (cases_lt n (suc m)) as
    (λ _. gates_before c.parties c.statements n ≤ gates_before c.parties c.statements (suc m)) [
      | inl small ↦ (let before = gates_rise c n m (omega (arith, small)) in omega arith)
      | inr large ↦
          (let e : suc m ≡ n = omega (arith, h, large) in
          subst (λ k. gates_before c.parties c.statements k ≤ gates_before c.parties c.statements (suc m)) e
          (omega arith))
    ]

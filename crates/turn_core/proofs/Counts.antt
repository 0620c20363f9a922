-- Counts of edges that are not marked, and of items that are left.
use Rattle.std.proofs.Common.{◌≡◌, ◌≢◌, ℕ, zero, suc, ◌+◌, ◌<◌, Bool, true, false, cond, eqb, not, List, [], ◌∷◌, length, get_or, replicate, refl, arith}
use Rattle.std.proofs.lemmas.Bool.{false≢true, eq-eqb, ne_eqb}
use Rattle.std.proofs.lemmas.List.Sums.{sum_by-cons}
use Rattle.turn_core.specs.Graph.{places_from, places}
use Rattle.turn_core.specs.Core.{Flags, IsIn, IsOut, with_one, left_of}
use Rattle.turn_core.specs.Counters.{unmarked}

-- 1 where a test passes, and 0 where it fails
abbrev pub one_if : Bool → ℕ
one_if b = cond b 1 0

-- ---- edges that are not marked

-- a mark of an edge to the item
pub unmarked-same : (k : ℕ) (ts : List ℕ) (ms : Flags) (e d : ℕ) → e < length ts → e < length ms → IsOut ms e → get_or ts e d ≡ k → unmarked k (ts) (with_one ms e) + 1 ≡ unmarked k ts ms
unmarked-same k [] ms e d h l out to = absurd (omega arith)
unmarked-same k (t ∷ ts) [] e d h l out to = absurd (omega arith)
unmarked-same k (t ∷ ts) (m ∷ ms) zero d h l out to = rw (out, eq-eqb t k to) (omega arith)
unmarked-same k (t ∷ ts) (m ∷ ms) (suc e) d h l out to =
    let rest = unmarked-same k ts ms e d (omega arith) (omega arith) out to in
    omega (arith, rest)

-- a mark of an edge to another one
pub unmarked-other : (k : ℕ) (ts : List ℕ) (ms : Flags) (e d : ℕ) → e < length ts → get_or ts e d ≢ k → unmarked k ts (with_one ms e) ≡ unmarked k ts ms
unmarked-other k [] ms e d h other = refl
unmarked-other k (t ∷ ts) [] e d h other = refl
unmarked-other k (t ∷ ts) (true ∷ ms) zero d h other = refl
unmarked-other k (t ∷ ts) (false ∷ ms) zero d h other = rw (ne_eqb t k other) refl
unmarked-other k (t ∷ ts) (m ∷ ms) (suc e) d h other = rw (unmarked-other k ts ms e d (omega arith) other) refl

-- where none is left, each edge to the item is marked
pub unmarked-none : (k : ℕ) (ts : List ℕ) (ms : Flags) (e d : ℕ) → unmarked k ts ms ≡ 0 → length ms ≡ length ts → e < length ts → get_or ts e d ≡ k → IsIn ms e
unmarked-none k [] ms e d none long h to = absurd (omega arith)
unmarked-none k (t ∷ ts) [] e d none long h to = absurd (omega arith)
unmarked-none k (t ∷ ts) (true ∷ ms) zero d none long h to = refl
unmarked-none k (t ∷ ts) (false ∷ ms) zero d none long h to =
    let one : unmarked k (t ∷ ts) (false ∷ ms) ≡ 1 + unmarked k ts ms = rw (eq-eqb t k to) refl in
    absurd (omega (arith, one, none))
unmarked-none k (t ∷ ts) (m ∷ ms) (suc e) d none long h to =
    let rest : unmarked k ts ms ≡ 0 = omega arith in
    unmarked-none k ts ms e d rest (omega arith) (omega arith) to

-- where each edge to the item is marked, none is left
pub unmarked-all : (k : ℕ) (ts : List ℕ) (ms : Flags) (d : ℕ) → length ms ≡ length ts → ((e : ℕ) → e < length ts → get_or ts e d ≡ k → IsIn ms e) → unmarked k ts ms ≡ 0
unmarked-all k [] ms d long all = refl
unmarked-all k (t ∷ ts) [] d long all = refl
unmarked-all k (t ∷ ts) (true ∷ ms) d long all =
    let rest = unmarked-all k ts ms d (omega arith) (λ e h to. all (suc e) (omega arith) to) in
    omega (arith, rest)
unmarked-all k (t ∷ ts) (false ∷ ms) d long all =
    let rest = unmarked-all k ts ms d (omega arith) (λ e h to. all (suc e) (omega arith) to) in
    let test : eqb t k ≡ false = ne_eqb t k (λ (same : t ≡ k). false≢true (all 0 (omega arith) same)) in
    rw (test, rest) refl

-- with no edge marked, all edges to the item are left
unmarked_from-start : (n k : ℕ) (ts : List ℕ) → unmarked k ts (replicate (length ts) false) ≡ length (places_from n k ts)
unmarked_from-start n k [] = refl
unmarked_from-start n k (t ∷ ts) = by_test (eqb t k) (unmarked_from-start (n + 1) k ts)
  where
    by_test : (b : Bool) → unmarked k ts (replicate (length ts) false) ≡ length (places_from (n + 1) k ts) → cond b 1 0 + unmarked k ts (replicate (length ts) false) ≡ length (cond b (n ∷ places_from (n + 1) k ts) (places_from (n + 1) k ts))
    by_test true rest = omega (arith, rest)
    by_test false rest = omega (arith, rest)

pub unmarked-start : (k : ℕ) (ts : List ℕ) → unmarked k ts (replicate (length ts) false) ≡ length (places k ts)
unmarked-start k ts = unmarked_from-start 0 k ts

-- ---- items

pub left-cons : (b : Bool) (s : Flags) → left_of (b ∷ s) ≡ cond (not b) 1 0 + left_of s
left-cons b s = sum_by-cons (λ (flag : Bool). cond (not flag) 1 0) b s

-- The shares that a party gives out recombine to the vector.
use Rattle.std.proofs.Common.{◌≡◌, ◌≢◌, ℕ, zero, suc, ◌<◌, ◌≤◌, nat_eq, if◌then◌else◌, inl, inr, List, refl, sym, ap, ap₂, ◌∙◌, arith}
use Rattle.std.specs.Prelude.{bit_xor}
use Rattle.std.proofs.lemmas.Bool.{ne_eqb, eq-eqb, cases_lt}
use Rattle.std.specs.Int.Bits.{xor_assoc, xor_zero_l}
use Rattle.std.proofs.lemmas.Nat.{xor_comm}
use Rattle.share_types.specs.Sums.{xor_total, RecombinesByXor, xor_to, each}
use Rattle.share_types.proofs.Parties.{xor_total-each, xor_to_same}
use Rattle.boolean_gmw.proofs.Xors.{undone}

-- what the parties have, but for one party, that has this
abbrev with_own : (ℕ → ℕ) → ℕ → ℕ → ℕ → ℕ
with_own word me own to = if nat_eq to me then own else word to

here : (word : ℕ → ℕ) (me own : ℕ) → with_own word me own me ≡ own
here word me own = rw (eq-eqb me me refl) refl

there : (word : ℕ → ℕ) (me own to : ℕ) → to ≢ me → with_own word me own to ≡ word to
there word me own to h = rw (ne_eqb to me h) refl

-- before the one party's number its share does not count
before : (word : ℕ → ℕ) (me own n : ℕ) → n ≤ me → xor_to n (with_own word me own) ≡ xor_to n (with_own word me 0)
before word me own n h =
    xor_to_same n (with_own word me own) (with_own word me 0)
    (λ party small. let other : party ≢ me = λ e. absurd (omega arith) in
    there word me own party other ∙ sym (there word me 0 party other))

-- behind it the one party's share stands beside the others'
behind : (word : ℕ → ℕ) (me own n : ℕ) → me < n →
    xor_to n (with_own word me own) ≡ bit_xor own (xor_to n (with_own word me 0))
behind word me own zero h = absurd (omega arith)
behind word me own (suc n) h = elim (cases_lt me n) as (λ _. xor_to (suc n) (with_own word me own) ≡ bit_xor own (xor_to (suc n) (with_own word me 0))) [
  | inl small ↦
      (let other : n ≢ me = λ e. absurd (omega arith) in
      ap₂ bit_xor (behind word me own n small) (there word me own n other ∙ sym (there word me 0 n other))
      ∙ xor_assoc own (xor_to n (with_own word me 0)) (with_own word me 0 n))
  | inr large ↦
      (let last : n ≡ me = omega arith in
      let others = xor_to n (with_own word me 0) in
      ap₂ bit_xor (before word me own n large) (ap (with_own word me own) last ∙ here word me own)
      ∙ (xor_comm others own
      ∙ ap (bit_xor own) (sym (ap (bit_xor others) (ap (with_own word me 0) last ∙ here word me 0) ∙ (xor_comm others 0 ∙ xor_zero_l others)))))
]

-- the shares of all parties, where the own one is what the others' leave of the vector
pub recombine_given : (x : ℕ) (word : ℕ → ℕ) (me parties : ℕ) (shares : List ℕ) → me < parties →
    shares ≡ each parties (with_own word me (bit_xor x (xor_to parties (with_own word me 0)))) →
    RecombinesByXor shares x
recombine_given x word me parties shares h e =
    ap xor_total e
    ∙ (xor_total-each parties _
    ∙ (behind word me (bit_xor x (xor_to parties (with_own word me 0))) parties h
    ∙ undone x (xor_to parties (with_own word me 0))))

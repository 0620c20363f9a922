-- The parties' words of a gate sum to its plain number, where its operands recombine and its records are honest.
use Rattle.std.proofs.Common.{ℕ, ◌≡◌, ◌<◌, ◌≤◌, ◌+◌, ◌*◌, ◌%◌, ◌^◌, Bool, true, false, cond, List, [], ◌∷◌, Some, None, refl, sym, ◌∙◌, ap, ap₂, arith}
use Rattle.std.specs.Prelude.{slice_get, slice_index, ◌==◌, if◌then◌else◌}
use Rattle.std.proofs.lemmas.Bool.{eqb-true, eqb-false, eq-eqb}
use Rattle.share_types.specs.Sums.{sum_to, xor_to}
use Rattle.std.proofs.lemmas.Nat.{xor_lt}
use Rattle.share_convert.specs.Convert.{closed_word}
use Rattle.share_convert.proofs.Summing.{bits-sum}
use Rattle.bmr_keys.proofs.Labels.{number-each_below}
use Rattle.boolean_gmw.proofs.Xors.{opened_xor}
use Rattle.share_types.specs.declared.records.MultTriple.{MultTriple}
use Rattle.share_types.specs.declared.receiver.Receiver.{Receiver}
use Rattle.share_types.specs.Wires.{includes}
use Rattle.share_types.proofs.Parties.{sum_to_same}
use Rattle.arithmetic_gmw.specs.Shares.{closed_share}
use Rattle.arithmetic_gmw.proofs.Recombining.{sum-recombines, difference-recombines, scaled-recombines, raised-recombines, product-recombines}
use Rattle.arithmetic_gmw.proofs.Sums.{sum_mod, one_apart, opened_sum}
use Rattle.plan_gates.specs.Gate.{Kind, Word, gives, width_at, InA, ConstA, AddA, SubA, AddConstA, MulConstA, MulA, OutA, word as word_use, vector as vector_use, BToA}
use Rattle.plan_gates.specs.Plan.{Gates, IsPlan, IsGate, IsOperand}
use Rattle.plan_gates.specs.Plain.{Outside, number_at, number_of, seen_of}
use Rattle.plan_gates.specs.Needs.{needs_at, needs_there}
use Rattle.joint_run.specs.Party as party
use Rattle.joint_run.specs.Party.{Own, Value, Hand, Rounds, word_share, gate_value, opened_word}
use Rattle.joint_run.specs.Payload.{word_bytes, word_in, vector_in}
use Rattle.joint_run.proofs.Standing.{hands, Hear, Stand}
use Rattle.joint_run.proofs.Sharing.{word_first, word_second, vector_first, back, public}
use Rattle.joint_run.proofs.Run.{wide_is}

module _ (plan : Gates) (valid : IsPlan plan) (outside : Outside) (plain : List ℕ) (g : ℕ)
    (own : ℕ → Own) (wires : ℕ → List Value) (got : ℕ → Rounds) where
  abbrev n : ℕ
  n = plan.parties

  abbrev at : ℕ → Hand
  at = hands plan own wires g

  abbrev Hears : Kind → Type 0
  Hears kind = Hear plan kind at got

  abbrev Stands : Kind → Type 0
  Stands kind = Stand plan kind g outside.inputs plain at

  abbrev IsThere : Kind → ℕ → Type 0
  IsThere kind width = slice_get plan.gates g ≡ Some (record { kind = kind; width = width })

  positive : 0 < n
  positive = let some : 2 ≤ plan.parties = valid.some_parties in omega (arith, some)

  -- ---- inputs

  given : (p k owner : ℕ) → p < n → owner < n → Hears (InA owner k) → (b : Bool) → (owner == p) ≡ b →
      cond b (party.kept_word (at p) k) (word_in (got p 0 owner) 0) % 2 ^ 64
      ≡ cond b (party.kept_word (at owner) k) (party.given_word (at owner) p) % 2 ^ 64
  given p k owner a b hears true e = ap (λ q. party.kept_word (at q) k % 2 ^ 64) (sym (eqb-true owner p e))
  given p k owner a b hears false e =
      let apart : owner ≡ p → ⊥ = eqb-false owner p e in
      ap (λ bytes. word_in bytes 0 % 2 ^ 64)
      (hears.sent 0 p owner a b apart
      ∙ ap (λ me. if me then word_bytes (party.given_word (at owner) p ∷ []) else []) (eq-eqb owner owner refl))
      ∙ (ap (λ w. w % 2 ^ 64) (word_first (party.given_word (at owner) p) []) ∙ omega arith)

  input_right : (k owner : ℕ) → owner < n → Hears (InA owner k) → Stands (InA owner k) →
      sum_to n (λ p. if owner == p then party.kept_word (at p) k else word_in (got p 0 owner) 0) % 2 ^ 64 ≡ slice_index outside.inputs k % 2 ^ 64
  input_right k owner small hears stands =
      let words : ℕ → ℕ = λ p. party.given_word (at owner) p in
      let others : ℕ = sum_to n (λ q. if q == owner then 0 else words q) in
      let kept = party.kept_word (at owner) k in
      let same = sum_mod n (λ p. if owner == p then party.kept_word (at p) k else word_in (got p 0 owner) 0)
      (λ p. if owner == p then kept else words p) (λ p h. given p k owner h small hears (owner == p) refl) in
      let apart = one_apart n owner kept words small in
      let brought : slice_index outside.inputs k ≡ party.input (at owner) k = stands.brought (record { party = owner; k = k }) refl in
      let whole : (kept + others) % 2 ^ 64 ≡ party.input (at owner) k % 2 ^ 64 = back (party.input (at owner) k) others in
      same ∙ (ap (λ s. s % 2 ^ 64) apart ∙ (whole ∙ ap (λ v. v % 2 ^ 64) (sym brought)))

  -- ---- products

  abbrev triple_of : ℕ → MultTriple
  triple_of p = party.triple (at p)

  abbrev left : ℕ → ℕ → ℕ
  left x q = party.left_word (at q) x

  abbrev right : ℕ → ℕ → ℕ
  right y q = party.right_word (at q) y

  factors_sent : (x y p q : ℕ) → p < n → q < n → (q ≡ p → ⊥) → Hears (MulA x y) → got p 0 q ≡ word_bytes (left x q ∷ right y q ∷ [])
  factors_sent x y p q a b apart hears = hears.sent 0 p q a b apart

  opened_left_is : (x y p : ℕ) → p < n → Hears (MulA x y) → opened_word (at p) (left x p) (got p 0) 0 ≡ sum_to n (left x) % 2 ^ 64
  opened_left_is x y p a hears =
      opened_sum n p (left x) (λ q. word_in (got p 0 q) 0)
      (λ q b apart. ap (λ bytes. word_in bytes 0 % 2 ^ 64) (factors_sent x y p q a b apart hears)
      ∙ (ap (λ w. w % 2 ^ 64) (word_first (left x q) (right y q ∷ [])) ∙ omega arith))

  opened_right_is : (x y p : ℕ) → p < n → Hears (MulA x y) → opened_word (at p) (right y p) (got p 0) 1 ≡ sum_to n (right y) % 2 ^ 64
  opened_right_is x y p a hears =
      opened_sum n p (right y) (λ q. word_in (got p 0 q) 1)
      (λ q b apart. ap (λ bytes. word_in bytes 1 % 2 ^ 64) (factors_sent x y p q a b apart hears)
      ∙ (ap (λ w. w % 2 ^ 64) (word_second (left x q) (right y q) []) ∙ omega arith))

  -- what was opened of all
  abbrev opened_d : ℕ → ℕ
  opened_d x = sum_to n (left x) % 2 ^ 64

  abbrev opened_e : ℕ → ℕ
  opened_e y = sum_to n (right y) % 2 ^ 64

  product_right : (x y width vx vy : ℕ) → IsThere (MulA x y) width → Hears (MulA x y) → Stands (MulA x y) →
      sum_to n (λ p. party.word (at p) x) % 2 ^ 64 ≡ vx % 2 ^ 64 → sum_to n (λ p. party.word (at p) y) % 2 ^ 64 ≡ vy % 2 ^ 64 →
      sum_to n (λ p. party.product (at p) x y (got p 0)) % 2 ^ 64 ≡ (vx * vy) % 2 ^ 64
  product_right x y width vx vy found hears stands is_x is_y =
      let needed : (needs_at plan g).mult ≡ 1 = ap (λ o. (needs_there plan o).mult) found in
      ap (λ s. s % 2 ^ 64)
      (sum_to_same n (λ p. party.product (at p) x y (got p 0)) (λ p. closed_share p (triple_of p) (opened_d x) (opened_e y))
      (λ p h. ap₂ (closed_share p (triple_of p)) (opened_left_is x y p h hears) (opened_right_is x y p h hears)))
      ∙ product-recombines n (λ p. party.word (at p) x) (λ p. party.word (at p) y) triple_of vx vy (opened_d x) (opened_e y)
      (stands.triples (omega (arith, needed))) is_x is_y (omega arith) (omega arith)

  -- ---- vectors as words

  bits_right : (x width : ℕ) → IsThere (BToA x) width → Hears (BToA x) → Stands (BToA x) → IsOperand plan.gates g (vector_use x) →
      sum_to n (λ p. party.closed_vector (at p) x (got p 0)) % 2 ^ 64 ≡ slice_index plain x % 2 ^ 64
  bits_right x width found hears stands used =
      let w = width_at plan.gates x in
      let covered : ℕ → ℕ = λ q. party.covered_vector (at q) x in
      let v = xor_to n covered in
      let operand = stands.vectors x used in
      let needed : (needs_at plan g).shared ≡ w = ap (λ o. (needs_there plan o).shared) found in
      let small : (q : ℕ) → q < n → covered q < 2 ^ w =
      λ q h. xor_lt w (party.vector (at q) x) _ (operand.1 q h) (number-each_below w (λ i. (party.shared_bit (at q) i).bit)) in
      let opened : (p : ℕ) → p < n → party.opened_bits (at p) w (covered p) (got p 0) 0 ≡ v =
      λ p h. opened_xor n p covered (λ q. vector_in w (got p 0 q) 0)
      (λ q b apart. ap (λ bytes. vector_in w bytes 0) (hears.sent 0 p q h b apart) ∙ vector_first w (covered q) [] (small q b)) in
      ap (λ s. s % 2 ^ 64)
      (sum_to_same n (λ p. party.closed_vector (at p) x (got p 0)) (λ p. closed_word p w (party.shared_bit (at p)) v)
      (λ p h. ap (closed_word p w (party.shared_bit (at p))) (opened p h)))
      ∙ (bits-sum n w (λ p. party.shared_bit (at p)) (λ p. party.vector (at p) x) v positive (λ k less. stands.shared_bits w needed k less) operand.1 refl
      ∙ ap (λ s. s % 2 ^ 64) operand.0)

  -- ---- all gates over words

  pub word_right : (kind : Kind) (width : ℕ) → IsThere kind width → Hears kind → Stands kind → gives kind ≡ Word →
      sum_to n (λ p. word_share (gate_value kind (at p) (got p))) % 2 ^ 64 ≡ number_of kind (seen_of plan.gates outside plain kind) % 2 ^ 64
  word_right kind width found hears stands is_word = by kind found hears stands is_word (valid.each g (record { kind = kind; width = width }) found)
    where
      by : (kind : Kind) → IsThere kind width → Hears kind → Stands kind → gives kind ≡ Word → IsGate plan g (record { kind = kind; width = width }) →
          sum_to n (λ p. word_share (gate_value kind (at p) (got p))) % 2 ^ 64 ≡ number_of kind (seen_of plan.gates outside plain kind) % 2 ^ 64
      by (InA owner k) found hears stands word is = input_right k owner is.party hears stands
      by (ConstA c) found hears stands word is = ap (λ s. s % 2 ^ 64) (public n c positive)
      by (AddA x y) found hears stands word is =
          sum-recombines n (λ p. party.word (at p) x) (λ p. party.word (at p) y) (slice_index plain x) (slice_index plain y) (stands.words x is.uses.0) (stands.words y is.uses.1.0)
      by (SubA x y) found hears stands word is =
          difference-recombines n (λ p. party.word (at p) x) (λ p. party.word (at p) y) (slice_index plain x) (slice_index plain y) (stands.words x is.uses.0) (stands.words y is.uses.1.0)
      by (AddConstA x c) found hears stands word is =
          raised-recombines n (λ p. party.word (at p) x) (slice_index plain x) c positive (stands.words x is.uses.0)
      by (MulConstA x c) found hears stands word is =
          scaled-recombines n (λ p. party.word (at p) x) (slice_index plain x) c (stands.words x is.uses.0)
      by (MulA x y) found hears stands word is =
          product_right x y width (slice_index plain x) (slice_index plain y) found hears stands (stands.words x is.uses.0) (stands.words y is.uses.1.0)
      by (BToA x) found hears stands word is = bits_right x width found hears stands is.uses.0
      by _ found hears stands word is = cc

  -- ---- outputs

  word_width : (x : ℕ) → IsOperand plan.gates g (word_use x) → width_at plan.gates x ≡ 64
  word_width x (less, earlier, found, word) = wide_is plan x earlier found ∙ (valid.each x earlier found).word word

  pub told_word : (x width p : ℕ) (to : Receiver) → p < n → IsThere (OutA x to) width → Hears (OutA x to) → Stands (OutA x to) → (b : Bool) → includes to p ≡ b →
      party.Told (if b then Some (opened_word (at p) (party.word (at p) x) (got p 0) 0) else None)
      ≡ party.Told (if b then Some (number_at plan.gates outside plain (slice_get plan.gates g)) else None)
  told_word x width p to a found hears stands true e =
      let shares : ℕ → ℕ = λ q. party.word (at q) x in
      let is : IsGate plan g (record { kind = OutA x to; width = width }) = valid.each g (record { kind = OutA x to; width = width }) found in
      let wide : width ≡ 64 = sym is.fit.0 ∙ word_width x is.uses.0 in
      let heard : opened_word (at p) (party.word (at p) x) (got p 0) 0 ≡ sum_to n shares % 2 ^ 64 =
      opened_sum n p shares (λ q. word_in (got p 0 q) 0) (λ q b apart.
      ap (λ bytes. word_in bytes 0 % 2 ^ 64)
      (hears.sent 0 p q a b apart ∙ ap (λ some. if some then word_bytes (shares q ∷ []) else []) e)
      ∙ (ap (λ w. w % 2 ^ 64) (word_first (shares q) []) ∙ omega arith)) in
      let known : number_at plan.gates outside plain (slice_get plan.gates g) ≡ slice_index plain x % 2 ^ 64 =
      ap (number_at plan.gates outside plain) found ∙ ap (λ k. slice_index plain x % 2 ^ k) wide in
      ap (λ v. party.Told (Some v)) (heard ∙ (stands.words x is.uses.0 ∙ sym known))
  told_word x width p to a found hears stands false e = refl

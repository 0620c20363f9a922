-- The parties' vectors of a gate XOR to its plain number, where its operands recombine and its records are honest.
use Rattle.std.proofs.Common.{ℕ, ◌≡◌, ◌<◌, ◌≤◌, ◌+◌, ◌*◌, ◌%◌, ◌^◌, Bool, true, false, cond, List, [], ◌∷◌, Some, None, refl, sym, ◌∙◌, ap, ap₂, subst, arith, drop}
use Rattle.std.specs.Prelude.{slice_get, slice_index, ◌==◌, if◌then◌else◌, nat_eq, ◌/◌, bit_and, bit_xor}
use Rattle.std.proofs.lemmas.Bool.{eqb-true, eqb-false, eq-eqb}
use Rattle.std.proofs.Math.Nat.{mod-eq_of_lt, mod-lt}
use Rattle.std.proofs.lemmas.Nat.{xor_lt, pow_pos, xor_comm}
use Rattle.share_types.specs.Sums.{part_of_public, xor_to}
use Rattle.share_types.specs.declared.receiver.Receiver.{Receiver}
use Rattle.share_types.specs.Wires.{includes}
use Rattle.share_types.proofs.Parties.{xor_to_same}
use Rattle.boolean_gmw.specs.Shares.{closed_share}
use Rattle.boolean_gmw.proofs.Xors.{undone, one_apart as xor_apart, xor_small, opened_xor}
use Rattle.boolean_gmw.proofs.Recombining.{xor-recombines, flipped-recombines, slice-recombines, join-recombines, and-recombines}
use Rattle.bmr_keys.specs.Mask.{Mask}
use Rattle.bmr_keys.specs.Wires.{Active}
use Rattle.share_convert.specs.Convert.{opened_share}
use Rattle.share_convert.proofs.Opening.{keys-open}
use Rattle.plan_gates.specs.Gate.{Kind, gives, width_at, InB, ConstB, XorB, XorConstB, SliceB, JoinB, AndB, OutB, YToB, Vector, vector as vector_use}
use Rattle.plan_gates.specs.Plan.{Gates, IsPlan, IsGate, IsOperand}
use Rattle.plan_gates.specs.Plain.{Outside, number_at, number_of, seen_of}
use Rattle.plan_gates.specs.Needs.{needs_at, needs_there}
use Rattle.joint_run.specs.Party as party
use Rattle.joint_run.specs.Party.{Own, Value, Hand, Rounds, vector_share, gate_value, opened_vector}
use Rattle.joint_run.specs.Payload.{vectors_bytes, vector_in}
use Rattle.joint_run.proofs.Standing.{hands, Hear, Stand}
use Rattle.joint_run.proofs.Sharing.{vector_first, vector_second, choose, short_vector, and_small, join_small, public_xor}
use Rattle.joint_run.proofs.Run.{wide_is}

module _ (plan : Gates) (valid : IsPlan plan) (outside : Outside) (plain : List ℕ) (g : ℕ)
    (own : ℕ → Own) (wires : ℕ → List Value) (got : ℕ → Rounds) where
  abbrev n : ℕ
  n = plan.parties

  abbrev at : ℕ → Hand
  at = hands plan own wires g

  abbrev wide : ℕ
  wide = width_at plan.gates g

  abbrev Hears : Kind → Type 0
  Hears kind = Hear plan kind at got

  abbrev Stands : Kind → Type 0
  Stands kind = Stand plan kind g outside.inputs plain at

  abbrev IsThere : Kind → ℕ → Type 0
  IsThere kind width = slice_get plan.gates g ≡ Some (record { kind = kind; width = width })

  -- shares that the width leaves room for, and shares that recombine to a number beside
  abbrev AreSmall : (ℕ → ℕ) → Type 0
  AreSmall f = (p : ℕ) → p < n → f p < 2 ^ wide

  abbrev AreShares : (ℕ → ℕ) → ℕ → Type 0
  AreShares f v = (xor_to n f ≡ v) × AreSmall f

  positive : 0 < n
  positive = let some : 2 ≤ plan.parties = valid.some_parties in omega (arith, some)

  is_gate : (kind : Kind) (width : ℕ) → IsThere kind width → IsGate plan g (record { kind = kind; width = width })
  is_gate kind width found = valid.each g (record { kind = kind; width = width }) found

  width_is : (kind : Kind) (width : ℕ) → IsThere kind width → wide ≡ width
  width_is kind width found = wide_is plan g (record { kind = kind; width = width }) found

  -- shares that recombine to a number that they leave room for
  within : (f : ℕ → ℕ) (v : ℕ) → xor_to n f ≡ v → AreSmall f → AreShares f (v % 2 ^ wide)
  within f v is small = (is ∙ sym (mod-eq_of_lt (subst (λ s. s < 2 ^ wide) is (xor_small n wide f small))), small)

  -- ---- inputs

  vector_given : (p k low owner : ℕ) → p < n → owner < n → Hears (InB owner k low) → (b : Bool) → (owner == p) ≡ b →
      cond b (party.kept_vector (at p) k low) (vector_in wide (got p 0 owner) 0)
      ≡ cond b (party.kept_vector (at owner) k low) (party.given_vector (at owner) p)
  vector_given p k low owner a b hears true e = ap (λ q. party.kept_vector (at q) k low) (sym (eqb-true owner p e))
  vector_given p k low owner a b hears false e =
      let apart : owner ≡ p → ⊥ = eqb-false owner p e in
      ap (λ bytes. vector_in wide bytes 0)
      (hears.sent 0 p owner a b apart
      ∙ ap (λ me. if me then vectors_bytes wide (party.given_vector (at owner) p ∷ []) else []) (eq-eqb owner owner refl))
      ∙ vector_first wide (party.given_vector (at owner) p) [] (mod-lt (party.given_word (at owner) p) (pow_pos wide))

  vector_input : (k low owner : ℕ) → owner < n → Hears (InB owner k low) → Stands (InB owner k low) →
      AreShares (λ p. if owner == p then party.kept_vector (at p) k low else vector_in wide (got p 0 owner) 0) (slice_index outside.inputs k / 2 ^ low % 2 ^ wide)
  vector_input k low owner inside hears stands =
      let words : ℕ → ℕ = λ p. party.given_vector (at owner) p in
      let whole : ℕ = party.input (at owner) k / 2 ^ low % 2 ^ wide in
      let others : ℕ = xor_to n (λ q. if q == owner then 0 else words q) in
      let kept : ℕ = party.kept_vector (at owner) k low in
      let brought : slice_index outside.inputs k ≡ party.input (at owner) k = stands.brought (record { party = owner; k = k }) refl in
      let word_small : (q : ℕ) → words q < 2 ^ wide = λ q. mod-lt (party.given_word (at owner) q) (pow_pos wide) in
      let other_small : (q : ℕ) (b : Bool) → cond b 0 (words q) < 2 ^ wide = λ q b. choose wide b 0 (words q) (pow_pos wide) (word_small q) in
      let kept_small : kept < 2 ^ wide =
      xor_lt wide whole others (mod-lt (party.input (at owner) k / 2 ^ low) (pow_pos wide))
      (xor_small n wide (λ q. if q == owner then 0 else words q) (λ q h. other_small q (q == owner))) in (
        xor_to_same n (λ p. if owner == p then party.kept_vector (at p) k low else vector_in wide (got p 0 owner) 0)
            (λ p. if owner == p then kept else words p) (λ p h. vector_given p k low owner h inside hears (owner == p) refl)
            ∙ (xor_apart n owner kept words inside ∙ (undone whole others ∙ ap (λ v. v / 2 ^ low % 2 ^ wide) (sym brought))),
        λ p h. subst (λ s. s < 2 ^ wide) (sym (vector_given p k low owner h inside hears (owner == p) refl))
            (choose wide (owner == p) kept (words p) kept_small (word_small p)),
      )

  -- ---- ANDs

  bits_small : (bit p : ℕ) → party.bits_of (at p) bit < 2 ^ wide
  bits_small bit p = short_vector bit wide (drop (party.first (at p)).bit (own p).part.bits)

  abbrev left_bits : ℕ → ℕ → ℕ
  left_bits x q = party.left_vector (at q) x

  abbrev right_bits : ℕ → ℕ → ℕ
  right_bits y q = party.right_vector (at q) y

  bits_sent : (x y p q : ℕ) → p < n → q < n → (q ≡ p → ⊥) → Hears (AndB x y) → got p 0 q ≡ vectors_bytes wide (left_bits x q ∷ right_bits y q ∷ [])
  bits_sent x y p q a b apart hears = hears.sent 0 p q a b apart

  left_bits_small : (x : ℕ) → AreSmall (λ p. party.vector (at p) x) → AreSmall (left_bits x)
  left_bits_small x small p h = xor_lt wide (party.vector (at p) x) (party.bits_of (at p) 0) (small p h) (bits_small 0 p)

  right_bits_small : (y : ℕ) → AreSmall (λ p. party.vector (at p) y) → AreSmall (right_bits y)
  right_bits_small y small p h = xor_lt wide (party.vector (at p) y) (party.bits_of (at p) 1) (small p h) (bits_small 1 p)

  opened_left_bits : (x y p : ℕ) → p < n → Hears (AndB x y) → AreSmall (λ q. party.vector (at q) x) →
      opened_vector (at p) (left_bits x p) (got p 0) 0 ≡ xor_to n (left_bits x)
  opened_left_bits x y p a hears small =
      opened_xor n p (left_bits x) (λ q. vector_in wide (got p 0 q) 0)
      (λ q b apart. ap (λ bytes. vector_in wide bytes 0) (bits_sent x y p q a b apart hears)
      ∙ vector_first wide (left_bits x q) (right_bits y q ∷ []) (left_bits_small x small q b))

  opened_right_bits : (x y p : ℕ) → p < n → Hears (AndB x y) → AreSmall (λ q. party.vector (at q) y) →
      opened_vector (at p) (right_bits y p) (got p 0) 1 ≡ xor_to n (right_bits y)
  opened_right_bits x y p a hears small =
      opened_xor n p (right_bits y) (λ q. vector_in wide (got p 0 q) 1)
      (λ q b apart. ap (λ bytes. vector_in wide bytes 1) (bits_sent x y p q a b apart hears)
      ∙ vector_second wide (left_bits x q) (right_bits y q) [] (right_bits_small y small q b))

  -- what a party closes an AND with, where d and e were opened
  abbrev closed_bits : ℕ → ℕ → ℕ → ℕ
  closed_bits d e p = closed_share p (party.bit_triple (at p)) d e

  closed_small : (d e p : ℕ) → d < 2 ^ wide → e < 2 ^ wide → closed_bits d e p < 2 ^ wide
  closed_small d e p d_small e_small =
      let a = party.bits_of (at p) 0 in
      let b = party.bits_of (at p) 1 in
      let c = party.bits_of (at p) 2 in
      xor_lt wide (bit_xor (bit_xor c (bit_and d b)) (bit_and e a)) (part_of_public p (bit_and d e))
      (xor_lt wide (bit_xor c (bit_and d b)) (bit_and e a)
      (xor_lt wide c (bit_and d b) (bits_small 2 p) (and_small wide d b d_small)) (and_small wide e a e_small))
      (choose wide (nat_eq p 0) (bit_and d e) 0 (and_small wide d e d_small) (pow_pos wide))

  and_right : (x y width vx vy : ℕ) → IsThere (AndB x y) width → Hears (AndB x y) → Stands (AndB x y) →
      AreShares (λ p. party.vector (at p) x) vx → AreShares (λ p. party.vector (at p) y) vy →
      AreShares (λ p. party.conjunction (at p) x y (got p 0)) (bit_and vx vy % 2 ^ wide)
  and_right x y width vx vy found hears stands (is_x, small_x) (is_y, small_y) =
      let d = xor_to n (left_bits x) in
      let e = xor_to n (right_bits y) in
      let d_small = xor_small n wide (left_bits x) (left_bits_small x small_x) in
      let e_small = xor_small n wide (right_bits y) (right_bits_small y small_y) in
      let needed : (needs_at plan g).bit ≡ wide = ap (λ o. (needs_there plan o).bit) found ∙ sym (width_is (AndB x y) width found) in
      let closes : (p : ℕ) → p < n → party.conjunction (at p) x y (got p 0) ≡ closed_bits d e p =
      λ p h. ap₂ (closed_share p (party.bit_triple (at p))) (opened_left_bits x y p h hears small_x) (opened_right_bits x y p h hears small_y) in
      within (λ p. party.conjunction (at p) x y (got p 0)) (bit_and vx vy)
      (xor_to_same n (λ p. party.conjunction (at p) x y (got p 0)) (closed_bits d e) closes
      ∙ and-recombines n (λ p. party.vector (at p) x) (λ p. party.vector (at p) y) (λ p. party.bit_triple (at p)) vx vy d e positive
      (stands.bit_triples needed) is_x is_y refl refl)
      (λ p h. subst (λ s. s < 2 ^ wide) (sym (closes p h)) (closed_small d e p d_small e_small))

  -- ---- all gates over vectors

  -- an operand as wide as its gate
  fitting : (x width : ℕ) (kind : Kind) → IsThere kind width → Stands kind → IsOperand plan.gates g (vector_use x) → width_at plan.gates x ≡ width →
      AreShares (λ p. party.vector (at p) x) (slice_index plain x)
  fitting x width kind found stands is fit =
      let (recombined, small) = stands.vectors x is in
      (recombined, λ p h. subst (λ w. party.vector (at p) x < 2 ^ w) (fit ∙ sym (width_is kind width found)) (small p h))

  constant_small : (c width : ℕ) (kind : Kind) → IsThere kind width → c < 2 ^ width → c < 2 ^ wide
  constant_small c width kind found small = subst (λ w. c < 2 ^ w) (sym (width_is kind width found)) small

  pub vector_right : (kind : Kind) (width : ℕ) → IsThere kind width → Hears kind → Stands kind → gives kind ≡ Vector →
      AreShares (λ p. vector_share (gate_value kind (at p) (got p))) (number_of kind (seen_of plan.gates outside plain kind) % 2 ^ wide)
  vector_right (InB owner k low) width found hears stands vector =
      vector_input k low owner (is_gate (InB owner k low) width found).party hears stands
  vector_right (ConstB c) width found hears stands vector =
      let c_small = constant_small c width (ConstB c) found (is_gate (ConstB c) width found).small in
      within (λ p. part_of_public p c) c (public_xor n c positive) (λ p h. choose wide (nat_eq p 0) c 0 c_small (pow_pos wide))
  vector_right (XorB x y) width found hears stands vector =
      let is = is_gate (XorB x y) width found in
      let (is_x, small_x) = fitting x width (XorB x y) found stands is.uses.0 is.fit.0 in
      let (is_y, small_y) = fitting y width (XorB x y) found stands is.uses.1.0 is.fit.1.0 in
      within (λ p. bit_xor (party.vector (at p) x) (party.vector (at p) y)) (bit_xor (slice_index plain x) (slice_index plain y))
      (xor-recombines n (λ p. party.vector (at p) x) (λ p. party.vector (at p) y) (slice_index plain x) (slice_index plain y) is_x is_y)
      (λ p h. xor_lt wide (party.vector (at p) x) (party.vector (at p) y) (small_x p h) (small_y p h))
  vector_right (XorConstB x c) width found hears stands vector =
      let is = is_gate (XorConstB x c) width found in
      let (is_x, small_x) = fitting x width (XorConstB x c) found stands is.uses.0 is.fit.0 in
      let c_small = constant_small c width (XorConstB x c) found is.small in
      within (λ p. bit_xor (party.vector (at p) x) (part_of_public p c)) (bit_xor (slice_index plain x) c)
      (flipped-recombines n (λ p. party.vector (at p) x) (slice_index plain x) c positive is_x)
      (λ p h. xor_lt wide (party.vector (at p) x) (part_of_public p c) (small_x p h) (choose wide (nat_eq p 0) c 0 c_small (pow_pos wide)))
  vector_right (SliceB x low) width found hears stands vector =
      let (is_x, small_x) = stands.vectors x (is_gate (SliceB x low) width found).uses.0 in (
        slice-recombines n (λ p. party.vector (at p) x) (slice_index plain x) low wide is_x,
        λ p h. mod-lt (party.vector (at p) x / 2 ^ low) (pow_pos wide),
      )
  vector_right (JoinB x y) width found hears stands vector =
      let is = is_gate (JoinB x y) width found in
      let below = width_at plan.gates x in
      let (is_x, small_x) = stands.vectors x is.uses.0 in
      let (is_y, small_y) = stands.vectors y is.uses.1.0 in
      let both : wide ≡ below + width_at plan.gates y = width_is (JoinB x y) width found ∙ is.fit in
      within (λ p. party.vector (at p) x + 2 ^ below * party.vector (at p) y) (slice_index plain x + 2 ^ below * slice_index plain y)
      (join-recombines n (λ p. party.vector (at p) x) (λ p. party.vector (at p) y) (slice_index plain x) (slice_index plain y) below small_x is_x is_y)
      (λ p h. subst (λ w. party.vector (at p) x + 2 ^ below * party.vector (at p) y < 2 ^ w) (sym both)
      (join_small below (width_at plan.gates y) (party.vector (at p) x) (party.vector (at p) y) (small_x p h) (small_y p h)))
  vector_right (AndB x y) width found hears stands vector =
      let is = is_gate (AndB x y) width found in
      and_right x y width (slice_index plain x) (slice_index plain y) found hears stands
      (fitting x width (AndB x y) found stands is.uses.0 is.fit.0) (fitting y width (AndB x y) found stands is.uses.1.0 is.fit.1.0)
  vector_right (YToB m o) width found hears stands vector =
      let is = is_gate (YToB m o) width found in
      let masks : ℕ → Mask = λ p. party.mask (at p) m in
      let seen : ℕ → Active = λ p. party.online (at p) o in
      let here : wide ≡ width = width_is (YToB m o) width found in
      within (λ p. opened_share p (masks p).mask (seen p).masked) (bit_xor (slice_index plain m) (slice_index plain o))
      (keys-open n (λ q. party.key_offset (at q)) masks (bit_xor (slice_index plain o) (slice_index plain m)) seen positive
      (stands.wires m o is.paired is.uses.0.0 is.uses.1.0.0)
      ∙ xor_comm (slice_index plain o) (slice_index plain m))
      (λ p h. xor_lt wide (masks p).mask (part_of_public p (seen p).masked)
      (subst (λ w. (masks p).mask < 2 ^ w) (is.fit.0 ∙ sym here) (stands.masks m is.uses.0 p h))
      (choose wide (nat_eq p 0) (seen p).masked 0 (subst (λ w. (seen p).masked < 2 ^ w) (is.fit.1.0 ∙ sym here) (stands.onlines o is.uses.1.0 p h)) (pow_pos wide)))
  vector_right _ width found hears stands vector = cc

  -- ---- outputs

  pub told_vector : (x width p : ℕ) (to : Receiver) → p < n → IsThere (OutB x to) width → Hears (OutB x to) → Stands (OutB x to) → (b : Bool) → includes to p ≡ b →
      party.Told (if b then Some (opened_vector (at p) (party.vector (at p) x) (got p 0) 0) else None)
      ≡ party.Told (if b then Some (number_at plan.gates outside plain (slice_get plan.gates g)) else None)
  told_vector x width p to a found hears stands true e =
      let shares : ℕ → ℕ = λ q. party.vector (at q) x in
      let is = is_gate (OutB x to) width found in
      let (is_x, small_x) = fitting x width (OutB x to) found stands is.uses.0 is.fit.0 in
      let heard : opened_vector (at p) (party.vector (at p) x) (got p 0) 0 ≡ xor_to n shares =
      opened_xor n p shares (λ q. vector_in wide (got p 0 q) 0) (λ q b apart.
      ap (λ bytes. vector_in wide bytes 0)
      (hears.sent 0 p q a b apart ∙ ap (λ some. if some then vectors_bytes wide (shares q ∷ []) else []) e)
      ∙ vector_first wide (shares q) [] (small_x q b)) in
      let cut_is = (within shares (slice_index plain x) is_x small_x).0 in
      let known : number_at plan.gates outside plain (slice_get plan.gates g) ≡ slice_index plain x % 2 ^ wide =
      ap (number_at plan.gates outside plain) found ∙ ap (λ w. slice_index plain x % 2 ^ w) (sym (width_is (OutB x to) width found)) in
      ap (λ v. party.Told (Some v)) (heard ∙ (cut_is ∙ sym known))
  told_vector x width p to a found hears stands false e = refl

-- In a joint run with honest parts, what all parties see of a value that is entered is a wire of it.
use Rattle.std.proofs.Common.{ℕ, ◌≡◌, ◌<◌, ◌≤◌, ◌%◌, ◌^◌, Bool, true, false, cond, List, [], ◌∷◌, Some, refl, sym, ◌∙◌, ap, ap₂, subst, arith}
use Rattle.std.specs.Prelude.{slice_get, get_or, ◌==◌, if◌then◌else◌, bit_xor}
use Rattle.std.proofs.Math.Nat.{mod-lt}
use Rattle.std.proofs.lemmas.Nat.{xor_lt, pow_pos}
use Rattle.std.proofs.lemmas.Bool.{eqb-true, eqb-false, eq-eqb}
use Rattle.share_types.specs.declared.needs.Needs.{Needs}
use Rattle.share_types.specs.declared.keys.Key.{Key}
use Rattle.share_types.specs.Keys.{bit, times, key_at, key_of}
use Rattle.boolean_gmw.proofs.Xors.{opened_xor}
use Rattle.bmr_keys.specs.Mask.{Mask}
use Rattle.bmr_keys.specs.Wires.{Active, whole, IsActive}
use Rattle.bmr_keys.specs.Payload.{key_in}
use Rattle.bmr_eval.specs.Active.{own_active}
use Rattle.bmr_eval.proofs.Evaluating.{entry-recombines}
use Rattle.plan_gates.specs.Gate.{Kind, Gate, width_at, mask as mask_use}
use Rattle.plan_gates.specs.Plan.{Gates, IsPlan, IsOperand}
use Rattle.joint_run.specs.Party as party
use Rattle.joint_run.specs.Party.{Own, Value, Hand, Rounds, active_part, keys_of, owner_keys, hand_at, wires_before, gate_value, gate_sends, before, silence}
use Rattle.joint_run.specs.Payload.{vectors_bytes, vector_in}
use Rattle.joint_run.specs.Joint.{Payloads, column, IsJoint}
use Rattle.joint_run.specs.Honest.{own_at, AreHonest}
use Rattle.joint_run.proofs.Run.{sent, wide_is}
use Rattle.joint_run.proofs.Sharing.{vector_first}
use Rattle.joint_run.proofs.Narrow.{Enters, owner_masks}
use Rattle.joint_run.proofs.Keys.{times_low}
use Rattle.joint_run.proofs.KeyValues.{key-there, key-back, owner-same, listed_active, seen-listed}
use Rattle.joint_run.proofs.MasksRight.{IsLow, AreParts, operand_fits, operand_small}

module _ (plan : Gates) (owns : List Own) (bases : Needs) (session : ℕ) (table : Payloads)
    (valid : IsPlan plan) (honest : AreHonest plan owns bases session) (joint : IsJoint plan owns table) where
  abbrev n : ℕ
  n = plan.parties

  abbrev own : ℕ → Own
  own p = own_at owns p

  abbrev wires : ℕ → ℕ → List Value
  wires g p = wires_before plan p (own p) (column table p) g

  abbrev at : ℕ → ℕ → Hand
  at g p = hand_at plan p (own p) (column table p) g

  abbrev wide : ℕ → ℕ
  wide g = width_at plan.gates g

  abbrev offset : ℕ → ℕ
  offset p = (own p).part.offset % 2 ^ 128

  some : 0 < n
  some = let enough : 2 ≤ plan.parties = valid.some_parties in omega (arith, enough)

  offset_low : (p : ℕ) → IsLow (offset p)
  offset_low p = mod-lt (own p).part.offset (pow_pos 128)

  sent_in : (g r p q : ℕ) (gate : Gate) → p < n → q < n → (q ≡ p → ⊥) → slice_get plan.gates g ≡ Some gate →
      table g r q p ≡ get_or (gate_sends gate.kind (at g q) (before r (column table q g))) r silence p
  sent_in g r p q gate = sent plan owns table honest.each joint g r p q gate

  -- an entry at a gate
  module _ (g owner m width : ℕ) (kind : Kind) (value : Hand → ℕ) (enters : Enters kind owner m value) (found : slice_get plan.gates g ≡ Some (record { kind = kind; width = width }))
      (inside : owner < n) (used : IsOperand plan.gates g (mask_use m)) (as_wide : wide m ≡ width) where
    abbrev gate : Gate
    gate = record { kind = kind; width = width }

    entry_sent : (r p q : ℕ) → p < n → q < n → (q ≡ p → ⊥) → table g r q p ≡ get_or (party.entry_sends (at g q) owner m (value (at g q)) (before r (column table q g))) r silence p
    entry_sent r p q a b apart = sent_in g r p q gate a b apart found ∙ ap (λ sends. get_or sends r silence p) (enters.sends (at g q) (before r (column table q g)))

    abbrev parts : ℕ → Mask
    parts p = party.mask (at g p) m

    abbrev shares : ℕ → ℕ
    shares p = (parts p).mask

    same_wide : wide m ≡ wide g
    same_wide = as_wide ∙ sym (wide_is plan g gate found)

    fit : AreParts n (wide m) offset parts
    fit = operand_fits plan owns bases session table valid honest joint g m used

    small : (p : ℕ) → p < n → shares p < 2 ^ wide g
    small = operand_small plan owns bases session table valid honest joint g m used same_wide

    -- the value, and the masked bits that the owner makes
    abbrev x : ℕ
    x = value (at g owner)

    abbrev by_owner : ℕ → ℕ
    by_owner p = party.masked_by_owner (at g p) m (value (at g p)) (λ q. table g 0 q p)

    abbrev t : ℕ
    t = by_owner owner

    t_small : t < 2 ^ wide g
    t_small = owner_masks plan owns table valid honest.each joint g owner m width kind value enters inside found small

    share_sent : (q : ℕ) → q < n → (q ≡ owner → ⊥) → vector_in (wide g) (table g 0 q owner) 0 ≡ shares q
    share_sent q b apart =
        ap (λ bytes. vector_in (wide g) bytes 0)
        (entry_sent 0 owner q inside b apart ∙ ap (λ me. if me then vectors_bytes (wide g) (shares q ∷ []) else []) (eq-eqb owner owner refl))
        ∙ vector_first (wide g) (shares q) [] (small q b)

    t_is : t ≡ bit_xor x (whole n parts)
    t_is = ap (bit_xor x) (opened_xor n owner shares (λ q. vector_in (wide g) (table g 0 q owner) 0) share_sent)

    abbrev masked : ℕ → ℕ
    masked p = party.masked (at g p) owner m (value (at g p)) (column table p g)

    masked_by : (p : ℕ) → p < n → (b : Bool) → (p == owner) ≡ b →
        vector_in (wide g) (cond b (vectors_bytes (wide g) (by_owner p ∷ [])) (table g 1 owner p)) 0 ≡ t
    masked_by p h true e =
        ap (λ q. vector_in (wide g) (vectors_bytes (wide g) (by_owner q ∷ [])) 0) (eqb-true p owner e) ∙ vector_first (wide g) t [] t_small
    masked_by p h false e =
        ap (λ bytes. vector_in (wide g) bytes 0)
        (entry_sent 1 p owner h inside (λ same. eqb-false p owner e (sym same))
        ∙ ap (λ me. if me then vectors_bytes (wide g) (t ∷ []) else []) (eq-eqb owner owner refl))
        ∙ vector_first (wide g) t [] t_small

    masked_is : (p : ℕ) → p < n → masked p ≡ t
    masked_is p h = masked_by p h (p == owner) refl

    -- the active keys
    abbrev active : ℕ → ℕ → ℕ → ℕ
    active s j i = own_active (parts j) (offset j) s i

    active_low : (s j i : ℕ) → j < n → IsLow (active s j i)
    active_low s j i h = xor_lt 128 ((parts j).keys i) (times (bit s i) (offset j)) ((fit.low j h).0 i) (times_low (bit s i) (offset j) (offset_low j))

    key_is : (p i j : ℕ) → p < n → i < wide g → j < n → (b : Bool) → (j == p) ≡ b →
        cond b (key_at (party.own_keys (at g p) m (masked p)) i) (key_in (table g 2 j p) i) ≡ active t j i
    key_is p i j h inside_width a true e =
        key-there (wide g) (active (masked p) p) i inside_width
        ∙ ap₂ (λ s q. active s q i) (masked_is p h) (sym (eqb-true j p e))
    key_is p i j h inside_width a false e =
        ap (λ bytes. key_in bytes i) (entry_sent 2 p j h a (eqb-false j p e))
        ∙ (key-back (wide g) (active (masked j) j) i (λ c less. active_low (masked j) j c a) inside_width
        ∙ ap (λ s. active s j i) (masked_is j a))

    -- what each party sees
    abbrev seen : Active
    seen = record { masked = t; keys = λ i j. active t j i }

    entered_is : (p : ℕ) → p < n → active_part n (gate_value kind (at g p) (column table p g)) ≡ listed_active n (wide g) seen
    entered_is p h =
        ap (active_part n) (enters.gives (at g p) (column table p g))
        ∙ ap₂ (λ (s : ℕ) (ks : List Key). let it : Active = record { masked = s; keys = key_of n ks } in it) (masked_is p h)
        (owner-same n (wide g) (party.entered (at g p) owner m (value (at g p)) (column table p g)).keys seen.keys some
        (λ i j less a. key_is p i j h less a (j == p) refl))

    pub entry_wire : (p : ℕ) → p < n → IsActive n offset parts x (active_part n (gate_value kind (at g p) (column table p g)))
    entry_wire p h =
        subst (IsActive n offset parts x) (sym (entered_is p h))
        (seen-listed n (wide g) offset parts parts x seen (entry-recombines n offset parts x t t_is) t_small refl (λ i j less. refl)
        (λ i j past. fit.past j i (subst (λ w. w ≤ i) (sym same_wide) past)))

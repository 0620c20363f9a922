-- The gates of each kind, whose wires are shared as keys or by XOR: how many they are, that they may stand behind those of
-- their inputs, and what they give.
use Rattle.std.proofs.Common.{ℕ, zero, suc, ◌≡◌, ◌<◌, ◌≤◌, ◌+◌, ◌*◌, Bool, true, false, List, length, refl, sym, ◌∙◌, ap, subst, arith}
use Rattle.std.specs.Prelude.{◌==◌, nat_le}
use Rattle.std.specs.List.{AllByRecursion}
use Rattle.std.proofs.lemmas.Bool.{and_parts, eqb-true}
use Rattle.mot_base.proofs.Lists.{all_append}
use Rattle.share_types.specs.declared.receiver.Receiver.{Receiver}
use Rattle.bristol_reader.specs.declared.kind.BristolKind.{BristolKind}
use Rattle.bristol_reader.specs.declared.kind.BristolKind.TheVariants.{Xor, And, Inv, Eq, Eqw, Mand}
use Rattle.bristol_reader.specs.Kinds.{is_arity, is_constant}
use Rattle.plan_gates.specs.Gate.{Gate}
use Rattle.plan_gates.specs.Plan.{Gates}
use Rattle.gate_plan.specs.declared.wire.Wire.{Wire}
use Rattle.gate_plan.specs.Blocks.{Block, entered, constant, xored, anded, flipped, told, in_row, Stand}
use Rattle.gate_plan.specs.Bristol.{gates_of_end, gates_of_and, gates_of_kind, kind_gates, output_wire}
use Rattle.gate_plan.proofs.NumberLemmas.{IsSilent}
use Rattle.gate_plan.proofs.StandLemmas.{AreBits, later_bits, AllGates, all_none, length_row, stand_row, all_row}
use Rattle.gate_plan.proofs.BlockLemmas.{Fits, constant_fits, xored_fits, anded_fits, flipped_fits, constant_silent, xored_silent, anded_silent, flipped_silent}

-- ---- how many they are

pub entered_size : (keys : Bool) (n w party k at : ℕ) → length (entered keys n w party k at).gates ≡ gates_of_end keys
entered_size false n w party k at = refl
entered_size true n w party k at = refl

pub told_size : (keys : Bool) (n w : ℕ) (a : Wire) (to : Receiver) → length (told keys n w a to).gates ≡ gates_of_end keys
told_size false n w a to = refl
told_size true n w a to = refl

pub anded_size : (keys : Bool) (n w : ℕ) (a b : Wire) → length (anded keys n w a b).gates ≡ gates_of_and keys
anded_size false n w a b = refl
anded_size true n w a b = refl

pub length_kind : (keys : Bool) (kind : BristolKind) (x : ℕ → Wire) (word outs n : ℕ) →
    length (kind_gates keys kind x word outs n) ≡ gates_of_kind keys kind outs
length_kind false Mand x word outs n =
    length_row 1 outs (λ i. (anded false (n + 1 * i) 1 (x i) (x (outs + i))).gates) (λ i. refl) ∙ omega arith
length_kind true Mand x word outs n =
    length_row 3 outs (λ i. (anded true (n + 3 * i) 1 (x i) (x (outs + i))).gates) (λ i. refl)
length_kind false _ x word outs n = refl
length_kind true _ x word outs n = refl

-- ---- the wires that they give, whatever they take

xored_wire : (keys : Bool) (n w : ℕ) (a b c d : Wire) → (xored keys n w a b).wire ≡ (xored keys n w c d).wire
xored_wire false n w a b c d = refl
xored_wire true n w a b c d = refl

pub anded_wire : (keys : Bool) (n w : ℕ) (a b c d : Wire) → (anded keys n w a b).wire ≡ (anded keys n w c d).wire
anded_wire false n w a b c d = refl
anded_wire true n w a b c d = refl

constant_wire : (keys : Bool) (n w c d : ℕ) → (constant keys n w c).wire ≡ (constant keys n w d).wire
constant_wire false n w c d = refl
constant_wire true n w c d = refl

-- those of output i are the wire of the block that gives it
pub xor_output : (keys : Bool) (x : ℕ → Wire) (n i : ℕ) → (xored keys n 1 (x 0) (x 1)).wire ≡ output_wire keys Xor (x 0) n i
xor_output keys x n i = xored_wire keys n 1 (x 0) (x 1) (x 0) (x 0)

pub and_output : (keys : Bool) (x : ℕ → Wire) (n i : ℕ) → (anded keys n 1 (x 0) (x 1)).wire ≡ output_wire keys And (x 0) n i
and_output keys x n i = anded_wire keys n 1 (x 0) (x 1) (x 0) (x 0)

pub constant_output : (keys : Bool) (x : ℕ → Wire) (word n i : ℕ) → (constant keys n 1 word).wire ≡ output_wire keys Eq (x 0) n i
constant_output keys x word n i = constant_wire keys n 1 word 0

pub mand_output : (keys : Bool) (x : ℕ → Wire) (outs n i : ℕ) →
    (anded keys (n + gates_of_and keys * i) 1 (x i) (x (outs + i))).wire ≡ output_wire keys Mand (x 0) n i
mand_output keys x outs n i = anded_wire keys (n + gates_of_and keys * i) 1 (x i) (x (outs + i)) (x 0) (x 0)

-- ---- they tell nothing

pub silent_row : (count : ℕ) (f : ℕ → List Gate) → ((i : ℕ) → AllByRecursion IsSilent (f i)) →
    AllByRecursion IsSilent (in_row count f)
silent_row zero f each = tt
silent_row (suc i) f each = all_append IsSilent (in_row i f) (f i) (silent_row i f each) (each i)

pub kind_silent : (keys : Bool) (kind : BristolKind) (x : ℕ → Wire) (word outs n : ℕ) →
    AllByRecursion IsSilent (kind_gates keys kind x word outs n)
kind_silent keys Xor x word outs n = xored_silent keys n 1 (x 0) (x 1)
kind_silent keys And x word outs n = anded_silent keys n 1 (x 0) (x 1)
kind_silent keys Inv x word outs n = flipped_silent keys n 1 (x 0) 1
kind_silent keys Eq x word outs n = constant_silent keys n 1 word
kind_silent keys Eqw x word outs n = tt
kind_silent keys Mand x word outs n =
    silent_row outs (λ i. (anded keys (n + gates_of_and keys * i) 1 (x i) (x (outs + i))).gates)
    (λ i. anded_silent keys (n + gates_of_and keys * i) 1 (x i) (x (outs + i)))

-- ---- they may stand behind those of their inputs

-- one of so many ANDs stands before the end of all
within_ands : (keys : Bool) (i count : ℕ) → i < count → gates_of_and keys * i + gates_of_and keys ≤ gates_of_kind keys Mand count
within_ands false i count h = omega (arith, h)
within_ands true i count h = omega (arith, h)

module _ (plan : Gates) (n : ℕ) (keys : Bool) where
  -- the gates of a kind, and the wires of its outputs
  pub record KindFits (kind : BristolKind) (x : ℕ → Wire) (word outs : ℕ) : Type 0 where
    pub gates : AllGates plan n (kind_gates keys kind x word outs n)
    pub value : (i : ℕ) → i < outs →
        AreBits keys plan.gates (n + gates_of_kind keys kind outs) (output_wire keys kind (x 0) n i) 1

  -- of a kind with one block
  by_block : (kind : BristolKind) (x : ℕ → Wire) (word outs : ℕ) (b : Block) → Fits plan n 1 b keys →
      kind_gates keys kind x word outs n ≡ b.gates → ((i : ℕ) → b.wire ≡ output_wire keys kind (x 0) n i) →
      KindFits kind x word outs
  by_block kind x word outs b fits gates wire =
      let size = length_kind keys kind x word outs n in
      let same = ap (λ (gs : List Gate). length gs) gates in
      record {
        gates = subst (AllGates plan n) (sym gates) fits.gates;
        value = λ i h. subst (λ (a : Wire). AreBits keys plan.gates (n + gates_of_kind keys kind outs) a 1) (wire i)
            (later_bits keys plan.gates (n + length b.gates) (n + gates_of_kind keys kind outs) b.wire 1
            (omega (arith, size, same)) fits.value);
      }

  pub kind_fits : (kind : BristolKind) (x : ℕ → Wire) (word ins outs : ℕ) → is_arity kind ins outs ≡ true →
      (is_constant kind ≡ false → (k : ℕ) → k < ins → AreBits keys plan.gates n (x k) 1) →
      (is_constant kind ≡ true → word < 2) →
      Stand plan.gates n (kind_gates keys kind x word outs n) → KindFits kind x word outs
  kind_fits Xor x word ins outs arity given fixed stand =
      let two = eqb-true ins 2 (and_parts (ins == 2) (outs == 1) arity).0 in
      by_block Xor x word outs (xored keys n 1 (x 0) (x 1))
      (xored_fits plan n 1 (omega arith) (omega arith) keys (x 0) (x 1) (given refl 0 (omega arith))
      (given refl 1 (omega arith)) stand) refl (xor_output keys x n)
  kind_fits And x word ins outs arity given fixed stand =
      let two = eqb-true ins 2 (and_parts (ins == 2) (outs == 1) arity).0 in
      by_block And x word outs (anded keys n 1 (x 0) (x 1))
      (anded_fits plan n 1 (omega arith) (omega arith) keys (x 0) (x 1) (given refl 0 (omega arith))
      (given refl 1 (omega arith)) stand) refl (and_output keys x n)
  kind_fits Inv x word ins outs arity given fixed stand =
      let one = eqb-true ins 1 (and_parts (ins == 1) (outs == 1) arity).0 in
      by_block Inv x word outs (flipped keys n 1 (x 0) 1)
      (flipped_fits plan n 1 (omega arith) (omega arith) keys (x 0) 1 (omega arith) (given refl 0 (omega arith)) stand)
      refl (λ i. refl)
  kind_fits Eq x word ins outs arity given fixed stand =
      by_block Eq x word outs (constant keys n 1 word)
      (constant_fits plan n 1 (omega arith) (omega arith) keys word (fixed refl) stand) refl
      (constant_output keys x word n)
  kind_fits Eqw x word ins outs arity given fixed stand =
      let one = eqb-true ins 1 (and_parts (ins == 1) (outs == 1) arity).0 in
      record {
        gates = all_none plan n;
        value = λ i h. later_bits keys plan.gates n (n + gates_of_kind keys Eqw outs) (x 0) 1 (omega arith)
            (given refl 0 (omega arith));
      }
  kind_fits Mand x word ins outs arity given fixed stand =
      let both = eqb-true ins (2 * outs) (and_parts (nat_le 1 outs) (ins == 2 * outs) arity).1 in
      record {
        gates = all_row plan n (gates_of_and keys) outs f (λ i. size i)
            (λ i h. (fits i h (omega (arith, both, h))).gates);
        value = λ i h.
            let within = within_ands keys i outs h in
            let own = size i in
            subst (λ (a : Wire). AreBits keys plan.gates (n + gates_of_kind keys Mand outs) a 1) (mand_output keys x outs n i)
            (later_bits keys plan.gates (n + gates_of_and keys * i + length (f i)) (n + gates_of_kind keys Mand outs)
            (block i).wire 1 (omega (arith, within, own)) (fits i h (omega (arith, both, h))).value);
      }
    where
      block : ℕ → Block
      block i = anded keys (n + gates_of_and keys * i) 1 (x i) (x (outs + i))

      f : ℕ → List Gate
      f i = (anded keys (n + gates_of_and keys * i) 1 (x i) (x (outs + i))).gates

      size : (i : ℕ) → length (f i) ≡ gates_of_and keys
      size i = anded_size keys (n + gates_of_and keys * i) 1 (x i) (x (outs + i))

      fits : (i : ℕ) → i < outs → outs + outs ≤ ins →
          Fits plan (n + gates_of_and keys * i) 1
          (anded keys (n + gates_of_and keys * i) 1 (x i) (x (outs + i))) keys
      fits i h many =
          anded_fits plan (n + gates_of_and keys * i) 1 (omega arith) (omega arith) keys (x i) (x (outs + i))
          (later_bits keys plan.gates n (n + gates_of_and keys * i) (x i) 1 (omega arith) (given refl i (omega (arith, h, many))))
          (later_bits keys plan.gates n (n + gates_of_and keys * i) (x (outs + i)) 1 (omega arith)
          (given refl (outs + i) (omega (arith, h, many))))
          (stand_row plan.gates n (gates_of_and keys) outs f size stand i h)

-- The operands of a gate, and the records that it uses.
use Rattle.std.proofs.Common.{ℕ, zero, suc, ◌≡◌, ◌<◌, ◌≤◌, ◌+◌, true, List, [], ◌∷◌, length, map, get_or, Option, Some, None, refl, sym, ◌∙◌, ap, subst, arith}
use Rattle.std.specs.Prelude.{option_map, slice_get, slice_index_or}
use Rattle.std.specs.List.{AllByRecursion}
use Rattle.std.specs.Option.{unwrap_or}
use Rattle.share_types.specs.declared.bits.Bits.{Bits}
use Rattle.plan_gates.specs.Gate.{Kind, Gate, Given, Use, Word, Vector, width_at, gives, uses, operands, MulA, SliceB, JoinB, AndB, SliceMask, JoinMask, SliceOnline, JoinOnline, BToA}
use Rattle.plan_gates.specs.declared.draft.Sizes.{Sizes}
use Rattle.plan_gates.specs.Plan.{Gates, IsPlan, IsOperand, FitWidths, sizes_of}
use Rattle.plan_gates.specs.Needs.{offset, needs_at, needs_there, needs_of}
use Rattle.mot_base.proofs.Lists.{all_at, mapped_at, inside_of, same_some, mapped_some}
use Rattle.plan_gates.proofs.MessageLemmas.{gate_there}
use Rattle.mot_base.specs.Limits.{most_width}
use Rattle.share_types.specs.declared.needs.Kind.TheVariants.{Bit}
use Rattle.dealer_files.specs.Part.{Part}
use Rattle.joint_run.specs.declared.own.Own.{Own as OwnInMemory}
use Rattle.joint_run.specs.Honest.{Taken, taken_by}
use Rattle.gate_tasks.specs.Stage.{taken_from, Serves, AreOperands, IsOf, kind_at, operands_of}
use Rattle.gate_tasks.specs.ByValue.{taken_at, keeps_width, is_conjunction, is_product, words_heard, vectors_heard}
use Rattle.gate_tasks.specs.declared.value.Value.{Value as ValueInMemory}
use Rattle.gate_tasks.specs.declared.value.Value.TheVariants as code
use Rattle.joint_run.proofs.Grown.{there_is}

-- the gate of an operand
pub record Used (plan : Gates) (u : Use) : Type 0 where
  pub used : Gate
  pub there : slice_get plan.gates u.gate ≡ Some used
  pub gives_it : gives used.kind ≡ u.given

pub used_at : (plan : Gates) (g : ℕ) (gate : Gate) (i : ℕ) (u : Use) → IsPlan plan → slice_get plan.gates g ≡ Some gate →
    slice_get (uses gate.kind) i ≡ Some u → Used plan u
used_at plan g gate i u valid here at =
    let (less, used, there, is) = all_at (IsOperand plan.gates g) (uses gate.kind) i u (valid.each g gate here).uses at in
    record { used = used; there = there; gives_it = is }

-- the value of an operand has its gate's type
pub typed_at : (plan : Gates) (g : ℕ) (gate : Gate) (wires : List ValueInMemory) (i : ℕ) (u : Use) (value : ValueInMemory) →
    (it : Used plan u) → AreOperands plan g wires → slice_get plan.gates g ≡ Some gate →
    slice_get (uses gate.kind) i ≡ Some u → slice_get wires i ≡ Some value → IsOf it.used value
typed_at plan g gate wires i u value it are here at found =
    are.types i u.gate it.used value
    (ap (λ o. slice_get (operands_of (option_map (λ (y : Gate). y.kind) o)) i) here ∙ mapped_at (λ (v : Use). v.gate) (uses gate.kind) i u at)
    it.there found

-- what an operand of a gate is, where its number is known
pub use_there : (kind : Kind) (i x : ℕ) → slice_get (operands kind) i ≡ Some x → (u : Use) × (slice_get (uses kind) i ≡ Some u) × (u.gate ≡ x)
use_there kind i x at = there (uses kind) i at
  where
    there : (us : List Use) (i : ℕ) → slice_get (map (λ (v : Use). v.gate) us) i ≡ Some x → (u : Use) × (slice_get us i ≡ Some u) × (u.gate ≡ x)
    there [] i e = cc
    there (u ∷ us) zero e = (u, refl, same_some u.gate x e)
    there (u ∷ us) (suc i) e = there us i e

word_only : (gate : Gate) (value : ValueInMemory) → gives gate.kind ≡ Word → IsOf gate value → ((w : ℕ) → value ≡ code.A w → ⊥) → ⊥
word_only gate (code.A w) e is never = never w refl
word_only gate (code.B v) e is never = let other = sym e ∙ is.0 in cc
word_only gate (code.Told t) e is never = let other = sym e ∙ is.0 in cc

vector_only : (gate : Gate) (value : ValueInMemory) → gives gate.kind ≡ Vector → IsOf gate value → ((v : _) → value ≡ code.B v → ⊥) → ⊥
vector_only gate (code.A w) e is never = let other = sym e ∙ is in cc
vector_only gate (code.B v) e is never = never v refl
vector_only gate (code.Told t) e is never = let other = sym e ∙ is.0 in cc

module _ (plan : Gates) (g : ℕ) (wires : List ValueInMemory) (valid : IsPlan plan) (are : AreOperands plan g wires) where
  -- an operand of a gate whose operands are known
  record Standing (given : Given) (at : ℕ) (value : ValueInMemory) : Type 0 where
    u : Use
    it : Used plan u
    is : gives it.used.kind ≡ given
    typed : IsOf it.used value

  standing : (given : Given) (at : ℕ) (value : ValueInMemory) → taken_at (kind_at plan.gates g) at ≡ Some given →
      slice_get wires at ≡ Some value → Standing given at value
  standing given at value is found = by (slice_get plan.gates g) refl is
    where
      by : (o : Option Gate) → slice_get plan.gates g ≡ o → taken_at (option_map (λ (y : Gate). y.kind) o) at ≡ Some given → Standing given at value
      by None e f = cc
      by (Some gate) e f =
          let (u, there, same) = mapped_some (λ (v : Use). v.given) (slice_get (uses gate.kind) at) given f in
          let it = used_at plan g gate at u valid e there in
          record { u = u; it = it; is = it.gives_it ∙ sym same; typed = typed_at plan g gate wires at u value it are e there found }

  -- an operand that is taken is there
  pub inside_at : (at : ℕ) (given : Given) → taken_at (kind_at plan.gates g) at ≡ Some given → at < length (operands_of (kind_at plan.gates g))
  inside_at at given is = by (kind_at plan.gates g) is
    where
      by : (o : Option Kind) → taken_at o at ≡ Some given → at < length (operands_of o)
      by None f = cc
      by (Some kind) f =
          let (u, there, same) = mapped_some (λ (v : Use). v.given) (slice_get (uses kind) at) given f in
          inside_of (operands kind) at u.gate (mapped_at (λ (v : Use). v.gate) (uses kind) at u there)

  pub found_there : (at : ℕ) (given : Given) (d v : ValueInMemory) → taken_at (kind_at plan.gates g) at ≡ Some given →
      slice_index_or wires at d ≡ v → slice_get wires at ≡ Some v
  found_there at given d v is e =
      there_is wires at d (subst (λ n. at < n) (sym are.count) (inside_at at given is)) ∙ ap (λ (y : ValueInMemory). Some y) e

  pub word_there : (at : ℕ) (d : ValueInMemory) → taken_at (kind_at plan.gates g) at ≡ Some Word →
      ((w : ℕ) → slice_index_or wires at d ≡ code.A w → ⊥) → ⊥
  word_there at d is never =
      let s = standing Word at (slice_index_or wires at d) is (found_there at Word d (slice_index_or wires at d) is refl) in
      word_only s.it.used (slice_index_or wires at d) s.is s.typed never

  pub vector_there : (at : ℕ) (d : ValueInMemory) → taken_at (kind_at plan.gates g) at ≡ Some Vector →
      ((v : _) → slice_index_or wires at d ≡ code.B v → ⊥) → ⊥
  vector_there at d is never =
      let s = standing Vector at (slice_index_or wires at d) is (found_there at Vector d (slice_index_or wires at d) is refl) in
      vector_only s.it.used (slice_index_or wires at d) s.is s.typed never

-- ---- widths

width_of : (gates : List Gate) (x : ℕ) (gate : Gate) → slice_get gates x ≡ Some gate → width_at gates x ≡ gate.width
width_of gates x gate e = ap (λ (o : Option Gate). unwrap_or (option_map (λ (y : Gate). y.width) o) 0) e

fit_same : (kind : Kind) (w : ℕ) (ws : List ℕ) → keeps_width (Some kind) ≡ true → FitWidths kind w ws → AllByRecursion (λ v. v ≡ w) ws
fit_same (SliceB x at) w ws e fit = cc
fit_same (JoinB x y) w ws e fit = cc
fit_same (SliceMask u at) w ws e fit = cc
fit_same (JoinMask u v) w ws e fit = cc
fit_same (SliceOnline u at) w ws e fit = cc
fit_same (JoinOnline u v) w ws e fit = cc
fit_same (BToA x) w ws e fit = cc
fit_same _ w ws e fit = fit

-- an operand of a gate that keeps its width is as wide
pub same_width : (plan : Gates) (g : ℕ) (kind : Kind) (i x : ℕ) → IsPlan plan → kind_at plan.gates g ≡ Some kind →
    keeps_width (Some kind) ≡ true → slice_get (operands kind) i ≡ Some x → width_at plan.gates x ≡ width_at plan.gates g
same_width plan g kind i x valid is keeps at =
    let (gate, here, of) = gate_there plan.gates g kind is in
    let found : slice_get (operands gate.kind) i ≡ Some x = ap (λ k. slice_get (operands k) i) of ∙ at in
    let all = fit_same gate.kind gate.width (map (width_at plan.gates) (operands gate.kind)) (ap (λ k. keeps_width (Some k)) of ∙ keeps) (valid.each g gate here).fit in
    all_at (λ v. v ≡ gate.width) (map (width_at plan.gates) (operands gate.kind)) i (width_at plan.gates x) all
    (mapped_at (width_at plan.gates) (operands gate.kind) i x found)
    ∙ sym (width_of plan.gates g gate here)

module _ (plan : Gates) (g : ℕ) (wires : List ValueInMemory) (valid : IsPlan plan) (are : AreOperands plan g wires) where
  -- an operand that is a vector has its gate's width
  pub vector_width : (at x : ℕ) (v : Bits) → slice_get wires at ≡ Some (code.B v) →
      slice_get (operands_of (kind_at plan.gates g)) at ≡ Some x → v.width ≡ width_at plan.gates x
  vector_width at x v found operand = by (slice_get plan.gates g) refl operand
    where
      by : (o : Option Gate) → slice_get plan.gates g ≡ o → slice_get (operands_of (option_map (λ (y : Gate). y.kind) o)) at ≡ Some x →
          v.width ≡ width_at plan.gates x
      by None e f = cc
      by (Some gate) e f =
          let (u, there, same) = use_there gate.kind at x f in
          let it = used_at plan g gate at u valid e there in
          let typed = typed_at plan g gate wires at u (code.B v) it are e there found in
          typed.1 ∙ sym (ap (width_at plan.gates) (sym same) ∙ width_of plan.gates u.gate it.used it.there)

  pub vector_same : (at : ℕ) (v : Bits) → slice_get wires at ≡ Some (code.B v) → keeps_width (kind_at plan.gates g) ≡ true →
      at < length (operands_of (kind_at plan.gates g)) → v.width ≡ width_at plan.gates g
  vector_same at v found keeps inside = by (kind_at plan.gates g) refl keeps inside
    where
      by : (o : Option Kind) → kind_at plan.gates g ≡ o → keeps_width o ≡ true → at < length (operands_of o) → v.width ≡ width_at plan.gates g
      by None e f h = absurd (omega (arith, h))
      by (Some kind) e f h =
          let x = get_or (operands kind) at 0 in
          let there = there_is (operands kind) at 0 h in
          vector_width at x v found (ap (λ o. slice_get (operands_of o) at) e ∙ there) ∙ same_width plan g kind at x valid e f there

-- ---- records

-- the bit triples of an AND
pub record HasBits (plan : Gates) (own : OwnInMemory) (part : Part) (g : ℕ) : Type 0 where
  pub some : 1 ≤ width_at plan.gates g
  pub most : width_at plan.gates g ≤ most_width
  pub there : (own.bases.bit + (offset plan g).bit) + width_at plan.gates g ≤ length part.bits

pub has_bits : (plan : Gates) (own : OwnInMemory) (part : Part) (g : ℕ) → IsPlan plan → Serves plan own part g →
    is_conjunction (kind_at plan.gates g) ≡ true → HasBits plan own part g
has_bits plan own part g valid serves is = by (slice_get plan.gates g) refl is
  where
    by : (o : Option Gate) → slice_get plan.gates g ≡ o → is_conjunction (option_map (λ (y : Gate). y.kind) o) ≡ true → HasBits plan own part g
    by None e f = cc
    by (Some gate) e f =
        let w = width_of plan.gates g gate e in
        let valid_gate = valid.each g gate e in
        let some = valid_gate.some_width in
        let most = valid_gate.in_width in
        let needed : (needs_at plan g).bit ≡ gate.width = ap (λ o. (needs_there plan o).bit) e ∙ of_and gate.kind (sizes_of plan gate) f in
        let enough = serves.records Bit (subst (λ n. 0 < n) (sym needed) (omega (arith, some))) in
        record {
          some = subst (λ n. 1 ≤ n) (sym w) some;
          most = subst (λ n. n ≤ most_width) (sym w) most;
          there = let whole = enough in omega (arith, whole, needed, w);
        }
      where
        of_and : (kind : Kind) (sizes : Sizes) → is_conjunction (Some kind) ≡ true → (needs_of kind sizes).bit ≡ sizes.width
        of_and (AndB x y) sizes e = refl
        of_and _ sizes e = cc

pub its_width : (gates : List Gate) (g w : ℕ) → option_map (λ (y : Gate). y.width) (slice_get gates g) ≡ Some w → width_at gates g ≡ w
its_width gates g w e = ap (λ o. unwrap_or o 0) e

-- ---- widths of operands

pub fits_at : (plan : Gates) (g : ℕ) (kind : Kind) → IsPlan plan → kind_at plan.gates g ≡ Some kind →
    FitWidths kind (width_at plan.gates g) (map (width_at plan.gates) (operands kind))
fits_at plan g kind valid is =
    let (gate, here, of) = gate_there plan.gates g kind is in
    subst (λ k. FitWidths k (width_at plan.gates g) (map (width_at plan.gates) (operands k))) of
    (subst (λ w. FitWidths gate.kind w (map (width_at plan.gates) (operands gate.kind))) (sym (width_of plan.gates g gate here))
    (valid.each g gate here).fit)

-- a gate has some width, and at most the most
pub wide_at : (plan : Gates) (g : ℕ) (kind : Kind) → IsPlan plan → kind_at plan.gates g ≡ Some kind →
    (1 ≤ width_at plan.gates g) × (width_at plan.gates g ≤ most_width)
wide_at plan g kind valid is =
    let (gate, here, of) = gate_there plan.gates g kind is in
    let w = width_of plan.gates g gate here in
    (subst (λ n. 1 ≤ n) (sym w) (valid.each g gate here).some_width, subst (λ n. n ≤ most_width) (sym w) (valid.each g gate here).in_width)

-- what takes words has their width
pub word_width : (plan : Gates) (g : ℕ) (kind : Kind) (u : Use) → IsPlan plan → kind_at plan.gates g ≡ Some kind →
    slice_get (uses kind) 0 ≡ Some u → u.given ≡ Word → keeps_width (Some kind) ≡ true → width_at plan.gates g ≡ most_width
word_width plan g kind u valid is at word keeps =
    let (gate, here, of) = gate_there plan.gates g kind is in
    let it = used_at plan g gate 0 u valid here (ap (λ k. slice_get (uses k) 0) of ∙ at) in
    sym (same_width plan g kind 0 u.gate valid is keeps (mapped_at (λ (v : Use). v.gate) (uses kind) 0 u at))
    ∙ (width_of plan.gates u.gate it.used it.there ∙ (valid.each u.gate it.used it.there).word (it.gives_it ∙ word))

-- ---- kinds that are asked for by a test

pub product_is : (o : Option Kind) → is_product o ≡ true → (kind : Kind) × (o ≡ Some kind) × (words_heard (Some kind) ≡ 2)
product_is None e = cc
product_is (Some (MulA x y)) e = (MulA x y, refl, refl)
product_is (Some _) e = cc

pub conjunction_is : (o : Option Kind) → is_conjunction o ≡ true → (kind : Kind) × (o ≡ Some kind) × (vectors_heard (Some kind) ≡ 2) × (keeps_width o ≡ true)
conjunction_is None e = cc
conjunction_is (Some (AndB x y)) e = (AndB x y, refl, refl, refl)
conjunction_is (Some _) e = cc

-- each gate of a plan has some width, and at most the most
pub wide_in : (plan : Gates) (g : ℕ) → IsPlan plan → g < length plan.gates →
    (1 ≤ width_at plan.gates g) × (width_at plan.gates g ≤ most_width)
wide_in plan g valid inside = by (slice_get plan.gates g) refl
  where
    by : (o : Option Gate) → slice_get plan.gates g ≡ o → (1 ≤ width_at plan.gates g) × (width_at plan.gates g ≤ most_width)
    by None e = let past = none_past plan.gates g e in absurd (omega (arith, past, inside))
      where
        none_past : (xs : List Gate) (k : ℕ) → slice_get xs k ≡ None → length xs ≤ k
        none_past [] k e = omega arith
        none_past (x ∷ xs) zero e = cc
        none_past (x ∷ xs) (suc k) e = let rest = none_past xs k e in omega (arith, rest)
    by (Some gate) e = wide_at plan g gate.kind valid (ap (option_map (λ (y : Gate). y.kind)) e)

-- what gives a word has its width
pub word_given : (plan : Gates) (g : ℕ) (kind : Kind) → IsPlan plan → kind_at plan.gates g ≡ Some kind → gives kind ≡ Word →
    width_at plan.gates g ≡ most_width
word_given plan g kind valid is word =
    let (gate, here, of) = gate_there plan.gates g kind is in
    width_of plan.gates g gate here ∙ (valid.each g gate here).word (ap gives of ∙ word)

-- the own input of a gate has its bits
pub input_there : (plan : Gates) (own : OwnInMemory) (part : Part) (g : ℕ) (kind : Kind) (t : Taken) → Serves plan own part g →
    kind_at plan.gates g ≡ Some kind → taken_by kind ≡ Some t → t.party ≡ own.me.0 →
    taken_from kind + width_at plan.gates g ≤ length (get_or own.inputs t.k [])
input_there plan own part g kind t serves is takes_it mine =
    let (gate, here, of) = gate_there plan.gates g kind is in
    subst (λ w. taken_from kind + w ≤ length (get_or own.inputs t.k [])) (sym (width_of plan.gates g gate here))
    (subst (λ k. taken_from k + gate.width ≤ length (get_or own.inputs t.k [])) of
    (serves.input gate here t (ap taken_by of ∙ takes_it) mine))

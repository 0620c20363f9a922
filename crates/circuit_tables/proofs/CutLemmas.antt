-- Bits that are cut into outputs, one after another.
use Rattle.std.proofs.Common.{ℕ, ◌≡◌, ◌<◌, ◌≤◌, ◌+◌, ◌*◌, ◌^◌, Bool, true, false, List, [], ◌∷◌, ◌++◌, length, take, drop, Option, Some, None, zero, suc, refl, sym, ◌∙◌, ap, ap₂, subst, arith, append_assoc}
use Rattle.std.specs.Prelude.{slice_get, IfSome, flat_map}
use Rattle.std.specs.List.{sum_by}
use Rattle.std.proofs.lemmas.List.Sums.{sum_by-cons}
use Rattle.std.proofs.lemmas.List.{length-append, take-append-drop, length-take-le, length-drop, drop-drop, drop_all, append-nil}
use Rattle.std.proofs.Math.Seq.{take-append_seam, drop-append_seam}
use Rattle.mot_base.specs.declared.Party.{Party}
use Rattle.share_types.specs.declared.bits.Bits.{Bits}
use Rattle.share_types.specs.Bits as vector
use Rattle.share_types.proofs.BitsLemmas.{length-bits}
use Rattle.circuit_tables.specs.Table.{Output, Told, is_asked, asked, joined_bits, total_width, AreCut}
use Rattle.circuit_tables.specs.Cut.{told_first, told_next, width_next}
use Rattle.mot_base.proofs.Lists.{cons_same as head_is}

-- outputs with the bits that each gets, one after another
abbrev pub cut_of : List Output → List Bool → List Told
cut_of [] bits = []
cut_of (o ∷ outputs) bits = told_first o bits ∷ cut_of outputs (drop o.width bits)

-- ---- this is a cut

pub cut_is_cut : (outputs : List Output) (bits : List Bool) → total_width outputs ≡ length bits → AreCut outputs bits (cut_of outputs bits)
cut_is_cut [] [] h = record { names = refl; receivers = refl; widths = refl; joined = refl }
cut_is_cut [] (bit ∷ bits) h = absurd (omega (arith, h))
cut_is_cut (o ∷ outputs) bits h =
    let count = length-drop o.width bits in
    let rest = cut_is_cut outputs (drop o.width bits) (omega (arith, h, count)) in
    record {
      names = ap (λ (names : List (List ℕ)). o.name ∷ names) rest.names;
      receivers = ap (λ receivers. o.to ∷ receivers) rest.receivers;
      widths = ap₂ (λ (n : ℕ) (ns : List ℕ). n ∷ ns) (length-take-le o.width bits (omega (arith, h))) rest.widths;
      joined = ap (λ (more : List Bool). take o.width bits ++ more) rest.joined ∙ take-append-drop o.width bits;
    }

-- ---- and the only one

same_told : (t : Told) (o : Output) (bits : List Bool) → t.name ≡ o.name → t.to ≡ o.to → t.bits ≡ bits → t ≡ record { name = o.name; to = o.to; bits = bits }
same_told t o bits name to is = ap (λ n. record { name = n; to = t.to; bits = t.bits }) name ∙ ap (λ r. record { name = o.name; to = r; bits = t.bits }) to ∙ ap (λ (b : List Bool). record { name = o.name; to = o.to; bits = b }) is

pub cut_is : (outputs : List Output) (bits : List Bool) (cut : List Told) → AreCut outputs bits cut → cut ≡ cut_of outputs bits
cut_is [] bits [] are = refl
cut_is [] bits (t ∷ cut) are = let e = are.names in cc
cut_is (o ∷ outputs) bits [] are = let e = are.names in cc
cut_is (o ∷ outputs) bits (t ∷ cut) are =
    let names = head_is _ _ _ _ are.names in
    let receivers = head_is _ _ _ _ are.receivers in
    let widths = head_is _ _ _ _ are.widths in
    let behind = flat_map (λ (u : Told). u.bits) cut in
    let first : take o.width bits ≡ t.bits = ap₂ (λ (n : ℕ) (b : List Bool). take n b) (sym widths.0) (sym are.joined) ∙ take-append_seam t.bits behind in
    let left : drop o.width bits ≡ behind = ap₂ (λ (n : ℕ) (b : List Bool). drop n b) (sym widths.0) (sym are.joined) ∙ drop-append_seam t.bits behind in
    let rest = cut_is outputs (drop o.width bits) cut (record { names = names.1; receivers = receivers.1; widths = widths.1; joined = sym left }) in
    ap₂ (λ (x : Told) (xs : List Told). x ∷ xs) (same_told t o (take o.width bits) names.0 receivers.0 (sym first)) rest

pub cuts_once : (outputs : List Output) (bits : List Bool) (cut other : List Told) → AreCut outputs bits cut → AreCut outputs bits other → cut ≡ other
cuts_once outputs bits cut other here there = cut_is outputs bits cut here ∙ sym (cut_is outputs bits other there)

-- ---- the loop over the table

pub length-joined : (vectors : List Bits) → length (joined_bits vectors) ≡ sum_by (λ v. v.width) vectors
length-joined [] = refl
length-joined (v ∷ vectors) = length-append (vector.bits v.width v.word) (joined_bits vectors) ∙ ap₂ (λ (n m : ℕ). n + m) (length-bits v.width v.word) (length-joined vectors) ∙ sym (sum_by-cons (λ (u : Bits). u.width) v vectors)

-- the outputs before a place are cut, and what is left of the table is to get what is left of the bits
pub record IsCutTo (party : Option Party) (table : List Output) (bits : List Bool) (cut : List Told) (taken at : ℕ) : Type 0 where
  pub few : length cut ≤ at
  pub within : at ≤ length table
  pub left : taken + total_width (asked party (drop at table)) ≡ length bits
  pub behind : cut ++ cut_of (asked party (drop at table)) (drop taken bits) ≡ cut_of (asked party table) bits

pub whole_width : (party : Option Party) (table : List Output) (vectors : List Bits) (bits : List Bool) → total_width (asked party table) ≡ sum_by (λ v. v.width) vectors → bits ≡ joined_bits vectors → total_width (asked party table) ≡ length bits
whole_width party table vectors bits h is = h ∙ sym (ap length is ∙ length-joined vectors)

pub none_cut : (party : Option Party) (table : List Output) (bits : List Bool) → total_width (asked party table) ≡ length bits → (none : List Told) → none ≡ [] → IsCutTo party table bits none 0 0
none_cut party table bits h none is = subst (λ cut. IsCutTo party table bits cut 0 0) (sym is) (record { few = omega arith; within = omega arith; left = omega (arith, h); behind = refl })

drop_at : (table : List Output) (at : ℕ) (o : Output) → slice_get table at ≡ Some o → drop at table ≡ o ∷ drop (suc at) table
drop_at [] at o h = cc
drop_at (x ∷ table) zero o h = let same : x ≡ o = cc in ap (λ y. y ∷ table) same
drop_at (x ∷ table) (suc at) o h = drop_at table at o h

-- one output more
step : (party : Option Party) (o : Output) (rest : List Output) (left : List Bool) (asks : Bool) → is_asked party o ≡ asks →
    cut_of (asked party (o ∷ rest)) left ≡ told_next party o left ++ cut_of (asked party rest) (drop (width_next party o) left)
step party o rest left true e = rw e refl
step party o rest left false e = rw e refl

width_step : (party : Option Party) (o : Output) (rest : List Output) (asks : Bool) → is_asked party o ≡ asks → total_width (asked party (o ∷ rest)) ≡ width_next party o + total_width (asked party rest)
width_step party o rest true e = rw e refl
width_step party o rest false e = rw e (omega arith)

is_some : (o : Option Output) → (at : ℕ) (table : List Output) → slice_get table at ≡ o → at < length table → (x : Output) × (o ≡ Some x)
is_some (Some x) at table e h = (x, refl)
is_some None zero [] e h = absurd (omega (arith, h))
is_some None (suc at) [] e h = absurd (omega (arith, h))
is_some None zero (x ∷ table) e h = cc
is_some None (suc at) (x ∷ table) e h = is_some None at table e (omega (arith, h))

suc_is : (at : ℕ) → suc at ≡ at + 1
suc_is at = omega arith

if_there : (o : Option Output) (x : Output) (P : Output → Type 0) → o ≡ Some x → IfSome o P → P x
if_there o x P e h = subst (λ (p : Option Output). IfSome p P) e h

from_there : (o : Option Output) (x : Output) (P : Output → Type 0) → o ≡ Some x → P x → IfSome o P
from_there o x P e h = subst (λ (p : Option Output). IfSome p P) (sym e) h

-- the next output finds as many bits as it takes
pub enough : (party : Option Party) (table : List Output) (bits : List Bool) (cut : List Told) (taken at : ℕ) → IsCutTo party table bits cut taken at → at < length table →
    IfSome (slice_get table at) (λ o. width_next party o ≤ length (drop taken bits))
enough party table bits cut taken at to within =
    let there = is_some (slice_get table at) at table refl within in
    let o = there.0 in
    let left = to.left in
    let behind = drop_at table at o there.1 in
    let more = ap (λ (rest : List Output). total_width (asked party rest)) behind ∙ width_step party o (drop (suc at) table) (is_asked party o) refl in
    let count = length-drop taken bits in
    from_there (slice_get table at) o _ there.1 (omega (arith, left, more, count))

-- and the loop goes on behind it
pub one_more_cut : (party : Option Party) (table : List Output) (bits : List Bool) (cut after : List Told) (taken took at : ℕ) → IsCutTo party table bits cut taken at → at < length table →
    IfSome (slice_get table at) (λ o. after ≡ cut ++ told_next party o (drop taken bits)) → length after ≤ length cut + 1 → IfSome (slice_get table at) (λ o. took ≡ width_next party o) →
    IsCutTo party table bits after (taken + took) (at + 1)
one_more_cut party table bits cut after taken took at to within added one takes =
    let there = is_some (slice_get table at) at table refl within in
    let o = there.0 in
    let few = to.few in
    let left = to.left in
    let rest = drop (at + 1) table in
    let split : drop at table ≡ o ∷ rest = drop_at table at o there.1 ∙ ap (λ n. o ∷ drop n table) (suc_is at) in
    let more = ap (λ (rest : List Output). total_width (asked party rest)) split ∙ width_step party o rest (is_asked party o) refl in
    let took_is = if_there (slice_get table at) o _ there.1 takes in
    let after_is = if_there (slice_get table at) o _ there.1 added in
    record {
      few = omega (arith, few, one);
      within = omega (arith, within);
      left = omega (arith, left, more, took_is);
      behind =
          ap₂ (λ (told : List Told) (n : ℕ). told ++ cut_of (asked party rest) (drop n bits)) after_is (ap (λ n. taken + n) took_is)
          ∙ append_assoc cut (told_next party o (drop taken bits)) _
          ∙ ap (λ (b : List Bool). cut ++ (told_next party o (drop taken bits) ++ cut_of (asked party rest) b)) (sym (drop-drop (width_next party o) taken bits))
          ∙ ap (λ (told : List Told). cut ++ told) (sym (step party o rest (drop taken bits) (is_asked party o) refl))
          ∙ ap (λ (outputs : List Output). cut ++ cut_of (asked party outputs) (drop taken bits)) (sym split)
          ∙ to.behind;
    }

-- until the table is at its end
pub all_cut : (party : Option Party) (table : List Output) (bits : List Bool) (cut : List Told) (taken at : ℕ) → total_width (asked party table) ≡ length bits → IsCutTo party table bits cut taken at → length table ≤ at → AreCut (asked party table) bits cut
all_cut party table bits cut taken at whole to past =
    let end : drop at table ≡ [] = drop_all at table past in
    let same : cut ≡ cut_of (asked party table) bits = sym (append-nil cut) ∙ sym (ap (λ (outputs : List Output). cut ++ cut_of (asked party outputs) (drop taken bits)) end) ∙ to.behind in
    subst (λ told. AreCut (asked party table) bits told) (sym same) (cut_is_cut (asked party table) bits whole)

-- ---- how many bits are asked for

-- the widths of the outputs before a place are summed up
pub record IsSummedTo (party : Option Party) (table : List Output) (sum at : ℕ) : Type 0 where
  pub few : sum ≤ at * 2 ^ 32
  pub within : at ≤ length table
  pub left : sum + total_width (asked party (drop at table)) ≡ total_width (asked party table)

pub none_summed : (party : Option Party) (table : List Output) → IsSummedTo party table 0 0
none_summed party table = record { few = omega arith; within = omega arith; left = omega arith }

pub one_more_summed : (party : Option Party) (table : List Output) (sum width at : ℕ) → IsSummedTo party table sum at → at < length table →
    IfSome (slice_get table at) (λ o. width ≡ width_next party o) → width < 2 ^ 32 → IsSummedTo party table (sum + width) (at + 1)
one_more_summed party table sum width at to within is small =
    let there = is_some (slice_get table at) at table refl within in
    let o = there.0 in
    let rest = drop (at + 1) table in
    let split : drop at table ≡ o ∷ rest = drop_at table at o there.1 ∙ ap (λ n. o ∷ drop n table) (suc_is at) in
    let more = ap (λ (rest : List Output). total_width (asked party rest)) split ∙ width_step party o rest (is_asked party o) refl in
    let width_is = if_there (slice_get table at) o _ there.1 is in
    let few = to.few in
    let left = to.left in
    record { few = omega (arith, few, small); within = omega (arith, within); left = omega (arith, left, more, width_is) }

pub all_summed : (party : Option Party) (table : List Output) (sum at : ℕ) → IsSummedTo party table sum at → length table ≤ at → sum ≡ total_width (asked party table)
all_summed party table sum at to past =
    let left = to.left in
    let none = ap (λ (outputs : List Output). total_width (asked party outputs)) (drop_all at table past) in
    omega (arith, left, none)

-- A circuit to which a gate is added.
use Rattle.std.proofs.Common.{ℕ, ◌≡◌, ◌<◌, ◌≤◌, ◌^◌, Bool, true, false, nat_lt, List, [], ◌∷◌, ◌++◌, length, take, drop, Ok, Err, refl, sym, ◌∙◌, ap, subst, cond, arith}
use Rattle.std.specs.List.{list_all}
use Rattle.std.proofs.lemmas.Bool.{and_parts, and_from, lt-ltb, ltb-true}
use Rattle.std.proofs.lemmas.List.{take_at}
use Rattle.mot_base.specs.Limits.{most_wires}
use Rattle.bristol_reader.specs.declared.cause.BristolCause.TheVariants.{SetTwice}
use Rattle.bristol_reader.specs.Kinds.{is_arity, is_constant}
use Rattle.bristol_reader.specs.Circuit.{Gate, Circuit, Progress, more_gates}
use Rattle.bristol_reader.specs.Line.{input_bound, is_in_range, are_ins_set, are_outs_new, added}
use Rattle.bristol_reader.specs.Marks.{are_new_to, IsMarked}
use Rattle.bristol_reader.specs.Built.{FitsBehind, IsKept}
use Rattle.bristol_reader.proofs.BuiltLemmas.{parts, kept_more, same_new}

abbrev pub progress : ℕ → Circuit → Progress
progress stated c = record { stated = stated; circuit = c }

below_more : (low high : ℕ) (ws : List ℕ) → low ≤ high → list_all (λ w. nat_lt w low) ws ≡ true → list_all (λ w. nat_lt w high) ws ≡ true
below_more low high [] h e = refl
below_more low high (w ∷ ws) h e =
    let tests = and_parts (nat_lt w low) _ e in
    let below = ltb-true w low tests.0 in
    and_from _ _ (lt-ltb w high (omega arith)) (below_more low high ws h tests.1)

few_inputs : (b : Bool) (wires : ℕ) → wires ≤ most_wires → cond b 2 wires ≤ 2 ^ 32
few_inputs true wires h = omega arith
few_inputs false wires h = omega arith

-- the wires of a gate in range fit 32 bits
pub ins_fit : (stated : ℕ) (c : Circuit) (told : List Bool) (p : Progress) (g : Gate) → progress stated c ≡ p → IsKept stated c told → is_in_range p.circuit.wires g ≡ true → list_all (λ w. nat_lt w (2 ^ 32)) g.ins ≡ true
ins_fit stated c told p g is kept range =
    let few = kept.built.few_wires in
    let wires : c.wires ≡ p.circuit.wires = ap (λ (q : Progress). q.circuit.wires) is in
    below_more (input_bound g.kind p.circuit.wires) (2 ^ 32) g.ins (few_inputs (is_constant g.kind) p.circuit.wires (omega arith)) (and_parts _ _ range).0

pub outs_fit : (stated : ℕ) (c : Circuit) (told : List Bool) (p : Progress) (g : Gate) → progress stated c ≡ p → IsKept stated c told → is_in_range p.circuit.wires g ≡ true → list_all (λ w. nat_lt w (2 ^ 32)) g.outs ≡ true
outs_fit stated c told p g is kept range =
    let few = kept.built.few_wires in
    let wires : c.wires ≡ p.circuit.wires = ap (λ (q : Progress). q.circuit.wires) is in
    below_more p.circuit.wires (2 ^ 32) g.outs (omega arith) (and_parts (list_all (λ x. nat_lt x (input_bound g.kind p.circuit.wires)) g.ins) _ range).1

pub outs_in_range : (wires : ℕ) (g : Gate) → is_in_range wires g ≡ true → list_all (λ w. nat_lt w wires) g.outs ≡ true
outs_in_range wires g range = (and_parts (list_all (λ x. nat_lt x (input_bound g.kind wires)) g.ins) _ range).1

pub range_here : (stated : ℕ) (c : Circuit) (p : Progress) (g : Gate) → progress stated c ≡ p → is_in_range p.circuit.wires g ≡ true → is_in_range c.wires g ≡ true
range_here stated c p g is range = ap (λ (q : Progress). is_in_range q.circuit.wires g) is ∙ range

-- the marks tell whether the outputs are new
pub told_new : (stated : ℕ) (c : Circuit) (told marks : List Bool) (p : Progress) (g : Gate) (b : Bool) → progress stated c ≡ p → IsKept stated c told → is_in_range p.circuit.wires g ≡ true → marks ≡ told → b ≡ are_new_to marks g.outs → are_outs_new p.circuit g.outs ≡ b
told_new stated c told marks p g b is kept range same answer =
    ap (λ (q : Progress). are_outs_new q.circuit g.outs) (sym is)
    ∙ sym (same_new stated c told g.outs kept (outs_in_range c.wires g (range_here stated c p g is range)))
    ∙ ap (λ (m : List Bool). are_new_to m g.outs) (sym same)
    ∙ sym answer

pub added_twice : (p : Progress) (g : Gate) → are_outs_new p.circuit g.outs ≡ false → added p g ≡ Err SetTwice
unfolding added
added_twice p g h = rw h refl

pub added_once : (p : Progress) (g : Gate) → are_outs_new p.circuit g.outs ≡ true → added p g ≡ Ok (more_gates p g)
unfolding added
added_once p g h = rw h refl

pub added_here : (stated : ℕ) (wires : ℕ) (inputs outputs : List ℕ) (before after : List Gate) (p : Progress) (g : Gate) → progress stated (parts wires inputs outputs before) ≡ p → after ≡ before ++ g ∷ [] → are_outs_new p.circuit g.outs ≡ true → added p g ≡ Ok (progress stated (parts wires inputs outputs after))
added_here stated wires inputs outputs before after p g is pushed new =
    added_once p g new
    ∙ ap (λ (q : Progress). Ok (more_gates q g)) (sym is)
    ∙ ap (λ (gs : List Gate). Ok (progress stated (parts wires inputs outputs gs))) (sym pushed)

fits_here : (stated : ℕ) (c : Circuit) (p : Progress) (g : Gate) → progress stated c ≡ p → is_arity g.kind (length g.ins) (length g.outs) ≡ true → is_in_range p.circuit.wires g ≡ true → are_ins_set p.circuit g ≡ true → are_outs_new p.circuit g.outs ≡ true → FitsBehind c g
fits_here stated c p g is arity range used once = record {
  arity = arity;
  range = range_here stated c p g is range;
  used = ap (λ (q : Progress). are_ins_set q.circuit g) is ∙ used;
  once = ap (λ (q : Progress). are_outs_new q.circuit g.outs) is ∙ once;
}

pub kept_here : (stated : ℕ) (wires : ℕ) (inputs outputs : List ℕ) (before after : List Gate) (told marks marked : List Bool) (n : ℕ) (p : Progress) (g : Gate) → progress stated (parts wires inputs outputs before) ≡ p → IsKept stated (parts wires inputs outputs before) told → length p.circuit.gates < p.stated → is_arity g.kind (length g.ins) (length g.outs) ≡ true → is_in_range p.circuit.wires g ≡ true → are_ins_set p.circuit g ≡ true → are_outs_new p.circuit g.outs ≡ true → after ≡ before ++ g ∷ [] → marks ≡ told → n ≡ length told → IsMarked marks g.outs marked → IsKept stated (parts wires inputs outputs after) (take n (marked ++ drop (length marked) told))
kept_here stated wires inputs outputs before after told marks marked n p g is kept room arity range used once pushed same len marking =
    let k = parts wires inputs outputs before in
    let fits = fits_here stated k p g is arity range used once in
    let own = subst (λ (m : List Bool). IsMarked m g.outs marked) same marking in
    let stated_is : stated ≡ p.stated = ap (λ (q : Progress). q.stated) is in
    let count : length before ≡ length p.circuit.gates = ap (λ (q : Progress). length q.circuit.gates) is in
    let whole : take n (marked ++ drop (length marked) told) ≡ marked = take_at marked (drop (length marked) told) n (own.count ∙ sym len) in
    let P : List Gate → Type 0 = λ gs. IsKept stated (parts wires inputs outputs gs) marked in
    subst (λ (m : List Bool). IsKept stated (parts wires inputs outputs after) m) (sym whole)
    (subst P (sym pushed) (kept_more stated k g told marked kept (omega arith) fits own))

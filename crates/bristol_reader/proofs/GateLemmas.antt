-- Gates whose wires stand in one row.
use Rattle.std.proofs.Common.{ℕ, ◌≡◌, ◌≤◌, ◌+◌, List, [], ◌∷◌, ◌++◌, length, take, drop, map, suc, refl, ◌∙◌, ap, arith, append_assoc}
use Rattle.std.proofs.lemmas.List.{take-append-le, drop-append-le, length-drop, length-append, map_push, take_at, drop_at, take_all}
use Rattle.bristol_reader.specs.declared.kind.BristolKind.{BristolKind}
use Rattle.bristol_reader.specs.declared.gates.Placed.{Placed}
use Rattle.bristol_reader.specs.Circuit.{Gate}
use Rattle.bristol_reader.specs.Stored.{a_gate, placed_gate, ArePlaced}

part_kept : (row more : List ℕ) (at n : ℕ) → at + n ≤ length row → take n (drop at (row ++ more)) ≡ take n (drop at row)
part_kept row more at n h =
    ap (take n) (drop-append-le at row more (omega arith))
    ∙ take-append-le n (drop at row) more (let count = length-drop at row in omega arith)

gate_kept : (row more : List ℕ) (p : Placed) → p.at + p.ins + p.outs ≤ length row → placed_gate (row ++ more) p ≡ placed_gate row p
gate_kept row more p h =
    ap (λ (xs : List ℕ). a_gate p.kind xs (take p.outs (drop (p.at + p.ins) (row ++ more)))) (part_kept row more p.at p.ins (omega arith))
    ∙ ap (λ (xs : List ℕ). a_gate p.kind (take p.ins (drop p.at row)) xs) (part_kept row more (p.at + p.ins) p.outs h)

-- gates stay as they are where more wires follow
pub gates_kept : (row more : List ℕ) (gates : List Placed) → ArePlaced gates (length row) → map (placed_gate (row ++ more)) gates ≡ map (placed_gate row) gates
gates_kept row more [] placed = refl
gates_kept row more (p ∷ gates) placed =
    ap (λ (g : Gate). g ∷ map (placed_gate (row ++ more)) gates) (gate_kept row more p (placed.each 0 p refl))
    ∙ ap (λ (gs : List Gate). placed_gate row p ∷ gs) (gates_kept row more gates (record { each = λ k q h. placed.each (suc k) q h }))

last_gate : (row ins outs : List ℕ) (kind : BristolKind) → placed_gate ((row ++ ins) ++ outs) (record { kind = kind; at = length row; ins = length ins; outs = length outs }) ≡ a_gate kind ins outs
last_gate row ins outs kind =
    let first : take (length ins) (drop (length row) ((row ++ ins) ++ outs)) ≡ ins =
    ap (λ (xs : List ℕ). take (length ins) (drop (length row) xs)) (append_assoc row ins outs)
    ∙ ap (take (length ins)) (drop_at row (ins ++ outs) (length row) refl)
    ∙ take_at ins outs (length ins) refl in
    let second : take (length outs) (drop (length row + length ins) ((row ++ ins) ++ outs)) ≡ outs =
    ap (take (length outs)) (drop_at (row ++ ins) outs (length row + length ins) (length-append row ins))
    ∙ take_all (length outs) outs (omega arith) in
    ap (λ (xs : List ℕ). a_gate kind xs (take (length outs) (drop (length row + length ins) ((row ++ ins) ++ outs)))) first
    ∙ ap (λ (xs : List ℕ). a_gate kind ins xs) second

-- the gates with one more, whose wires were put at the end of the row
pub gates_more : (row with_ins whole ins outs : List ℕ) (at : ℕ) (kind : BristolKind) (before after : List Placed) (gates : List Gate) → map (placed_gate row) before ≡ gates → ArePlaced before (length row) → at ≡ length row → with_ins ≡ row ++ ins → whole ≡ with_ins ++ outs → after ≡ before ++ record { kind = kind; at = at; ins = length ins; outs = length outs } ∷ [] → map (placed_gate whole) after ≡ gates ++ a_gate kind ins outs ∷ []
gates_more row with_ins whole ins outs at kind before after gates is placed start first second pushed =
    let all : whole ≡ (row ++ ins) ++ outs = second ∙ ap (λ (xs : List ℕ). xs ++ outs) first in
    let one = λ (n : ℕ). before ++ record { kind = kind; at = n; ins = length ins; outs = length outs } ∷ [] in
    let p : Placed = record { kind = kind; at = length row; ins = length ins; outs = length outs } in
    ap (λ (ps : List Placed). map (placed_gate whole) ps) (pushed ∙ ap one start)
    ∙ ap (λ (xs : List ℕ). map (placed_gate xs) (one (length row))) all
    ∙ map_push (placed_gate ((row ++ ins) ++ outs)) before p
    ∙ ap (λ (g : Gate). map (placed_gate ((row ++ ins) ++ outs)) before ++ g ∷ []) (last_gate row ins outs kind)
    ∙ ap (λ (gs : List Gate). gs ++ a_gate kind ins outs ∷ [])
    (ap (λ (xs : List ℕ). map (placed_gate xs) before) (append_assoc row ins outs) ∙ gates_kept row (ins ++ outs) before placed ∙ is)

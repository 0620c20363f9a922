-- Lines that are no header line.
use Rattle.std.proofs.Common.{◌≡◌, ◌<◌, ◌≤◌, List, [], ◌∷◌, length, map, None, refl, arith, Bor}
use Rattle.mixed_circuit.specs.Grammar.{parties_of}
use Rattle.text_lines.specs.Text.{Text}

pub too_few : (ws : List (Bor Text)) → length ws < 2 → None ≡ parties_of (map (λ w. w.now) ws)
too_few [] h = refl
too_few (v ∷ []) h = refl
too_few (v ∷ w ∷ ws) h = absurd (omega arith)

pub too_many : (ws : List (Bor Text)) → 3 ≤ length ws → None ≡ parties_of (map (λ w. w.now) ws)
too_many [] h = refl
too_many (v ∷ []) h = refl
too_many (v ∷ w ∷ []) h = absurd (omega arith)
too_many (v ∷ w ∷ u ∷ ws) h = refl

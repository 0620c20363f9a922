-- What is found under a name, in a map and in the list that stands for it.
use Rattle.std.proofs.Common.{ℕ, ◌≡◌, List, [], ◌∷◌, Some, refl, sym, ◌∙◌, ap, cond, map, Bor}
use Rattle.std.specs.HashMap.{HashMap, get_by, UpdatesBy}
use Rattle.std.specs.Map.{lookup}
use Rattle.std.specs.Str.{bytes_eq}
use Rattle.std.proofs.lemmas.Map.Text.{hash_map_updates_str}
use Rattle.mixed_circuit.specs.Names.{place_in, entries_of}
use Rattle.text_lines.specs.Text.{Text}

entries_found : (name : Text) (es : List (Bor Text × ℕ)) → lookup (λ key. bytes_eq name key.now) es ≡ lookup (bytes_eq name) (map (λ e. (e.0.now, e.1)) es)
entries_found name [] = refl
entries_found name (e ∷ es) = ap (λ o. cond (bytes_eq name e.0.now) (Some e.1) o) (entries_found name es)

-- what the map finds is what stands in the list
pub found : {S : Type 0} (m : HashMap (Bor Text) ℕ S) (name : Text) → get_by (λ key. bytes_eq name key.now) m ≡ place_in (entries_of m) name
found m name = entries_found name m.entries

-- and what one name more changes
pub found_more : {S : Type 0} (m n : HashMap (Bor Text) ℕ S) (name : Text) (place : ℕ) → UpdatesBy (λ x y. bytes_eq x.now y.now) (λ key. bytes_eq name key.now) m n (Some place)
    → (other : Text) → place_in (entries_of n) other ≡ cond (bytes_eq name other) (Some place) (place_in (entries_of m) other)
found_more m n name place updates other = sym (found n other) ∙ hash_map_updates_str name m n (Some place) updates other ∙ ap (λ o. cond (bytes_eq name other) (Some place) o) (found m other)

-- The names of values in a circuit, as words.
use Rattle.std.proofs.Common.{ℕ, ◌≡◌, true, length, take, Some, None, Option, refl, cond, subst}
use Rattle.std.specs.Prelude.{is_some}
use Rattle.std.specs.Str.{IsAscii, bytes_eq}
use Rattle.mot_base.specs.Names.{is_name}
use Rattle.mixed_language.specs.Circuit.{Circuit, Statement, place_of, with_statement}
use Rattle.mixed_language.specs.Valid.{IsStatement, IsCircuit}
use Rattle.mixed_language.proofs.NameLemmas.{named_new}
use Rattle.mixed_language.proofs.PlaceLemmas.{place_of-named, place_of-value}
use Rattle.text_lines.proofs.WordLemmas.{name_ascii}
use Rattle.text_lines.specs.Text.{Text}

-- a name that is found is a name
pub place_of-name : (c : Circuit) (name : Text) (at : ℕ) → IsCircuit c → place_of c.statements name ≡ Some at → is_name name ≡ true
place_of-name c name at circuit h =
    let found = place_of-named c.statements name at h in
    let Named : Text → Type 0 = λ text. is_name text ≡ true in
    subst Named found.named (named_new c.parties (take at c.statements) found.s (circuit.each at found.s found.there) found.value).named

none_of : (o : Option ℕ) → ((at : ℕ) → o ≡ Some at → ⊥) → o ≡ None
none_of None never = refl
none_of (Some at) never = absurd (never at refl)

-- a word that is not of ASCII names nothing
pub place_of-none : (c : Circuit) (word : Text) → IsCircuit c → (IsAscii word → ⊥) → place_of c.statements word ≡ None
place_of-none c word circuit foreign = none_of (place_of c.statements word) (λ at h. foreign (name_ascii word (place_of-name c word at circuit h)))

-- the places behind one value more
pub place_of-with_value : (c : Circuit) (s : Statement) (other : Text) → IsStatement c.parties c.statements s → is_some s.wire ≡ true → place_of (with_statement c s).statements other ≡ cond (bytes_eq s.name other) (Some (length c.statements)) (place_of c.statements other)
place_of-with_value c s other said value = place_of-value c.statements s other value (named_new c.parties c.statements s said value).new

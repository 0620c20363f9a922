-- Operands that are found by their names.
use Rattle.std.proofs.Common.{ℕ, ◌≡◌, List, Option, Some, None, refl, subst}
use Rattle.std.specs.Prelude.{option_map, option_and_then}
use Rattle.share_types.specs.declared.sharing.WireType.{WireType}
use Rattle.mixed_language.specs.declared.operand.Operand.{Operand}
use Rattle.mixed_language.specs.Circuit.{Statement, place_of, wire_at}
use Rattle.mixed_circuit.specs.Line.{operand_of}
use Rattle.mot_base.proofs.Lists.{same_some}
use Rattle.text_lines.specs.Text.{Text}

-- an operand that was found: its place is that of the name, and it is shared as the value there
pub record IsOperand (ss : List Statement) (name : Text) (x : Operand) : Type 0 where
  pub at : place_of ss name ≡ Some x.at
  pub wire : wire_at ss x.at ≡ Some x.wire

pub operand_found : (ss : List Statement) (name : Text) (x : Operand) → operand_of ss name ≡ Some x → IsOperand ss name x
operand_found ss name x h = placed (place_of ss name) refl h
  where
    shared : (at : ℕ) → place_of ss name ≡ Some at → (o : Option WireType) → wire_at ss at ≡ o → option_map (λ (w : WireType). let operand : Operand = record { at = at; wire = w } in operand) o ≡ Some x → IsOperand ss name x
    shared at e None f h = cc
    shared at e (Some w) f h =
        let same : record { at = at; wire = w } ≡ x = same_some _ _ h in
        subst (IsOperand ss name) same (record { at = e; wire = f })

    placed : (o : Option ℕ) → place_of ss name ≡ o → option_and_then (λ at. option_map (λ (w : WireType). let operand : Operand = record { at = at; wire = w } in operand) (wire_at ss at)) o ≡ Some x → IsOperand ss name x
    placed None e h = cc
    placed (Some at) e h = shared at e (wire_at ss at) refl h

-- The six kinds of gates, one row for each: its name, how many inputs and outputs it has, and what its outputs are.
use Rattle.std.specs.Prelude.{ℕ, ◌+◌, ◌*◌, ◌==◌, Bool, true, false, not, ◌&&◌, nat_le, List, [], ◌∷◌, Option, codes}
use Rattle.std.specs.List.{find}
use Rattle.std.specs.Str.{bytes_eq}
use Rattle.share_types.specs.Bits.{differ}
use Rattle.bristol_reader.specs.declared.kind.BristolKind.{BristolKind}
use Rattle.bristol_reader.specs.declared.kind.BristolKind.TheVariants.{Xor, And, Inv, Eq, Eqw, Mand}
use Rattle.text_lines.specs.Text.{Text}

-- every kind
abbrev pub kinds : List BristolKind
kinds = Xor ∷ And ∷ Inv ∷ Eq ∷ Eqw ∷ Mand ∷ []

-- the name that stands last in the line of a gate
abbrev pub name_of : BristolKind → Text
name_of Xor = codes "XOR"
name_of And = codes "AND"
name_of Inv = codes "INV"
name_of Eq = codes "EQ"
name_of Eqw = codes "EQW"
name_of Mand = codes "MAND"

-- whether a gate of the kind has so many inputs and so many outputs
abbrev pub is_arity : BristolKind → ℕ → ℕ → Bool
is_arity Xor ins outs = ins == 2 && outs == 1
is_arity And ins outs = ins == 2 && outs == 1
is_arity Inv ins outs = ins == 1 && outs == 1
is_arity Eq ins outs = ins == 1 && outs == 1
is_arity Eqw ins outs = ins == 1 && outs == 1
is_arity Mand ins outs = nat_le 1 outs && ins == 2 * outs

-- whether the one input of a gate of the kind is no wire, but the constant 0 or 1 itself
abbrev pub is_constant : BristolKind → Bool
is_constant Eq = true
is_constant _ = false

-- the bit of output i, from the bit of each input, of a gate that has so many outputs
abbrev pub output_bit : BristolKind → (ℕ → Bool) → ℕ → ℕ → Bool
output_bit Xor input outs i = differ (input 0) (input 1)
output_bit And input outs i = input 0 && input 1
output_bit Inv input outs i = not (input 0)
output_bit Eq input outs i = input 0
output_bit Eqw input outs i = input 0
output_bit Mand input outs i = input i && input (outs + i)

-- the kind of a name
abbrev pub kind_of : Text → Option BristolKind
kind_of word = find (λ kind. bytes_eq word (name_of kind)) kinds

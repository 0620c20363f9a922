-- The operands of a statement are earlier statements.
use Rattle.std.proofs.Common.{ℕ, suc, ◌≡◌, ◌<◌, ◌≤◌, List, [], ◌∷◌, length, map, take, Option, Some, None, refl, sym, ◌∙◌, subst, arith}
use Rattle.std.specs.Prelude.{slice_get, option_and_then}
use Rattle.std.proofs.lemmas.List.{length-take}
use Rattle.std.proofs.lemmas.Option.{slice_get_within}
use Rattle.share_types.specs.declared.sharing.WireType.{WireType}
use Rattle.mixed_language.specs.declared.operand.Operand.{Operand}
use Rattle.mixed_language.specs.Circuit.{Circuit, Statement, wire_at}
use Rattle.mixed_language.specs.Valid.{IsStatement, IsCircuit, AreEarlier}

-- where a value stands, a statement does
pub wire_there : (ss : List Statement) (at : ℕ) (wire : WireType) → wire_at ss at ≡ Some wire →
    (s : Statement) × (slice_get ss at ≡ Some s) × (s.wire ≡ Some wire)
wire_there ss at wire h = there (slice_get ss at) refl h
  where
    there : (o : Option Statement) → slice_get ss at ≡ o → option_and_then (λ s. s.wire) o ≡ Some wire →
        (s : Statement) × (slice_get ss at ≡ Some s) × (s.wire ≡ Some wire)
    there None e h = cc
    there (Some s) e h = (s, e, h)

earlier : (before : List Statement) (bound : ℕ) (operands : List Operand) → length before ≤ bound →
    ((i : ℕ) (x : Operand) → slice_get operands i ≡ Some x → wire_at before x.at ≡ Some x.wire) →
    AreEarlier bound (map (λ x. x.at) operands)
earlier before bound [] few found = tt
earlier before bound (x ∷ xs) few found =
    let there = wire_there before x.at x.wire (found 0 x refl) in
    let within = slice_get_within before x.at there.0 there.1 in
    (omega arith, earlier before bound xs few (λ i y e. found (suc i) y e))

pub statement_earlier : (parties : ℕ) (before : List Statement) (s : Statement) (bound : ℕ) → length before ≤ bound →
    IsStatement parties before s → AreEarlier bound s.shape.operands
statement_earlier parties before s bound few is =
    subst (AreEarlier bound) (sym is.places) (earlier before bound is.operands few is.uses.found)

-- the same of the statement at a place of a circuit
pub circuit_earlier : (c : Circuit) (at : ℕ) (o : Option Statement) → IsCircuit c → slice_get c.statements at ≡ o →
    (s : Statement) → o ≡ Some s → AreEarlier at s.shape.operands
circuit_earlier c at o circuit e s f =
    let short : length (take at c.statements) ≤ at = simp length-take (omega arith) in
    statement_earlier c.parties (take at c.statements) s at short (circuit.each at s (e ∙ f))

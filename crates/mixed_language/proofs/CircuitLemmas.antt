-- What one more statement changes in a circuit.
use Rattle.std.proofs.Common.{ℕ, ◌≡◌, ◌<◌, List, [], ◌∷◌, ◌++◌, length, take, Some, sym, ◌∙◌, ap, subst, arith, ◌⊎◌, inl, inr}
use Rattle.std.specs.Prelude.{slice_get}
use Rattle.std.proofs.lemmas.Option.{slice_get_within}
use Rattle.std.proofs.lemmas.List.{length-append, take-append-le}
use Rattle.std.proofs.Math.Seq.{take-append_seam}
use Rattle.mot_base.specs.Limits.{most_statements}
use Rattle.mixed_language.specs.Circuit.{Circuit, Statement, with_statement}
use Rattle.mixed_language.specs.Valid.{IsStatement, IsCircuit}
use Rattle.mot_base.proofs.Lists.{pushed_at}

abbrev pub fields : ℕ → List Statement → Circuit
fields parties statements = record { parties = parties; statements = statements }

statement_more : (c : Circuit) (s t : Statement) (at : ℕ) → IsCircuit c → IsStatement c.parties c.statements s → (slice_get c.statements at ≡ Some t) ⊎ ((at ≡ length c.statements) × (s ≡ t)) → IsStatement c.parties (take at (c.statements ++ s ∷ [])) t
statement_more c s t at circuit own (inl p) = let P : List Statement → Type 0 = λ ss. IsStatement c.parties ss t in subst P (sym (take-append-le at c.statements (s ∷ []) (let within = slice_get_within c.statements at t p in omega arith))) (circuit.each at t p)
statement_more c s t at circuit own (inr p) =
    let Q : Statement → Type 0 = λ u. IsStatement c.parties c.statements u in
    let P : List Statement → Type 0 = λ ss. IsStatement c.parties ss t in
    subst P (sym (ap (λ i. take i (c.statements ++ s ∷ [])) p.0 ∙ take-append_seam c.statements (s ∷ []))) (subst Q p.1 own)

pub IsCircuit-push : (c : Circuit) (s : Statement) → IsCircuit c → length c.statements < most_statements → IsStatement c.parties c.statements s → IsCircuit (with_statement c s)
IsCircuit-push c s circuit few own = record {
  some_parties = circuit.some_parties;
  most_parties = circuit.most_parties;
  few = simp length-append (omega arith);
  each = λ at t h. statement_more c s t at circuit own (pushed_at c.statements s t at h);
}

-- the same of a circuit's fields, where one statement was added at their end
pub IsCircuit-pushed : (parties : ℕ) (before after : List Statement) (s : Statement) (c : Circuit) → fields parties before ≡ c → IsCircuit (fields parties before) → length c.statements < most_statements → IsStatement c.parties c.statements s → after ≡ before ++ s ∷ [] → IsCircuit (fields parties after)
IsCircuit-pushed parties before after s c is circuit few own pushed =
    subst (λ x. IsCircuit x) (sym (ap (λ x. with_statement x s) is) ∙ ap (fields parties) (sym pushed)) (IsCircuit-push c s (subst (λ x. IsCircuit x) is circuit) few own)

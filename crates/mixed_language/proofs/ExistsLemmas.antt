-- That each circuit has a plain evaluation.
use Rattle.std.proofs.Common.{ℕ, zero, suc, ◌≡◌, ◌≤◌, ◌+◌, List, [], ◌∷◌, ◌++◌, length, map, refl, sym, ◌∙◌, ap, subst, add-one, arith}
use Rattle.mot_base.proofs.Lists.{same_some, some_at}
use Rattle.share_types.specs.Bits.{number}
use Rattle.mixed_language.specs.Circuit.{Statement}
use Rattle.mixed_language.specs.Eval.{IsEvaluated, EachEvaluates, told_of, value_of_statement}
use Rattle.mixed_language.proofs.EvalLemmas.{EvaluatedTo, none_evaluated, evaluated_next, evaluated_all}

-- ---- the values of a mixed circuit, statement by statement

values_to : (ss : List Statement) (inputs : List ℕ) (n : ℕ) → n ≤ length ss →
    (made : List ℕ) × EvaluatedTo ss inputs made n
values_to ss inputs zero h = ([], none_evaluated ss inputs)
values_to ss inputs (suc n) h =
    let before = values_to ss inputs n (omega (arith, h)) in
    let s = some_at ss n (omega (arith, h)) in
    let value = value_of_statement ss inputs before.0 n s.0 in (
      before.0 ++ value ∷ [],
      subst (EvaluatedTo ss inputs (before.0 ++ value ∷ [])) (add-one n)
          (evaluated_next ss inputs before.0 n value before.1
          (λ t is. ap (value_of_statement ss inputs before.0 n) (same_some s.0 t (sym s.1 ∙ is)))),
    )

pub values_exist : (ss : List Statement) (inputs : List ℕ) → (made : List ℕ) × IsEvaluated ss inputs made
values_exist ss inputs =
    let all = values_to ss inputs (length ss) (omega arith) in
    (all.0, evaluated_all ss inputs all.0 (length ss) refl all.1)

pub each_evaluates : EachEvaluates
each_evaluates c v =
    let made = values_exist c.statements (map number v) in
    (told_of c made.0, record { values = made.0; evaluated = made.1; told = refl })

-- How far a values text is read, and the values behind its lines.
use Rattle.std.proofs.Common.{ℕ, ◌≡◌, ◌<◌, ◌≤◌, ◌+◌, Bool, true, false, ◌&&◌, List, [], ◌∷◌, length, map, drop, Option, Some, None, zero, suc, refl, sym, ◌∙◌, ap, subst, cond, arith}
use Rattle.std.specs.Prelude.{is_none, option_map, option_and_then, slice_get, IfSome}
use Rattle.std.specs.Option.{unwrap_or}
use Rattle.std.proofs.lemmas.List.{drop_all}
use Rattle.mot_base.specs.declared.Party.{Party}
use Rattle.circuit_values.specs.declared.cause.ValuesCause.{ValuesCause}
use Rattle.circuit_tables.specs.Table.{Input}
use Rattle.circuit_values.specs.Values.{values, is_free, value_of, values_of}
use Rattle.circuit_tables.specs.Values.{is_owned}
use Rattle.text_lines.specs.Text.{Text}
use Rattle.text_lines.proofs.ReaderLemmas.{IsReadTo}

-- how far a text is read
abbrev pub ReadTo : List Input → Option Party → Text → List (Option (List Bool)) → ℕ → List Text → Type 0
ReadTo inputs owner text given number left = IsReadTo (List (Option (List Bool))) (List (List Bool)) ValuesCause (values inputs owner) text given number left

-- ---- the values

-- behind an input that has a value, the others decide
pub passed : (owner : Option Party) (x : Input) (o : Option (List Bool)) (rest : Option (List (List Bool))) → (is_none o && is_owned owner x.party) ≡ false → is_none (option_and_then (λ value. option_map (λ more. value ∷ more) rest) (value_of owner x o)) ≡ is_none rest
passed owner x (Some bits) None h = refl
passed owner x (Some bits) (Some rest) h = refl
passed owner x None rest h = owned (is_owned owner x.party) rest h
  where
    owned : (b : Bool) (rest : Option (List (List Bool))) → (true && b) ≡ false → is_none (option_and_then (λ value. option_map (λ more. value ∷ more) rest) (cond b None (Some []))) ≡ is_none rest
    owned true rest h = cc
    owned false None h = refl
    owned false (Some rest) h = refl

pub is_missing : (owner : Option Party) (x : Input) (o : Option (List Bool)) (rest : Option (List (List Bool))) → (is_none o && is_owned owner x.party) ≡ true → is_none (option_and_then (λ value. option_map (λ more. value ∷ more) rest) (value_of owner x o)) ≡ true
is_missing owner x (Some bits) rest h = cc
is_missing owner x None rest h = owned (is_owned owner x.party) h
  where
    owned : (b : Bool) → (true && b) ≡ true → is_none (option_and_then (λ value. option_map (λ more. value ∷ more) rest) (cond b None (Some []))) ≡ true
    owned true h = refl
    owned false h = cc

-- the input and its bits at a place
record Here (owner : Option Party) (xs : List Input) (given : List (Option (List Bool))) (at : ℕ) (missing : Bool) : Type 0 where
  x : Input
  o : Option (List Bool)
  inputs : drop at xs ≡ x ∷ drop (at + 1) xs
  bits : drop at given ≡ o ∷ drop (at + 1) given
  test : missing ≡ (is_none o && is_owned owner x.party)

dropped : {X : Type 0} (xs : List X) (i : ℕ) → i < length xs → (x : X) × (slice_get xs i ≡ Some x) × (drop i xs ≡ x ∷ drop (i + 1) xs)
dropped [] i h = absurd (omega arith)
dropped (x ∷ xs) zero h = (x, refl, refl)
dropped (x ∷ xs) (suc i) h = let rest = dropped xs i (omega arith) in (rest.0, rest.1, rest.2 ∙ ap (λ ys. rest.0 ∷ ys) (let e : suc i + 1 ≡ suc (i + 1) = omega arith in sym (ap (λ k. drop k (x ∷ xs)) e)))

here_at : (owner : Option Party) (xs : List Input) (given : List (Option (List Bool))) (at : ℕ) (missing : Bool) → at < length xs → length given ≡ length xs → IfSome (slice_get xs at) (λ x. missing ≡ (is_free given at && is_owned owner x.party)) → Here owner xs given at missing
here_at owner xs given at missing within count test =
    let x = dropped xs at within in
    let b = dropped given at (omega arith) in
    record {
      x = x.0;
      o = b.0;
      inputs = x.2;
      bits = b.2;
      test = subst (λ (g : Option Input). IfSome g (λ y. missing ≡ (is_free given at && is_owned owner y.party))) x.1 test
          ∙ ap (λ (g : Option (Option (List Bool))). is_none (option_and_then (λ y. y) g) && is_owned owner x.0.party) b.1;
    }

cut_here : (owner : Option Party) (xs : List Input) (given : List (Option (List Bool))) (at : ℕ) (missing : Bool) (here : Here owner xs given at missing) → values_of owner (drop at xs) (drop at given) ≡ option_and_then (λ value. option_map (λ more. value ∷ more) (values_of owner (drop (at + 1) xs) (drop (at + 1) given))) (value_of owner here.x here.o)
cut_here owner xs given at missing here = ap (λ (ys : List Input). values_of owner ys (drop at given)) here.inputs ∙ ap (λ (g : List (Option (List Bool))). values_of owner (here.x ∷ drop (at + 1) xs) g) here.bits

pub here_passed : (owner : Option Party) (xs : List Input) (given : List (Option (List Bool))) (at : ℕ) (missing : Bool) → at < length xs → length given ≡ length xs → IfSome (slice_get xs at) (λ x. missing ≡ (is_free given at && is_owned owner x.party)) → missing ≡ false → is_none (values_of owner (drop (at + 1) xs) (drop (at + 1) given)) ≡ is_none (values_of owner (drop at xs) (drop at given))
here_passed owner xs given at missing within count test e =
    let here = here_at owner xs given at missing within count test in
    sym (ap (λ (v : Option (List (List Bool))). is_none v) (cut_here owner xs given at missing here) ∙ passed owner here.x here.o _ (sym here.test ∙ e))

pub here_missing : (owner : Option Party) (xs : List Input) (given : List (Option (List Bool))) (at : ℕ) (missing : Bool) → at < length xs → length given ≡ length xs → IfSome (slice_get xs at) (λ x. missing ≡ (is_free given at && is_owned owner x.party)) → missing ≡ true → is_none (values_of owner (drop at xs) (drop at given)) ≡ true
here_missing owner xs given at missing within count test e =
    let here = here_at owner xs given at missing within count test in
    ap (λ (v : Option (List (List Bool))). is_none v) (cut_here owner xs given at missing here) ∙ is_missing owner here.x here.o _ (sym here.test ∙ e)

pub all_there : (owner : Option Party) (xs : List Input) (given : List (Option (List Bool))) (at : ℕ) → length xs ≤ at → is_none (values_of owner (drop at xs) (drop at given)) ≡ false
all_there owner xs given at past = ap (λ (ys : List Input). is_none (values_of owner ys (drop at given))) (drop_all at xs past)

-- where none is missing, the values are the bits that were given
pub values_all : (owner : Option Party) (xs : List Input) (given : List (Option (List Bool))) → length given ≡ length xs → is_none (values_of owner xs given) ≡ false → values_of owner xs given ≡ Some (map (λ o. unwrap_or o []) given)
values_all owner [] [] count h = refl
values_all owner [] (o ∷ given) count h = absurd (omega arith)
values_all owner (x ∷ xs) [] count h = absurd (omega arith)
values_all owner (x ∷ xs) (o ∷ given) count h = first o (values_of owner xs given) refl h (values_all owner xs given (omega arith))
  where
    first : (o : Option (List Bool)) (rest : Option (List (List Bool))) → values_of owner xs given ≡ rest → is_none (option_and_then (λ value. option_map (λ more. value ∷ more) rest) (value_of owner x o)) ≡ false → (is_none (values_of owner xs given) ≡ false → values_of owner xs given ≡ Some (map (λ o. unwrap_or o []) given)) → option_and_then (λ value. option_map (λ more. value ∷ more) (values_of owner xs given)) (value_of owner x o) ≡ Some (unwrap_or o [] ∷ map (λ o. unwrap_or o []) given)
    first (Some bits) None e h ih = cc
    first (Some bits) (Some rest) e h ih = ap (λ (v : Option (List (List Bool))). option_map (λ more. bits ∷ more) v) (ih (ap (λ (v : Option (List (List Bool))). is_none v) e))
    first None rest e h ih = owned (is_owned owner x.party) rest e h
      where
        owned : (b : Bool) (rest : Option (List (List Bool))) → values_of owner xs given ≡ rest → is_none (option_and_then (λ value. option_map (λ more. value ∷ more) rest) (cond b None (Some []))) ≡ false → option_and_then (λ value. option_map (λ more. value ∷ more) (values_of owner xs given)) (cond b None (Some [])) ≡ Some ([] ∷ map (λ o. unwrap_or o []) given)
        owned true rest e h = cc
        owned false None e h = cc
        owned false (Some rest) e h = ap (λ (v : Option (List (List Bool))). option_map (λ more. [] ∷ more) v) (ih (ap (λ (v : Option (List (List Bool))). is_none v) e))

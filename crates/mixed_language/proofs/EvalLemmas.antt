-- The values of a circuit's statements, one after another.
use Rattle.std.proofs.Common.{ℕ, zero, suc, ◌≡◌, ◌<◌, ◌≤◌, ◌+◌, ◌*◌, ◌%◌, ◌^◌, ◌-◌, List, [], ◌∷◌, ◌++◌, length, take, Option, Some, None, inl, inr, refl, sym, ◌∙◌, ap, ap₂, subst, arith}
use Rattle.std.specs.Prelude.{slice_get, option_map, option_and_then, SomeIff, IfSome, is_some, bit_xor}
use Rattle.std.specs.Option.{unwrap_or}
use Rattle.std.proofs.lemmas.List.{take-append-le, length-append}
use Rattle.std.proofs.lemmas.Option.{slice_get_within, slice_get_past}
use Rattle.std.proofs.lemmas.Bool.{cases_lt}
use Rattle.std.proofs.Math.Pow.{mod-mod-pow, pow_mono}
use Rattle.std.proofs.lemmas.Nat.{pow-add, xor_lt}
use Rattle.std.proofs.Math.Nat.{mul-mod_right}
use Rattle.mot_base.specs.Limits.{most_width}
use Rattle.share_types.specs.Bits.{once}
use Rattle.share_types.specs.declared.sharing.WireType.{WireType}
use Rattle.mixed_language.specs.Circuit.{Statement, Shape}
use Rattle.share_types.specs.Wires.{width_of}
use Rattle.mixed_language.specs.Table.{inputs_of, input_entry, owner_of}
use Rattle.mixed_language.specs.Wide.{AllWide}
use Rattle.mixed_language.specs.Eval.{number_made, value_made, seen_of, width_given_by, value_of_statement, IsEvaluated, EvaluatesOnce, inputs_taken}
use Rattle.mot_base.proofs.Lists.{same_some, take_next, last_at as last, take_whole as taken_all, before_at as kept}

pub moved : (x places : ℕ) (r : Option ℕ) → SomeIff r (places < 64) (x * 2 ^ places % 2 ^ 64) →
    unwrap_or r 0 ≡ 2 ^ places * x % 2 ^ 64
moved x places (Some y) h = h.1 ∙ ap (λ n. n % 2 ^ 64) (omega arith)
moved x places None h =
    let high : 64 ≤ places = omega (arith, h) in
    let whole : 2 ^ places ≡ 2 ^ 64 * 2 ^ (places - 64) = ap (λ n. 2 ^ n) (omega arith) ∙ pow-add 2 64 (places - 64) in
    let all : 2 ^ places * x ≡ 2 ^ 64 * (2 ^ (places - 64) * x) = ap (λ n. n * x) whole ∙ omega arith in
    sym (ap (λ n. n % 2 ^ 64) all ∙ mul-mod_right (2 ^ 64) (2 ^ (places - 64) * x))

wire_of : (o : Option Statement) (wire : WireType) → option_map (λ s. s.wire) o ≡ Some (Some wire) →
    option_and_then (λ s. s.wire) o ≡ Some wire
wire_of None wire e = cc
wire_of (Some s) wire e = same_some s.wire (Some wire) e

-- the value at a place has at most 64 bits
pub wide_there : (ss : List Statement) (at : ℕ) (wire : WireType) → AllWide ss →
    option_map (λ s. s.wire) (slice_get ss at) ≡ Some (Some wire) → width_of wire ≤ most_width
wide_there ss at wire wide e = (wide at wire (wire_of (slice_get ss at) wire e)).1

-- numbers are the values of the first statements
pub record EvaluatedTo (statements : List Statement) (inputs values : List ℕ) (n : ℕ) : Type 0 where
  pub count : length values ≡ n
  pub each : (at : ℕ) (s : Statement) → at < n → slice_get statements at ≡ Some s →
      slice_get values at ≡ Some (value_of_statement statements inputs (take at values) at s)

pub none_evaluated : (ss : List Statement) (inputs : List ℕ) → EvaluatedTo ss inputs [] 0
none_evaluated ss inputs = record { count = refl; each = λ at s h e. absurd (omega (arith, h)) }

pub evaluated_next : (ss : List Statement) (inputs values : List ℕ) (n value : ℕ) → EvaluatedTo ss inputs values n →
    ((s : Statement) → slice_get ss n ≡ Some s → value ≡ value_of_statement ss inputs values n s) →
    EvaluatedTo ss inputs (values ++ value ∷ []) (n + 1)
evaluated_next ss inputs values n value to is = record {
  count = (let count = to.count in length-append values (value ∷ []) ∙ omega arith);
  each = each;
}
  where
    all : take n (values ++ value ∷ []) ≡ values
    all = ap (λ k. take k (values ++ value ∷ [])) (sym to.count) ∙ taken values (value ∷ [])
      where
        taken : (xs ys : List ℕ) → take (length xs) (xs ++ ys) ≡ xs
        taken [] ys = refl
        taken (x ∷ xs) ys = ap (λ zs. x ∷ zs) (taken xs ys)

    each : (at : ℕ) (s : Statement) → at < n + 1 → slice_get ss at ≡ Some s →
        slice_get (values ++ value ∷ []) at ≡ Some (value_of_statement ss inputs (take at (values ++ value ∷ [])) at s)
    each at s h e = elim (cases_lt at n) as (λ _. slice_get (values ++ value ∷ []) at ≡ Some (value_of_statement ss inputs (take at (values ++ value ∷ [])) at s)) [
      | inl small ↦
          (let count = to.count in
          let front : take at (values ++ value ∷ []) ≡ take at values = take-append-le at values (value ∷ []) (omega arith) in
          kept values (value ∷ []) at (omega arith) ∙ (to.each at s small e
          ∙ ap (λ before. Some (value_of_statement ss inputs before at s)) (sym front)))
      | inr large ↦
          (let here : at ≡ n = omega arith in
          let P : ℕ → Type 0 = λ k. slice_get (values ++ value ∷ []) k ≡ Some (value_of_statement ss inputs (take k (values ++ value ∷ [])) k s) in
          let there : slice_get ss n ≡ Some s = ap (slice_get ss) (sym here) ∙ e in
          let end : slice_get (values ++ value ∷ []) n ≡ Some value = ap (slice_get (values ++ value ∷ [])) (sym to.count) ∙ last values value in
          subst P (sym here) (end ∙ ap (λ (v : ℕ). Some v) (is s there) ∙ ap (λ before. Some (value_of_statement ss inputs before n s)) (sym all)))
    ]

-- once all statements have their values
pub evaluated_all : (ss : List Statement) (inputs values : List ℕ) (n : ℕ) → length ss ≡ n → EvaluatedTo ss inputs values n →
    IsEvaluated ss inputs values
evaluated_all ss inputs values n all to = record {
  count = to.count ∙ sym all;
  each = λ at s e. to.each at s (let within = slice_get_within ss at s e in omega arith) e;
}

inputs-append : (xs ys : List Statement) → length (inputs_of (xs ++ ys)) ≡ length (inputs_of xs) + length (inputs_of ys)
inputs-append [] ys = omega arith
inputs-append (x ∷ xs) ys =
    let rest = inputs-append xs ys in
    length-append (input_entry x (owner_of x.shape)) (inputs_of (xs ++ ys))
    ∙ (let front = length-append (input_entry x (owner_of x.shape)) (inputs_of xs) in omega arith)

one_input : (s : Statement) (o : Option ℕ) → length (input_entry s o) ≡ once (is_some o)
one_input s None = refl
one_input s (Some party) = refl

-- one statement more takes the inputs that it is
pub inputs_next : (ss : List Statement) (n : ℕ) (s : Statement) → slice_get ss n ≡ Some s →
    length (inputs_of (take (n + 1) ss)) ≡ length (inputs_of (take n ss)) + inputs_taken s.shape
inputs_next ss n s e =
    let entry = one_input s (owner_of s.shape) in
    let alone = length-append (input_entry s (owner_of s.shape)) [] in
    ap (λ xs. length (inputs_of xs)) (take_next ss n s e)
    ∙ (inputs-append (take n ss) (s ∷ []) ∙ omega arith)

take_same : {X : Type 0} (xs ys : List X) (n : ℕ) → take n xs ≡ take n ys → slice_get xs n ≡ slice_get ys n →
    take (suc n) xs ≡ take (suc n) ys
take_same [] [] n e f = refl
take_same [] (y ∷ ys) zero e f = cc
take_same [] (y ∷ ys) (suc n) e f = cc
take_same (x ∷ xs) [] zero e f = cc
take_same (x ∷ xs) [] (suc n) e f = cc
take_same (x ∷ xs) (y ∷ ys) zero e f = ap (λ z. z ∷ []) (same_some x y f)
take_same (x ∷ xs) (y ∷ ys) (suc n) e f =
    let first : x ≡ y = cc in
    let rest : take n xs ≡ take n ys = cc in
    ap₂ (λ z zs. z ∷ zs) first (take_same xs ys n rest f)

nothing : (xs : List Statement) (k : ℕ) → slice_get xs k ≡ None → length xs ≤ k
nothing [] k e = omega arith
nothing (x ∷ xs) zero e = cc
nothing (x ∷ xs) (suc k) e = let rest = nothing xs k e in omega arith

same_to : (ss : List Statement) (inputs values others : List ℕ) → IsEvaluated ss inputs values → IsEvaluated ss inputs others →
    (n : ℕ) → take n values ≡ take n others
same_to ss inputs values others first second zero = refl
same_to ss inputs values others first second (suc n) =
    let before = same_to ss inputs values others first second n in
    take_same values others n before (same_at (slice_get ss n) refl before)
  where
    same_at : (o : Option Statement) → slice_get ss n ≡ o → take n values ≡ take n others → slice_get values n ≡ slice_get others n
    same_at (Some s) e before =
        first.each n s e ∙ (ap (λ xs. Some (value_of_statement ss inputs xs n s)) before ∙ sym (second.each n s e))
    same_at None e before =
        let past = nothing ss n e in
        let count = first.count in
        let other = second.count in
        slice_get_past values n (omega arith) ∙ sym (slice_get_past others n (omega arith))

pub evaluates_once : EvaluatesOnce
evaluates_once ss inputs values others first second =
    let count = first.count in
    let other = second.count in
    sym (taken_all values (length ss) (omega arith))
    ∙ (same_to ss inputs values others first second (length ss) ∙ taken_all others (length ss) (omega arith))

-- the value of the statement at a place, from its shape and its width
pub value_here : (ss : List Statement) (o : Option Statement) (shape : Shape) (input : ℕ) (before : List ℕ) (width made value : ℕ) →
    option_map (λ s. s.shape) o ≡ Some shape → IfSome o (λ s. width ≡ width_given_by s) → width ≤ 64 →
    made ≡ number_made shape.operation (seen_of ss shape input before width) % 2 ^ 64 → value ≡ made % 2 ^ width →
    IfSome o (λ s. value ≡ value_made s.shape.operation (seen_of ss s.shape input before (width_given_by s)))
value_here ss None shape input before width made value e f h g v = cc
value_here ss (Some s) shape input before width made value e f h g v =
    let number = number_made shape.operation (seen_of ss shape input before width) in
    let long : number % 2 ^ 64 % 2 ^ width ≡ number % 2 ^ width =
    let whole : 64 ≡ 64 - width + width = omega arith in
    ap (λ k. number % 2 ^ k % 2 ^ width) whole ∙ mod-mod-pow number (64 - width) width in
    let P : Shape → ℕ → Type 0 = λ t w. value ≡ value_made t.operation (seen_of ss t input before w) in
    subst (λ t. P t (width_given_by s)) (sym (same_some s.shape shape e))
    (subst (P shape) f (v ∙ (ap (λ n. n % 2 ^ width) g ∙ long)))

-- an XOR of two words is a word
pub xor_word : (a b : ℕ) → a < 2 ^ 64 → b < 2 ^ 64 → bit_xor a b ≡ bit_xor a b % 2 ^ 64
xor_word a b p q = let low = xor_lt 64 a b p q in omega arith

-- an XOR of a word and the ones of a width is a word
pub flipped_word : (a width : ℕ) → a < 2 ^ 64 → width ≤ 64 → bit_xor a (2 ^ width - 1) ≡ bit_xor a (2 ^ width - 1) % 2 ^ 64
flipped_word a width p q =
    let power = pow_mono {i = width} {j = 64} q in
    xor_word a (2 ^ width - 1) p (omega arith)

-- a statement of some shape stands at a place
pub some_statement : (ss : List Statement) (at : ℕ) (shape : Shape) → option_map (λ s. s.shape) (slice_get ss at) ≡ Some shape →
    (s : Statement) × (slice_get ss at ≡ Some s) × (s.shape ≡ shape)
some_statement ss at shape e = there (slice_get ss at) refl e
  where
    there : (o : Option Statement) → slice_get ss at ≡ o → option_map (λ s. s.shape) o ≡ Some shape →
        (s : Statement) × (slice_get ss at ≡ Some s) × (s.shape ≡ shape)
    there None e h = cc
    there (Some s) e h = (s, e, same_some s.shape shape h)

-- what holds of a statement that stands there
pub of_statement : (o : Option Statement) (P : Statement → Type 0) (s : Statement) → o ≡ Some s → IfSome o P → P s
of_statement None P s e h = cc
of_statement (Some t) P s e h = subst P (same_some t s e) h

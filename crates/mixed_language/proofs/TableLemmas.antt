-- The inputs and outputs of a circuit, one statement after another, and the names of inputs.
use Rattle.mixed_language.proofs.PlaceLemmas.{place_of-named}
use Rattle.std.proofs.lemmas.Bool.{cases_eq, cases_lt}
use Rattle.std.proofs.Common.{ℕ, ◌≡◌, ◌<◌, ◌≤◌, ◌+◌, ◌&&◌, Bool, true, false, List, [], ◌∷◌, ◌++◌, length, take, drop, Option, Some, None, zero, suc, add-one, sym, refl, ◌∙◌, ap, subst, cond, arith, append_assoc, ◌≢◌, ⊎_elim}
use Rattle.std.specs.Prelude.{slice_get, IfSome, is_some, option_map}
use Rattle.std.specs.Str.{bytes_eq}
use Rattle.std.proofs.lemmas.Option.{slice_get_within, get_or_from_slice_get}
use Rattle.std.proofs.lemmas.Slice.Eq.{bytes_eq-Decides}
use Rattle.std.proofs.lemmas.List.{drop_all, append-nil}
use Rattle.std.proofs.Math.Seq.{drop-cons}
use Rattle.circuit_tables.specs.Table.{Input, Output, Told, AreNamedApart}
use Rattle.mixed_language.specs.Eval.{told_by, told_among}
use Rattle.mixed_language.specs.Circuit.{Circuit, Statement, place_of}
use Rattle.mixed_language.specs.Valid.{IsCircuit}
use Rattle.mixed_language.specs.Table.{inputs_of, outputs_among, input_entry, output_entry, owner_of}
use Rattle.mot_base.proofs.Lists.{same_some, true_both as both_hold}
use Rattle.mixed_language.proofs.NameLemmas.{named_new, input_value}

-- ---- what statements add to a table, one after another

module _ (X : Type 0) (entry : Statement → List X) (all : List Statement → List X) (none : all [] ≡ []) (more : (s : Statement) (ss : List Statement) → all (s ∷ ss) ≡ entry s ++ all ss) where
  -- the table so far and the entries of what is left are all entries, and the table is no longer than what was read
  pub record AreListedTo (ss : List Statement) (table : List X) (at : ℕ) : Type 0 where
    pub entries : table ++ all (drop at ss) ≡ all ss
    pub few : length table ≤ at

  rest-of : (ss : List Statement) (i : ℕ) (s : Statement) → slice_get ss i ≡ Some s → drop i ss ≡ s ∷ drop (i + 1) ss
  rest-of ss i s h = let within : i < length ss = slice_get_within ss i s h in rw (add-one, drop-cons ss i s) (ap (λ t. t ∷ drop (suc i) ss) (get_or_from_slice_get ss i s s h))

  some_at : (ss : List Statement) (i : ℕ) → i < length ss → (s : Statement) × (slice_get ss i ≡ Some s)
  some_at [] i h = absurd (omega arith)
  some_at (s ∷ ss) zero h = (s, refl)
  some_at (s ∷ ss) (suc i) h = some_at ss i (omega arith)

  pub listed_next : (ss : List Statement) (table after : List X) (at : ℕ) (o : Option Statement) → slice_get ss at ≡ o → at < length ss → IfSome o (λ s. after ≡ table ++ entry s) → length after ≤ length table + 1 → AreListedTo ss table at → AreListedTo ss after (at + 1)
  listed_next ss table after at None e within added one listed = let there = some_at ss at within in let contrary = sym e ∙ there.1 in cc
  listed_next ss table after at (Some s) e within added one listed = record {
    entries = ap (λ (t : List X). t ++ all (drop (at + 1) ss)) added
        ∙ append_assoc table (entry s) (all (drop (at + 1) ss))
        ∙ ap (λ (rest : List X). table ++ rest) (sym (ap all (rest-of ss at s e) ∙ more s (drop (at + 1) ss)))
        ∙ listed.entries;
    few = let before = listed.few in omega arith;
  }

  pub listed_all : (ss : List Statement) (table : List X) (at : ℕ) → length ss ≤ at → AreListedTo ss table at → table ≡ all ss
  listed_all ss table at past listed = sym (append-nil table) ∙ ap (λ (rest : List X). table ++ rest) (sym (ap all (drop_all at ss past) ∙ none)) ∙ listed.entries

-- ---- names

later_none : (b : Bool) (o : Option ℕ) → cond b (Some 0) (option_map (λ at. at + 1) o) ≡ None → o ≡ None
later_none true o h = cc
later_none false None h = refl
later_none false (Some at) h = cc

found_here : (b : Bool) (o : Option ℕ) → b ≡ true → cond b (Some 0) o ≡ None → ⊥
found_here true o e h = cc
found_here false o e h = cc

-- a value that stands there is found by its name
place_of-found : (before : List Statement) (p : ℕ) (s : Statement) → slice_get before p ≡ Some s → is_some s.wire ≡ true → place_of before s.name ≡ None → ⊥
place_of-found [] p s there value none = cc
place_of-found (t ∷ before) zero s there value none =
    let same : t ≡ s = cc in
    let test : (is_some t.wire && bytes_eq t.name s.name) ≡ true = both_hold _ _ (ap (λ (u : Statement). is_some u.wire) same ∙ value) ((bytes_eq-Decides t.name s.name).1 (ap (λ (u : Statement). u.name) same)) in
    found_here _ _ test none
place_of-found (t ∷ before) (suc p) s there value none = place_of-found before p s there value (later_none _ _ none)

slice_get-take : (ss : List Statement) (p q : ℕ) → p < q → slice_get (take q ss) p ≡ slice_get ss p
slice_get-take [] p q h = ap (λ (ss : List Statement). slice_get ss p) (take-nil q)
  where
    take-nil : (q : ℕ) → take {A = Statement} q [] ≡ []
    take-nil zero = refl
    take-nil (suc q) = refl
slice_get-take (s ∷ ss) p zero h = absurd (omega arith)
slice_get-take (s ∷ ss) zero (suc q) h = refl
slice_get-take (s ∷ ss) (suc p) (suc q) h = slice_get-take ss p q (omega arith)

-- no two values have the same name, and each input is a value
pub record HaveNamesApart (ss : List Statement) : Type 0 where
  pub apart : (p q : ℕ) (s t : Statement) → slice_get ss p ≡ Some s → slice_get ss q ≡ Some t → p < q → is_some s.wire ≡ true → is_some t.wire ≡ true → s.name ≡ t.name → ⊥
  pub value : (p : ℕ) (s : Statement) → slice_get ss p ≡ Some s → is_some (owner_of s.shape) ≡ true → is_some s.wire ≡ true

circuit_names : (c : Circuit) → IsCircuit c → HaveNamesApart c.statements
circuit_names c circuit = record {
  apart = λ p q s t first second less value other same.
      let none = (named_new c.parties (take q c.statements) t (circuit.each q t second) other).new in
      let there = slice_get-take c.statements p q less ∙ first in
      place_of-found (take q c.statements) p s there value (ap (place_of (take q c.statements)) same ∙ none);
  value = λ p s there owner. input_value c.parties (take p c.statements) s (circuit.each p s there) owner;
}

-- a value of a circuit is the one that its name is of
pub own_place : (c : Circuit) (at : ℕ) (s : Statement) → IsCircuit c → slice_get c.statements at ≡ Some s →
    is_some s.wire ≡ true → place_of c.statements s.name ≡ Some at
own_place c at s circuit there value = placed (place_of c.statements s.name) refl
  where
    placed : (o : Option ℕ) → place_of c.statements s.name ≡ o → o ≡ Some at
    placed None e = absurd (place_of-found c.statements at s there value e)
    placed (Some q) e =
        let found = place_of-named c.statements s.name q e in
        let names = circuit_names c circuit in
        ⊎_elim
        (λ (same : q ≡ at). ap Some same)
        (λ (other : q ≢ at).
        absurd (⊎_elim
        (λ (less : q < at).
        names.apart q at found.s s found.there there less found.value value found.named)
        (λ (more : at ≤ q).
        names.apart at q s found.s there found.there (omega (arith, more, other)) value found.value (sym found.named))
        (cases_lt q at)))
        (cases_eq q at)

names_behind : (s : Statement) (ss : List Statement) → HaveNamesApart (s ∷ ss) → HaveNamesApart ss
names_behind s ss names = record {
  apart = λ p q t u first second less. names.apart (suc p) (suc q) t u first second (omega arith);
  value = λ p t there. names.value (suc p) t there;
}

-- the statement of an input
record HasStatement (ss : List Statement) (x : Input) : Type 0 where
  p : ℕ
  s : Statement
  there : slice_get ss p ≡ Some s
  value : is_some s.wire ≡ true
  named : s.name ≡ x.name

behind_statement : (s : Statement) (ss : List Statement) (x : Input) → HasStatement ss x → HasStatement (s ∷ ss) x
behind_statement s ss x has = record { p = suc has.p; s = has.s; there = has.there; value = has.value; named = has.named }

first_or_behind : (s : Statement) (ss : List Statement) (owner : Option ℕ) → owner_of s.shape ≡ owner → HaveNamesApart (s ∷ ss) → (i : ℕ) (x : Input) → slice_get (input_entry s owner ++ inputs_of ss) i ≡ Some x → ((j : ℕ) (y : Input) → slice_get (inputs_of ss) j ≡ Some y → HasStatement ss y) → HasStatement (s ∷ ss) x
first_or_behind s ss None e names i x there behind = behind_statement s ss x (behind i x there)
first_or_behind s ss (Some party) e names zero x there behind = record { p = 0; s = s; there = refl; value = names.value 0 s refl (ap (λ (o : Option ℕ). is_some o) e); named = ap (λ (y : Input). y.name) (same_some _ x there) }
first_or_behind s ss (Some party) e names (suc i) x there behind = behind_statement s ss x (behind i x there)

input_statement : (ss : List Statement) → HaveNamesApart ss → (i : ℕ) (x : Input) → slice_get (inputs_of ss) i ≡ Some x → HasStatement ss x
input_statement [] names i x there = cc
input_statement (s ∷ ss) names i x there = first_or_behind s ss (owner_of s.shape) refl names i x there (input_statement ss (names_behind s ss names))

-- an input behind a value has another name
other_name : (s : Statement) (ss : List Statement) → HaveNamesApart (s ∷ ss) → is_some s.wire ≡ true → (j : ℕ) (y : Input) → slice_get (inputs_of ss) j ≡ Some y → s.name ≡ y.name → ⊥
other_name s ss names value j y there same =
    let has = input_statement ss (names_behind s ss names) j y there in
    names.apart 0 (suc has.p) s has.s refl has.there (omega arith) value has.value (same ∙ sym has.named)

apart_more : (x : Input) (inputs : List Input) → ((j : ℕ) (y : Input) → slice_get inputs j ≡ Some y → x.name ≡ y.name → ⊥) → AreNamedApart inputs → (i j : ℕ) (y z : Input) → slice_get (x ∷ inputs) i ≡ Some y → slice_get (x ∷ inputs) j ≡ Some z → y.name ≡ z.name → i ≡ j
apart_more x inputs other behind zero zero y z first second same = refl
apart_more x inputs other behind zero (suc j) y z first second same = absurd (other j z second (ap (λ (u : Input). u.name) (same_some _ y first) ∙ same))
apart_more x inputs other behind (suc i) zero y z first second same = absurd (other i y first (ap (λ (u : Input). u.name) (same_some _ z second) ∙ sym same))
apart_more x inputs other behind (suc i) (suc j) y z first second same = ap suc (behind.apart i j y z first second same)

apart_behind : (s : Statement) (ss : List Statement) (owner : Option ℕ) → owner_of s.shape ≡ owner → HaveNamesApart (s ∷ ss) → AreNamedApart (inputs_of ss) → AreNamedApart (input_entry s owner ++ inputs_of ss)
apart_behind s ss None e names behind = behind
apart_behind s ss (Some party) e names behind = record { apart = apart_more (record { name = s.name; party = record { 0 = party }; width = s.shape.width }) (inputs_of ss) (other_name s ss names (names.value 0 s refl (ap (λ (o : Option ℕ). is_some o) e))) behind }

inputs_apart : (ss : List Statement) → HaveNamesApart ss → AreNamedApart (inputs_of ss)
inputs_apart [] names = record { apart = λ i j x y first second same. cc }
inputs_apart (s ∷ ss) names = apart_behind s ss (owner_of s.shape) refl names (inputs_apart ss (names_behind s ss names))

pub circuit_inputs_apart : (c : Circuit) (table : List Input) → IsCircuit c → table ≡ inputs_of c.statements → AreNamedApart table
circuit_inputs_apart c table circuit e = subst (λ (inputs : List Input). AreNamedApart inputs) (sym e) (inputs_apart c.statements (circuit_names c circuit))

-- ---- the two tables

abbrev pub InputsTo : List Statement → List Input → ℕ → Type 0
InputsTo ss table at = AreListedTo Input (λ s. input_entry s (owner_of s.shape)) inputs_of refl (λ s ss. refl) ss table at

pub inputs_next : (ss : List Statement) (table after : List Input) (at : ℕ) → at < length ss → IfSome (slice_get ss at) (λ s. after ≡ table ++ input_entry s (owner_of s.shape)) → length after ≤ length table + 1 → InputsTo ss table at → InputsTo ss after (at + 1)
inputs_next ss table after at within added one to = listed_next Input (λ s. input_entry s (owner_of s.shape)) inputs_of refl (λ s ss. refl) ss table after at _ refl within added one to

pub inputs_all : (ss : List Statement) (table : List Input) (at : ℕ) → length ss ≤ at → InputsTo ss table at → table ≡ inputs_of ss
inputs_all ss table at past to = listed_all Input (λ s. input_entry s (owner_of s.shape)) inputs_of refl (λ s ss. refl) ss table at past to

abbrev pub OutputsTo : List Statement → List Output → ℕ → Type 0
OutputsTo all table at = AreListedTo Output (output_entry all) (outputs_among all) refl (λ s ss. refl) all table at

pub outputs_next : (all : List Statement) (table after : List Output) (at : ℕ) → at < length all → IfSome (slice_get all at) (λ s. after ≡ table ++ output_entry all s) → length after ≤ length table + 1 → OutputsTo all table at → OutputsTo all after (at + 1)
outputs_next all table after at within added one to = listed_next Output (output_entry all) (outputs_among all) refl (λ s ss. refl) all table after at _ refl within added one to

pub outputs_all : (all : List Statement) (table : List Output) (at : ℕ) → length all ≤ at → OutputsTo all table at → table ≡ outputs_among all all
outputs_all all table at past to = listed_all Output (output_entry all) (outputs_among all) refl (λ s ss. refl) all table at past to

-- ---- what a circuit tells

abbrev pub ToldTo : List ℕ → List Statement → List Told → ℕ → Type 0
ToldTo values all told at = AreListedTo Told (told_by all values) (told_among all values) refl (λ s ss. refl) all told at

pub told_next : (values : List ℕ) (all : List Statement) (told after : List Told) (at : ℕ) → at < length all → IfSome (slice_get all at) (λ s. after ≡ told ++ told_by all values s) → length after ≤ length told + 1 → ToldTo values all told at → ToldTo values all after (at + 1)
told_next values all told after at within added one to = listed_next Told (told_by all values) (told_among all values) refl (λ s ss. refl) all told after at _ refl within added one to

pub told_all : (values : List ℕ) (all : List Statement) (told : List Told) (at : ℕ) → length all ≤ at → ToldTo values all told at → told ≡ told_among all values all
told_all values all told at past to = listed_all Told (told_by all values) (told_among all values) refl (λ s ss. refl) all told at past to

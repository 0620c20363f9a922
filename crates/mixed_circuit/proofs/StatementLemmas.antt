-- What a line says may stand behind the statements before it.
use Rattle.std.proofs.Common.{ℕ, zero, suc, ◌≡◌, ◌<◌, Bool, true, false, not, ◌&&◌, ◌||◌, ◌==◌, cond, List, [], ◌∷◌, length, Option, Some, None, Ok, refl, sym, ◌∙◌, ap, subst, arith}
use Rattle.std.specs.Prelude.{slice_get, IfSome, option_map, is_none}
use Rattle.std.specs.List.{list_all}
use Rattle.std.specs.Option.{unwrap_or}
use Rattle.std.proofs.lemmas.Bool.{ltb-true, eqb-true}
use Rattle.mot_base.proofs.Lists.{same_some, implied_true as implied}
use Rattle.share_types.specs.declared.sharing.Sharing.{Sharing}
use Rattle.share_types.specs.Wires.{sharing_of, is_shared, wire_type}
use Rattle.mixed_language.specs.declared.language.Domain.{Domain}
use Rattle.mixed_language.specs.declared.language.Operation.{Operation}
use Rattle.mixed_language.specs.declared.operand.Operand.{Operand}
use Rattle.mixed_language.specs.Language.{domain_of, is_in, gives, states, is_name_slot, is_letter_slot, arity_of}
use Rattle.mixed_language.specs.Circuit.{Circuit, Statement, wire_at, place_of}
use Rattle.mixed_language.specs.Valid.{IsStatement, IsNewName}
use Rattle.mixed_language.proofs.RowLemmas.{each_operation}
use Rattle.mixed_circuit.specs.Line.{Parts, operand_of, operands_of, sharing_given, is_party, is_new, said}
use Rattle.mixed_circuit.specs.Stated.{AreWhole, IsSomeName}
use Rattle.mixed_circuit.proofs.SaysLemmas.{SaidBy, said-by, sharing_in_domain, operands_count, then_operand}
use Rattle.mixed_circuit.proofs.EarlierLemmas.{operand_found}
use Rattle.text_lines.specs.Text.{Text}

-- a line with a letter names no operand
abbrev has_no_operand_where_letter : Operation → Bool
has_no_operand_where_letter operation = not (states is_letter_slot operation) || arity_of operation == 0

pub lettered : (operation : Operation) → states is_letter_slot operation ≡ true → arity_of operation ≡ 0
lettered operation stated =
    eqb-true _ _ (implied (states is_letter_slot operation) (arity_of operation == 0)
    (each_operation has_no_operand_where_letter refl operation) stated)

all_there : (before : List Statement) (names : List Text) (xs : List Operand) → operands_of before names ≡ Some xs →
    (i : ℕ) (x : Operand) → slice_get xs i ≡ Some x → wire_at before x.at ≡ Some x.wire
all_there before [] xs h i x e =
    let none : [] ≡ xs = same_some _ _ h in
    let contrary = ap (λ ys. slice_get ys i) none ∙ e in
    cc
all_there before (name ∷ names) xs h i x e =
    let parts = then_operand (operand_of before name) (operands_of before names) xs h in
    at i parts.0 parts.1 (operand_found before name parts.0 parts.2).wire (all_there before names parts.1 parts.3)
    (ap (λ ys. slice_get ys i) (sym parts.4) ∙ e)
  where
    at : (i : ℕ) (y : Operand) (ys : List Operand) → wire_at before y.at ≡ Some y.wire →
        ((j : ℕ) (u : Operand) → slice_get ys j ≡ Some u → wire_at before u.at ≡ Some u.wire) →
        slice_get (y ∷ ys) i ≡ Some x → wire_at before x.at ≡ Some x.wire
    at zero y ys first rest e = subst (λ (u : Operand). wire_at before u.at ≡ Some u.wire) (same_some y x e) first
    at (suc j) y ys first rest e = rest j x e

all_get : (test : Operand → Bool) (xs : List Operand) → list_all test xs ≡ true → (i : ℕ) (x : Operand) →
    slice_get xs i ≡ Some x → test x ≡ true
all_get test [] h i x e = cc
all_get test (y ∷ ys) h zero x e = ap test (sym (same_some y x e)) ∙ first (test y) (list_all test ys) h
  where
    first : (a b : Bool) → (a && b) ≡ true → a ≡ true
    first true b h = refl
    first false b h = cc
all_get test (y ∷ ys) h (suc i) x e = all_get test ys (rest (test y) (list_all test ys) h) i x e
  where
    rest : (a b : Bool) → (a && b) ≡ true → b ≡ true
    rest true b h = h
    rest false b h = cc

-- where the line has no letter, all operands are shared alike
all_shared : (xs : List Operand) (sharing : Sharing) (domain : Domain) → sharing_given domain None xs ≡ Some sharing →
    (i : ℕ) (x : Operand) → slice_get xs i ≡ Some x → is_shared sharing x.wire ≡ true
all_shared [] sharing domain h i x e = cc
all_shared (y ∷ ys) sharing domain h i x e =
    chosen (is_in domain (sharing_of y.wire)) (list_all (λ z. is_shared (sharing_of y.wire) z.wire) (y ∷ ys)) refl h
  where
    chosen : (a b : Bool) → list_all (λ z. is_shared (sharing_of y.wire) z.wire) (y ∷ ys) ≡ b →
        cond (a && b) (Some (sharing_of y.wire)) None ≡ Some sharing → is_shared sharing x.wire ≡ true
    chosen true true t h =
        subst (λ given. is_shared given x.wire ≡ true) (same_some _ _ h)
        (all_get (λ z. is_shared (sharing_of y.wire) z.wire) (y ∷ ys) t i x e)
    chosen true false t h = cc
    chosen false b t h = cc

some_party : (parties : ℕ) (o : Option ℕ) → is_party parties o ≡ true → IfSome o (λ party. party < parties)
some_party parties None h = tt
some_party parties (Some party) h = ltb-true party parties h

-- what is there where a name is stated
named_some : {X : Type 0} (name : Option Text) (b : Bool) (given : X) → (b ≡ true → IsSomeName name) →
    (b ≡ false → name ≡ None) → option_map (λ n. given) name ≡ cond b (Some given) None
named_some None true given some none = absurd (some refl)
named_some (Some name) true given some none = refl
named_some None false given some none = refl
named_some (Some name) false given some none = let contrary = none refl in cc

none_there : (o : Option ℕ) → is_none o ≡ true → o ≡ None
none_there None h = refl
none_there (Some at) h = cc

new_name : (before : List Statement) (o : Option Text) → IsSomeName o → is_new before o ≡ true →
    IsNewName before (unwrap_or o [])
new_name before None named new = absurd named
new_name before (Some name) named new = record { named = named; new = none_there (place_of before name) new }

-- what parts mean may stand there
module _ (c : Circuit) (words : List Text) (s : Statement) (by : SaidBy c words s) where
  abbrev parts : Parts
  parts = by.parts

  abbrev whole : AreWhole parts
  whole = by.stated.whole

  count : length by.means.operands ≡ arity_of parts.operation
  count = operands_count c.statements parts.operands by.means.operands by.means.found ∙ whole.arity

  empty_shared : (xs : List Operand) (i : ℕ) (x : Operand) → length xs ≡ 0 → slice_get xs i ≡ Some x →
      is_shared by.means.sharing x.wire ≡ true
  empty_shared [] i x h e = cc
  empty_shared (y ∷ ys) i x h e = absurd (omega (arith, h))

  shared_by : (b : Bool) → states is_letter_slot parts.operation ≡ b → (i : ℕ) (x : Operand) →
      slice_get by.means.operands i ≡ Some x → is_shared by.means.sharing x.wire ≡ true
  shared_by true e i x there = empty_shared by.means.operands i x (count ∙ lettered parts.operation e) there
  shared_by false e i x there =
      all_shared by.means.operands by.means.sharing (domain_of parts.operation)
      (ap (λ o. sharing_given (domain_of parts.operation) o by.means.operands) (sym (whole.no_letter e))
      ∙ by.means.shared) i x there

  pub means_statement : IsStatement c.parties c.statements s
  means_statement =
      subst (IsStatement c.parties c.statements) (sym by.means.is) (record {
        sharing = by.means.sharing;
        operands = by.means.operands;
        width = by.means.width;
        places = refl;
        arity = count;
        domain = sharing_in_domain parts by.means.operands by.means.sharing whole by.means.shared;
        uses = record {
          found = all_there c.statements parts.operands by.means.operands by.means.found;
          shared = shared_by (states is_letter_slot parts.operation) refl;
        };
        wide = by.means.wide;
        wire = named_some parts.name (states is_name_slot parts.operation)
            (wire_type (gives parts.operation by.means.sharing) by.means.width) whole.named whole.unnamed;
        given = named_some parts.name (states is_name_slot parts.operation) (gives parts.operation by.means.sharing)
            whole.named whole.unnamed;
        name = λ stated. new_name c.statements parts.name (whole.named stated) by.means.new;
        no_name = λ none. ap (λ (o : Option Text). unwrap_or o []) (whole.unnamed none);
        numbers = record {
          owner = whole.owner;
          no_party = whole.no_party;
          party = some_party c.parties parts.party by.means.party;
          no_width = whole.no_width;
          some_width = whole.some_width;
          in_width = whole.in_most;
          no_place = whole.no_place;
          in_place = whole.most_place;
          no_constant = whole.no_constant;
          fits = whole.fits;
        };
      })

pub said_statement : (c : Circuit) (words : List Text) (s : Statement) → said c words ≡ Ok s →
    IsStatement c.parties c.statements s
said_statement c words s h = means_statement c words s (said-by c words s h)

-- The loop that reads what the options of a line say, over the values that `clap` found.
use Rattle.std.proofs.Common.{◌≡◌, ℕ, ◌<◌, ◌+◌, Bool, true, false, ◌||◌, List, [], ◌∷◌, ◌++◌, length, take, get_or, Some, None, Option, option_map, cond, refl, sym, ◌∙◌, ap}
use Rattle.std.specs.List.{list_any}
use Rattle.std.specs.Option.{option_or}
use Rattle.std.proofs.lemmas.List.{take_more}
use Rattle.std.proofs.lemmas.List.Folds.{list_any-append}
use Rattle.mot_base.proofs.Lists.{or_false, option_or_none, same_some}
use Rattle.text_lines.specs.Text.{Text}
use Rattle.cli_words.specs.Table.{Meaning, is_same}
use Rattle.cli_words.specs.Filled.{meaning_in, chosen, kept, option_found, AreFound}
use Rattle.cli_words.specs.declared.table.OptionName.{OptionName}
use Rattle.cli_words.specs.declared.fill.Value.{Value}
use Rattle.cli_words.specs.declared.fill.Chosen.{Chosen}
use Rattle.cli_words.proofs.Options.{same_option}

-- options behind options: the first of a name counts
chosen_behind : (cs ds : List Chosen) (o : OptionName) → chosen (cs ++ ds) o ≡ option_or (chosen cs o) (chosen ds o)
chosen_behind [] ds o = refl
chosen_behind (c ∷ cs) ds o = go (is_same o c.option) (chosen_behind cs ds o)
  where
    go : (b : Bool) → chosen (cs ++ ds) o ≡ option_or (chosen cs o) (chosen ds o)
        → cond b (Some (meaning_in c.value)) (chosen (cs ++ ds) o) ≡ option_or (cond b (Some (meaning_in c.value)) (chosen cs o)) (chosen ds o)
    go true e = refl
    go false e = e

either_way : {X : Type 0} (b : Bool) (x : X) → x ≡ cond b x x
either_way true x = refl
either_way false x = refl

kept_says : (p : OptionName) (v : Option Value) (o : OptionName) → chosen (kept p v) o ≡ cond (is_same o p) (option_map meaning_in v) None
kept_says p None o = either_way (is_same o p) None
kept_says p (Some v) o = refl

-- what one more option says is what the whole says
one_more : (f : Text → Option Text) (p o : OptionName) (before : Bool) (same : Bool) (said : Option Meaning) (m : Option Meaning)
    → (before ≡ true → option_found f o ≡ Some said) → (before ≡ false → said ≡ None) → (same ≡ true → o ≡ p)
    → option_found f p ≡ Some m → (before || same) ≡ true → option_found f o ≡ Some (option_or said (cond same m None))
one_more f p o true true (Some s) m there others is found e = there refl
one_more f p o true true None m there others is found e =
    let again : option_found f o ≡ Some m = ap (option_found f) (is refl) ∙ found in
    let none : None ≡ m = same_some None m (sym (there refl) ∙ again) in
    again
one_more f p o true false said m there others is found e = there refl ∙ ap (λ x. Some x) (sym (option_or_none said))
one_more f p o false true said m there others is found e =
    let none : said ≡ None = others refl in
    let again : option_found f o ≡ Some m = ap (option_found f) (is refl) ∙ found in
    again ∙ ap (λ x. Some (option_or x m)) (sym none)
one_more f p o false false said m there others is found e = cc

no_more : (before same : Bool) (said m : Option Meaning) → (before ≡ false → said ≡ None) → (before || same) ≡ false
    → option_or said (cond same m None) ≡ None
no_more true same said m others e = cc
no_more false true said m others e = cc
no_more false false said m others e = option_or_none said ∙ others refl

pub option_next : (f : Text → Option Text) (row : List OptionName) (at : ℕ) (d : OptionName) (old : List Chosen) (v : Option Value)
    → at < length row → AreFound f (take at row) (chosen old) → option_found f (get_or row at d) ≡ Some (option_map meaning_in v)
    → AreFound f (take (at + 1) row) (chosen (old ++ kept (get_or row at d) v))
option_next f row at d old v within h found =
    let p = get_or row at d in
    let among : (o : OptionName) → list_any (is_same o) (take (at + 1) row) ≡ (list_any (is_same o) (take at row) || is_same o p) =
    λ o. ap (list_any (is_same o)) (take_more row at d within) ∙ list_any-append (is_same o) (take at row) (p ∷ [])
    ∙ ap (λ b. list_any (is_same o) (take at row) || b) (or_false (is_same o p)) in
    let says : (o : OptionName) → chosen (old ++ kept p v) o ≡ option_or (chosen old o) (cond (is_same o p) (option_map meaning_in v) None) =
    λ o. chosen_behind old (kept p v) o ∙ ap (option_or (chosen old o)) (kept_says p v o) in
    record {
      there = λ o e. one_more f p o (list_any (is_same o) (take at row)) (is_same o p) (chosen old o) (option_map meaning_in v)
          (h.there o) (h.others o) (same_option o p) found (sym (among o) ∙ e) ∙ ap (λ x. Some x) (sym (says o));
      others = λ o e. says o ∙ no_more (list_any (is_same o) (take at row)) (is_same o p) (chosen old o) (option_map meaning_in v)
          (h.others o) (sym (among o) ∙ e);
    }

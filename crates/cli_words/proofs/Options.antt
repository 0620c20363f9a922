-- The options of the table: each has a name of its own.
use Rattle.std.proofs.Common.{◌≡◌, Bool, true, false, ◌||◌, List, [], ◌∷◌, Some, cond, refl, sym, ◌∙◌, ap}
use Rattle.std.specs.Prelude.{bytes_eq, find}
use Rattle.std.specs.List.{list_any}
use Rattle.std.proofs.lemmas.Slice.Eq.{bytes_eq-Decides}
use Rattle.mot_base.proofs.Lists.{same_some}
use Rattle.cli_words.specs.Table.{options, option_name, is_same}
use Rattle.cli_words.specs.declared.table.OptionName.{OptionName}
use Rattle.cli_words.specs.declared.table.OptionName.TheVariants.{As, Parties, Dealer, Workers}

-- each option stands in the table, the first of its name
option_at : (o : OptionName) → find (is_same o) options ≡ Some o
option_at As = refl
option_at Parties = refl
option_at Dealer = refl
option_at Workers = refl

pub same_option : (a b : OptionName) → is_same a b ≡ true → a ≡ b
same_option a b same =
    let named = (bytes_eq-Decides (option_name a) (option_name b)).0 same in
    same_some a b (sym (option_at a) ∙ ap (λ name. find (λ o. bytes_eq name (option_name o)) options) named ∙ option_at b)

pub same_self : (o : OptionName) → is_same o o ≡ true
same_self o = (bytes_eq-Decides (option_name o) (option_name o)).1 refl

-- what is found stands in the list
pub found_any : {X : Type 0} (p : X → Bool) (xs : List X) (x : X) → find p xs ≡ Some x → list_any p xs ≡ true
found_any p [] x h = cc
found_any p (y ∷ ys) x h = go (p y) (found_any p ys x) h
  where
    go : (b : Bool) → (find p ys ≡ Some x → list_any p ys ≡ true) → cond b (Some y) (find p ys) ≡ Some x → (b || list_any p ys) ≡ true
    go true more h = refl
    go false more h = more h

pub listed : (o : OptionName) → list_any (is_same o) options ≡ true
listed o = found_any (is_same o) options o (option_at o)

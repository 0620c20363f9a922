-- How files are stored one after another.
use Rattle.std.proofs.Common.{ℕ, ◌≡◌, ◌≢◌, ◌≤◌, ◌+◌, ◌⊎◌, inl, inr, Bool, true, false, List, [], ◌∷◌, ◌++◌, length, take, map, Option, Some, None, refl, sym, ◌∙◌, ap, subst, arith}
use Rattle.std.specs.Prelude.{codes, slice_get, option_map, if◌then◌else◌, bytes_eq}
use Rattle.std.proofs.lemmas.List.{append-nil, map-append, take-map}
use Rattle.std.proofs.lemmas.Option.{slice_get-map, slice_get_past}
use Rattle.std.proofs.lemmas.Slice.Eq.{bytes_eq-Decides}
use Rattle.mot_base.specs.Faults.{Rose}
use Rattle.mot_base.specs.Files.{Holding, HoldsUnder, OthersStay}
use Rattle.mot_base.proofs.Lists.{take_next}
use Rattle.text_lines.specs.Text.{Text}
use Rattle.command_ends.specs.Coming.{Came, IsStopped}
use Rattle.command_ends.specs.Ending.{AreLeft, AreFirst, after_stores}
use Rattle.command_ends.specs.Outcome.{Outcome, file_refused, memory}

-- What names hold after stores.

after_same : (h k : Holding) (files : List (Text × Text)) → ((n : Text) → h n ≡ k n) → (name : Text) →
    after_stores h files name ≡ after_stores k files name
after_same h k [] same name = same name
after_same h k (s ∷ more) same name =
    after_same (λ n. if bytes_eq n s.0 then Some s.1 else h n) (λ n. if bytes_eq n s.0 then Some s.1 else k n) more
    (λ n. ap (λ (o : Option Text). if bytes_eq n s.0 then Some s.1 else o) (same n)) name

after_append : (h : Holding) (xs ys : List (Text × Text)) (name : Text) →
    after_stores (after_stores h xs) ys name ≡ after_stores h (xs ++ ys) name
after_append h [] ys name = after_same (after_stores h []) h ys (λ n. refl) name
after_append h (s ∷ xs) ys name =
    let stored : Holding = λ n. if bytes_eq n s.0 then Some s.1 else h n in
    after_same (after_stores h (s ∷ xs)) (after_stores stored xs) ys (λ n. refl) name ∙ after_append stored xs ys name

-- nothing was done
pub left_alone : (held : Option Holding) (torn : Option Text) → AreLeft held held [] torn
left_alone None torn = tt
left_alone (Some held) torn = λ name kept. refl

pub left_same : (before after : Option Holding) (torn : Option Text) → after ≡ before → AreLeft before after [] torn
left_same before after torn same = subst (λ now. AreLeft before now [] torn) (sym same) (left_alone before torn)

-- one after another
pub left_append : (before mid after : Option Holding) (xs ys : List (Text × Text)) (torn : Option Text) →
    AreLeft before mid xs None → AreLeft mid after ys torn → AreLeft before after (xs ++ ys) torn
left_append None mid after xs ys torn first second = tt
left_append (Some held) None after xs ys torn first second = absurd first
left_append (Some held) (Some mid) None xs ys torn first second = absurd second
left_append (Some held) (Some mid) (Some now) xs ys torn first second = λ name kept.
    second name kept
    ∙ (after_same mid (after_stores held xs) ys (λ n. first n (λ e. let no : Some n ≡ None = e in cc)) name
    ∙ after_append held xs ys name)

not_same : (n name : Text) → bytes_eq n name ≡ false → n ≢ name
not_same n name differ = λ e.
    (let same = (bytes_eq-Decides n name).1 in
    let no : true ≡ false = sym (same e) ∙ differ in cc)

-- a store put the content under the name
pub left_stored : (before after : Option Holding) (name content : Text) → HoldsUnder after name content →
    OthersStay before after name → AreLeft before after ((name, content) ∷ []) None
left_stored None after name content under others = tt
left_stored (Some held) None name content under others = absurd others
left_stored (Some held) (Some now) name content under others = λ n kept. either n (bytes_eq n name) refl
  where
    either : (n : Text) (b : Bool) → bytes_eq n name ≡ b → now n ≡ (if b then Some content else held n)
    either n true same = ap now ((bytes_eq-Decides n name).0 same) ∙ under
    either n false differ = others n (not_same n name differ)

-- a store was refused
pub left_torn : (before after : Option Holding) (name : Text) → OthersStay before after name → AreLeft before after [] (Some name)
left_torn None after name others = tt
left_torn (Some held) None name others = absurd others
left_torn (Some held) (Some now) name others = λ n kept. others n (λ e. kept (ap (λ (x : Text). Some x) e))

-- The stores of a list.

-- one file more is stored
pub stored_next : {X : Type 0} (f : X → Text × Text) (xs : List X) (at : ℕ) (x : X) (before mid after : Option Holding) →
    slice_get xs at ≡ Some x → AreLeft before mid (map f (take at xs)) None → AreLeft mid after (f x ∷ []) None →
    AreLeft before after (map f (take (at + 1) xs)) None
stored_next f xs at x before mid after there first second =
    let whole : map f (take (at + 1) xs) ≡ map f (take at xs) ++ (f x ∷ []) =
    ap (map f) (take_next xs at x there) ∙ map-append f (take at xs) (x ∷ []) in
    subst (λ files. AreLeft before after files None) (sym whole)
    (left_append before mid after (map f (take at xs)) (f x ∷ []) None first second)

-- the store of the next file was refused
pub stopped_at : {X : Type 0} (f : X → Text × Text) (xs : List X) (at : ℕ) (x : X) (rose : Type 0) (before mid after : Option Holding)
    (said : Outcome) → slice_get xs at ≡ Some x → AreLeft before mid (map f (take at xs)) None → AreLeft mid after [] (Some (f x).0) →
    (rose × (said ≡ file_refused (f x).0 (codes "fault"))) ⊎ (said ≡ memory) → IsStopped rose (map f xs) before after said
stopped_at f xs at x rose before mid after said there first second cause =
    let same : map f (take at xs) ++ [] ≡ take at (map f xs) = append-nil (map f (take at xs)) ∙ sym (take-map f at xs) in
    record {
      at = at;
      file = f x;
      there = slice_get-map f xs at ∙ ap (option_map f) there;
      left = subst (λ files. AreLeft before after files (Some (f x).0)) same
          (left_append before mid after (map f (take at xs)) [] (Some (f x).0) first second);
      cause = cause;
    }

pub all_first : (files : List (Text × Text)) → AreFirst files files None
all_first files = inr (length files, sym (all files), sym (ap (option_map (λ (f : Text × Text). f.0)) (slice_get_past files (length files) (omega arith))))
  where
    all : (xs : List (Text × Text)) → take (length xs) xs ≡ xs
    all [] = refl
    all (x ∷ xs) = ap (λ zs. x ∷ zs) (all xs)

pub came_before : (ends : Outcome → Type 0) (files : List (Text × Text)) (before after : Option Holding) (said : Outcome) →
    after ≡ before → said ≡ memory → Came ends files before after said
came_before ends files before after said same e = record {
  stored = [];
  torn = None;
  cause = inr e;
  some = inl (refl, refl);
  left = left_same before after None same;
}

-- a count that rose since a later moment rose since an earlier one
pub rose_since : (early late now : ℕ) → early ≤ late → Rose late now → Rose early now
rose_since early late now h rose = omega (arith, h, rose)

pub cause_since : {A B : Type 0} (early late now : ℕ) → early ≤ late → (Rose late now × A) ⊎ B → (Rose early now × A) ⊎ B
cause_since early late now h (inl failed) = inl (rose_since early late now h failed.0, failed.1)
cause_since early late now h (inr other) = inr other

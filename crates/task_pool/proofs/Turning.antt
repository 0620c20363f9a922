-- An item is turned: the values on the edges to it are taken, and those on the edges from it are put.
use Rattle.std.proofs.Common.{◌≡◌, ◌≢◌, ℕ, zero, suc, ◌<◌, true, false, List, length, get_or, map, replicate, Option, Some, None, refl, sym, ap, ◌∙◌, subst, arith, ⊎_elim}
use Rattle.std.proofs.lemmas.Bool.{cases_eq, false≢true}
use Rattle.std.proofs.lemmas.List.{get_or-set_same, get_or-set_other, get_or_past, get_or_default}
use Rattle.turn_core.specs.declared.edge.TheConstants.{OUTSIDE, TERMINAL}
use Rattle.turn_core.specs.Graph.{Graph, IsSound, source, target, incoming, outgoing}
use Rattle.turn_core.specs.Core.{Flags, IsIn, IsOut, with_one, HasInputs, at_start, IsSettled}
use Rattle.turn_core.specs.Listings.{IsListOf}
use Rattle.turn_core.proofs.Listed.{edges_listed}
use Rattle.task_pool.specs.Meanings.{AreMeanings, HasNoOutside}
use Rattle.task_pool.specs.Held.{HasMeaning, in_slots, AreDistinct, AreBelow, AreFull, OthersStay, IsHeld}
use Rattle.task_pool.proofs.Moves.{meanings-from, meanings-to}

-- ---- lists of edges

pub list_distinct : (bound : ℕ) (Holds : ℕ → Type 0) (list : List ℕ) → IsListOf bound Holds list → AreDistinct list
list_distinct bound Holds list is i j less within same = let rises = is.rising i j less within in absurd (omega (arith, rises, same))

pub in_distinct : (g : Graph) (k : ℕ) → AreDistinct (incoming g k)
in_distinct g k = list_distinct (length g.edges) (λ e. target g e ≡ k) (incoming g k) (edges_listed g k).1

pub out_distinct : (g : Graph) (k : ℕ) → AreDistinct (outgoing g k)
out_distinct g k = list_distinct (length g.edges) (λ e. source g e ≡ k) (outgoing g k) (edges_listed g k).0

pub in_below : (g : Graph) (k : ℕ) → AreBelow (length g.edges) (incoming g k)
in_below g k = (edges_listed g k).1.within

pub out_below : (g : Graph) (k : ℕ) → AreBelow (length g.edges) (outgoing g k)
out_below g k = (edges_listed g k).0.within

-- ---- one item

-- each edge to the item has its meaning in its slot
abbrev pub AreReady : {E : Type 0} → (ℕ → E → Type 0) → Graph → ℕ → List (Option E) → Type 0
AreReady means g item slots = (e : ℕ) → e < length g.edges → target g e ≡ item → HasMeaning means e (get_or slots e None)

pub ready_at : {E : Type 0} (means : ℕ → E → Type 0) (g : Graph) (item : ℕ) (slots : List (Option E)) → AreReady means g item slots → (i : ℕ) → i < length (incoming g item) → HasMeaning means (get_or (incoming g item) i 0) (get_or slots (get_or (incoming g item) i 0) None)
ready_at means g item slots ready i within =
    let list = (edges_listed g item).1 in
    ready (get_or (incoming g item) i 0) (list.within i within) (list.each i within)

not_none : {E : Type 0} (means : ℕ → E → Type 0) (e : ℕ) (slot : Option E) → HasMeaning means e slot → slot ≢ None
not_none means e None has same = has
not_none means e (Some v) has same = cc

pub ready_full : {E : Type 0} (means : ℕ → E → Type 0) (g : Graph) (item : ℕ) (slots : List (Option E)) → AreReady means g item slots → AreFull slots (incoming g item)
ready_full means g item slots ready i within = not_none means (get_or (incoming g item) i 0) _ (ready_at means g item slots ready i within)

pub inputs_are : {E : Type 0} (means : ℕ → E → Type 0) (g : Graph) (item : ℕ) (slots : List (Option E)) (values : List E) → AreReady means g item slots → in_slots slots (incoming g item) ≡ map Some values → AreMeanings means (incoming g item) values
inputs_are means g item slots values ready taken = meanings-from means slots (incoming g item) values taken (ready_at means g item slots ready)

-- what was put is there
pub outputs_are : {E : Type 0} (means : ℕ → E → Type 0) (g : Graph) (item : ℕ) (slots : List (Option E)) (values : List E) → AreMeanings means (outgoing g item) values → in_slots slots (outgoing g item) ≡ map Some values → (e : ℕ) → e < length g.edges → source g e ≡ item → HasMeaning means e (get_or slots e None)
outputs_are means g item slots values are put e within from =
    let stands = (edges_listed g item).0.all e within from in
    subst (λ (n : ℕ). HasMeaning means n (get_or slots n None)) (get_or_default (outgoing g item) stands.0 0 e stands.1 ∙ stands.2) (meanings-to means slots (outgoing g item) values put are stands.0 stands.1)

-- all other slots are as they were
pub others_stay : {E : Type 0} (g : Graph) (item : ℕ) (old mid new : List (Option E)) → OthersStay (incoming g item) old mid → OthersStay (outgoing g item) mid new → (e : ℕ) → source g e ≢ item → target g e ≢ item → get_or new e None ≡ get_or old e None
others_stay g item old mid new taken put e from into =
    put e (λ i within same. from (subst (λ (n : ℕ). source g n ≡ item) same ((edges_listed g item).0.each i within)))
    ∙ taken e (λ i within same. into (subst (λ (n : ℕ). target g n ≡ item) same ((edges_listed g item).1.each i within)))

-- ---- from turn to turn

-- before a turn the item is ready
pub held-ready : {E : Type 0} (means : ℕ → E → Type 0) (g : Graph) (turned : Flags) (slots : List (Option E)) (item : ℕ) → HasNoOutside g → IsHeld means g turned slots → IsOut turned item → HasInputs g turned item → AreReady means g item slots
held-ready means g turned slots item inside held new inputs e within into =
    ⊎_elim
    (λ (out : source g e ≡ OUTSIDE). absurd (inside e within out))
    (λ (from : IsIn turned (source g e)). held e within from (subst (λ (n : ℕ). IsOut turned n) (sym into) new))
    (inputs e within into)

-- after it the values from it are there, and those to other items still
pub held-more : {E : Type 0} (means : ℕ → E → Type 0) (g : Graph) (turned : Flags) (old new : List (Option E)) (item : ℕ) → item < length turned → IsHeld means g turned old → ((e : ℕ) → e < length g.edges → source g e ≡ item → HasMeaning means e (get_or new e None)) → ((e : ℕ) → e < length g.edges → source g e ≢ item → target g e ≢ item → get_or new e None ≡ get_or old e None) → IsHeld means g (with_one turned item) new
held-more means g turned old new item is_item held outputs others e within from into =
    let open_end : target g e ≢ item = λ same.
    false≢true (sym into ∙ ap (λ (n : ℕ). get_or (with_one turned item) n false) same ∙ get_or-set_same turned item true false is_item) in
    ⊎_elim
    (λ (same : source g e ≡ item). outputs e within same)
    (λ (other : source g e ≢ item).
    let was_in : IsIn turned (source g e) = sym (get_or-set_other turned item (source g e) true false other) ∙ from in
    let was_out : IsOut turned (target g e) = sym (get_or-set_other turned item (target g e) true false open_end) ∙ into in
    subst (λ o. HasMeaning means e o) (sym (others e within other open_end)) (held e within was_in was_out))
    (cases_eq (source g e) item)

-- at the end the values on the edges that end at no item are there
pub held-ends : {E : Type 0} (means : ℕ → E → Type 0) (g : Graph) (turned : Flags) (slots : List (Option E)) → IsSound g → HasNoOutside g → length turned ≡ g.items → IsHeld means g turned slots → ((k : ℕ) → k < g.items → IsIn turned k) → AreReady means g TERMINAL slots
held-ends means g turned slots sound inside many held all e within into =
    ⊎_elim
    (λ (item : source g e < g.items).
    let past : IsOut turned TERMINAL = get_or_past turned TERMINAL false (omega (arith, many, sound.items_fit)) in
    held e within (all (source g e) item) (subst (λ (n : ℕ). IsOut turned n) (sym into) past))
    (λ (out : source g e ≡ OUTSIDE). absurd (inside e within out))
    (sound.sources_known e within)

-- ---- a graph of which no item was handed out

down : (n k : ℕ) → get_or (replicate n false) k false ≡ false
down zero k = refl
down (suc n) zero = refl
down (suc n) (suc k) = down n k

-- where no edge comes from outside, nothing is to be marked at the start
pub settled_at_start : (g : Graph) → HasNoOutside g → IsSettled (at_start g)
settled_at_start g inside e within from =
    ⊎_elim
    (λ (out : source g e ≡ OUTSIDE). absurd (inside e within out))
    (λ (handed : IsIn (replicate g.items false) (source g e)). absurd (false≢true (sym (down g.items (source g e)) ∙ handed)))
    from

-- all items of a graph were turned, in other words
pub all_turned : (seen dag : Graph) (told turned : Flags) → dag ≡ seen → turned ≡ told → ((k : ℕ) → k < seen.items → IsIn told k) → (k : ℕ) → k < dag.items → IsIn turned k
all_turned seen dag told turned same_graph same_flags all k within =
    let here = all k (subst (λ (x : Graph). k < x.items) same_graph within) in
    subst (λ (s : Flags). IsIn s k) (sym same_flags) here

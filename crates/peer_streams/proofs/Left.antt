-- What links have left behind what was taken of them.
use Rattle.std.proofs.Common.{◌≡◌, ◌∙◌, ℕ, List, [], ◌++◌, append_assoc, Option, Some, None, refl, sym, ap, subst}
use Rattle.mot_base.specs.Links.{ByParty, IsKept, IsCutOff}
use Rattle.peer_streams.specs.Taking.{AreTaken, IsLeftOf}
use Rattle.peer_streams.proofs.Taken.{more, taken-more, taken-kept}

abbrev nothing : ByParty
nothing q = []

all-left : (left : ByParty) → AreTaken left (Some left) nothing
all-left left = (left, refl, λ q. refl)

pub left-kept : (before after : Option ByParty) → IsKept before after → IsLeftOf before after
left-kept None after kept = tt
left-kept (Some left) after kept = (nothing, taken-kept left (Some left) after nothing (all-left left) kept)

pub left-cut : (before after : Option ByParty) (q : ℕ) (piece : List ℕ) → IsCutOff before after q piece → IsLeftOf before after
left-cut None after q piece cut = tt
left-cut (Some left) after q piece cut = (more nothing q piece, taken-more left (Some left) after nothing q piece (all-left left) cut)

-- what was taken, and then more of what was left
pub taken-then : (before : ByParty) (told after : Option ByParty) (taken : ByParty) → AreTaken before told taken → IsLeftOf told after → (extra : ByParty) × AreTaken before after (λ q. taken q ++ extra q)
taken-then before told after taken (left, is, each) on = by left (subst (λ (t : Option ByParty). IsLeftOf t after) is on) each
  where
    by : (left : ByParty) → IsLeftOf (Some left) after → ((q : ℕ) → before q ≡ taken q ++ left q) → (extra : ByParty) × AreTaken before after (λ q. taken q ++ extra q)
    by left (extra, are) each =
        (extra, (are.0, are.1, λ q. each q ∙ ap (λ xs. taken q ++ xs) (are.2 q) ∙ sym (append_assoc (taken q) (extra q) (are.0 q))))

pub left-same : (told : Option ByParty) → IsLeftOf told told
left-same None = tt
left-same (Some left) = (nothing, all-left left)

pub left-then : (before told after : Option ByParty) → IsLeftOf before told → IsLeftOf told after → IsLeftOf before after
left-then None told after left on = tt
left-then (Some before) told after (taken, are) on = let both = taken-then before told after taken are on in (λ q. taken q ++ both.0 q, both.1)

use Rattle.std.proofs.Common.{ℕ, List, Some, Option, sym, ◌∙◌, ap, subst, ◌≡◌, BTreeMap, Bor, take, ◌+◌}
use Rattle.std.specs.Ordering.{nat_cmp}
use Rattle.std.specs.Cmp.Lexicographic.{slice_cmp}
use Rattle.std.specs.BTreeMap.{get_by}
use Rattle.std.proofs.lemmas.Map.Text.{btree_map_updates_str}
use Rattle.circuit_values.specs.Values.{place_asked}
use Rattle.circuit_values.proofs.PlaceLemmas.{places_added, places_passed}
use Rattle.text_lines.specs.Text.{Text}
use Rattle.circuit_values.proofs.asked.places_of.Goals as goal
use Rattle.circuit_values.proofs.asked.places_of.Goals.{then-is_owned_by+in_ok-insert, else-is_owned_by}

abbrev pub found_in : BTreeMap (Bor (List ℕ)) ℕ → Text → Option ℕ
found_in places name = get_by (λ key. slice_cmp nat_cmp name key.now) places

pub loop-at-preserved : goal.loop-at-preserved
loop-at-preserved c =
    let P : BTreeMap (Bor (List ℕ)) ℕ → Type 0 = λ m. (name : Text) → found_in m name ≡ place_asked c.args.owner (take (c.loop-at.at + 1) c.args.inputs.now) name in
    elim c.if-is_owned_by.branch [
      | then-is_owned_by+in_ok-insert w ↦ subst P (sym w.places-is) (places_added c.args.owner c.args.inputs.now c.loop-at.at c.party.result w.as_bytes.result.now c.requires c.party.ensures (w.name.ensures ∙ ap Some (sym w.as_bytes.ensures.value)) (sym c.is_owned_by.ensures ∙ w.if-is_owned_by.true) (found_in c.loop-at.places) (found_in w.insert.new.self) c.loop-at.invariant (λ other. btree_map_updates_str w.as_bytes.result.now c.loop-at.places w.insert.new.self _ w.in_ok-insert.ensures.updates other))
      | else-is_owned_by w ↦ subst P (sym w.places-is) (places_passed c.args.owner c.args.inputs.now c.loop-at.at c.party.result c.party.ensures (sym c.is_owned_by.ensures ∙ w.if-is_owned_by.false) (found_in c.loop-at.places) c.loop-at.invariant)
    ]

-- A party that has run nothing goes by the equations.
use Rattle.std.proofs.Common.{ℕ, zero, suc, ◌≡◌, ◌<◌, List, [], length, Option, Some, None, refl, sym, ap, subst, ◌∙◌, arith}
use Rattle.std.specs.Prelude.{slice_get}
use Rattle.std.proofs.lemmas.List.{length-replicate}
use Rattle.std.proofs.lemmas.Option.{slice_get_within, get_or_from_slice_get}
use Rattle.share_types.specs.Sums.{each}
use Rattle.share_types.proofs.Parties.{length-each}
use Rattle.mot_base.proofs.Lists.{same_some as some_is}
use Rattle.message_demux.specs.Kept.{InboxContents}
use Rattle.plan_gates.proofs.NeedsLemmas.{slice_get-each}
use Rattle.plan_gates.specs.Messages.{stages}
use Rattle.gate_tasks.specs.declared.outgoing.Out.{Out}
use Rattle.gate_tasks.specs.declared.value.Value.{Value as ValueInMemory}
use Rattle.gate_tasks.specs.Task.{Task, new_task}
use Rattle.gate_tasks.specs.Wires.{value_held, no_values}
use Rattle.party_stages.specs.Following.{Side, me_of, hand_of, no_progress, said_at, IsProgress, Follows, HasFollowed}
use Rattle.party_stages.specs.Scene.{IsScene, IsStart}

nothing_held : (n x : ℕ) → value_held (no_values n) x ≡ (let none : Option ValueInMemory = None in none)
nothing_held zero x = refl
nothing_held (suc n) zero = refl
nothing_held (suc n) (suc x) = nothing_held n x

abbrev nothing : ℕ → List Out
nothing g = []

task_is : (n g : ℕ) (task : Task) → slice_get (each n new_task) g ≡ Some task → task ≡ new_task g
task_is n g task there =
    let inside = slice_get_within (each n new_task) g task there in
    let long = length-each n new_task in
    some_is task (new_task g) (sym there ∙ slice_get-each n new_task g (omega (arith, inside, long)))

none_said : (n g : ℕ) (task : Task) → slice_get (each n new_task) g ≡ Some task → said_at (each n nothing) g ≡ []
none_said n g task there =
    let inside = slice_get_within (each n new_task) g task there in
    let long = length-each n new_task in
    get_or_from_slice_get (each n nothing) g [] [] (slice_get-each n nothing g (omega (arith, inside, long)))

fresh_progress : (b : Side) → IsProgress b.plan (me_of b) (no_progress (length b.plan.gates))
fresh_progress b = record {
  tasks = length-each (length b.plan.gates) new_task;
  wires = length-replicate (length b.plan.gates) (let none : Option ValueInMemory = None in none);
  said = length-each (length b.plan.gates) nothing;
  gate = λ g task there. ap (λ (t : Task). t.gate) (task_is (length b.plan.gates) g task there);
  stage = λ g task there. subst (λ (t : Task). t.stage < stages b.plan (me_of b) g) (sym (task_is (length b.plan.gates) g task there)) (omega arith);
  typed = λ x gate value found held. absurd (let clash : None ≡ Some value = sym (nothing_held (length b.plan.gates) x) ∙ held in cc);
}

fresh_follows : (b : Side) (inbox : InboxContents) → Follows b inbox (no_progress (length b.plan.gates))
fresh_follows b inbox got extends g task there =
    let n = length b.plan.gates in
    let here : HasFollowed (hand_of b got g) (got g) (new_task g) None [] = record { carried = λ none. refl; valued = tt; said = refl } in
    rw (nothing_held n g, none_said n g task there)
    (subst (λ (t : Task). HasFollowed (hand_of b got g) (got g) t None []) (sym (task_is n g task there)) here)

pub fresh_scene : (b : Side) (inbox : InboxContents) → IsStart b inbox → IsScene b inbox (no_progress (length b.plan.gates))
fresh_scene b inbox start = record {
  plan = start.plan;
  unkeyed = start.unkeyed;
  inside = start.inside;
  serves = start.serves;
  slots = start.slots;
  progress = fresh_progress b;
  follows = fresh_follows b inbox;
}

use Rattle.std.proofs.Common.{◌<◌, ℕ, None, length, set, ap, ◌∙◌, subst}
use Rattle.std.proofs.lemmas.List.{get_or_read}
use Rattle.slab.specs.Slab.{Updates}
use Rattle.task_pool.proofs.Shelving.{inside, taken_view, taken_keys}
use Rattle.task_pool.proofs.shelf.Shelf.take.Goals as goal

pub invariant_of-self : goal.invariant_of-self
invariant_of-self g c =
    let keys = c.self.inside.keys.items in
    let within : c.args.number < length keys = inside c.self.inside.values keys c.args.self.now c.args.number c.self.view_is c.requires in
    let read = get_or_read keys c.args.number c.index-key.result.now within c.index-key.ensures 0 in
    taken_keys c.self.inside.values c.try_remove.new.self keys c.args.number c.self.invariant within
    (subst (λ (k : ℕ). Updates c.self.inside.values c.try_remove.new.self k None) read c.try_remove.ensures.updates)

pub returns-clause-after : goal.returns-clause-after
returns-clause-after g c =
    let keys = c.self.inside.keys.items in
    let within : c.args.number < length keys = inside c.self.inside.values keys c.args.self.now c.args.number c.self.view_is c.requires in
    let read = get_or_read keys c.args.number c.index-key.result.now within c.index-key.ensures 0 in
    taken_view c.self.inside.values c.try_remove.new.self keys c.args.number c.self.invariant within
    (subst (λ (k : ℕ). Updates c.self.inside.values c.try_remove.new.self k None) read c.try_remove.ensures.updates)
    ∙ ap (λ s. set s c.args.number None) c.self.view_is

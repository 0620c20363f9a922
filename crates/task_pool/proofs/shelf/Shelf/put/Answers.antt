use Rattle.std.proofs.Common.{◌<◌, ◌≢◌, Some, None, length, set, ap, ◌∙◌, arith}
use Rattle.std.proofs.lemmas.List.{length-set}
use Rattle.task_pool.specs.declared.shelf.TheConstants.{NOWHERE}
use Rattle.task_pool.proofs.Shelving.{inside, set-set, put_view, put_keys}
use Rattle.task_pool.proofs.shelf.Shelf.put.Goals as goal

pub invariant_of-self-2 : goal.invariant_of-self-2
invariant_of-self-2 g c =
    let keys = c.self.inside.keys.items in
    let still : c.args.number < length c.take.new.self = omega (arith, c.requires, ap length c.take.ensures.after, length-set c.args.self.now c.args.number None) in
    let within : c.args.number < length keys = inside c.self.inside.values keys c.take.new.self c.args.number c.self.view_is still in
    let somewhere : c.in_ok-key.key ≢ NOWHERE = λ same. omega (arith, same, c.if-vacant_key.false, c.vacant_key.ensures.value, c.in_ok-key.ensures.key) in
    put_keys c.self.inside.values c.insert.new.self keys c.args.number c.in_ok-key.key c.args.value c.self.invariant within
    c.in_ok-key.ensures.was_vacant somewhere c.in_ok-key.ensures.updates

pub returns-clause-put : goal.returns-clause-put
returns-clause-put g c =
    let keys = c.self.inside.keys.items in
    let still : c.args.number < length c.take.new.self = omega (arith, c.requires, ap length c.take.ensures.after, length-set c.args.self.now c.args.number None) in
    let within : c.args.number < length keys = inside c.self.inside.values keys c.take.new.self c.args.number c.self.view_is still in
    let somewhere : c.in_ok-key.key ≢ NOWHERE = λ same. omega (arith, same, c.if-vacant_key.false, c.vacant_key.ensures.value, c.in_ok-key.ensures.key) in
    put_view c.self.inside.values c.insert.new.self keys c.args.number c.in_ok-key.key c.args.value c.self.invariant within
    c.in_ok-key.ensures.was_vacant somewhere c.in_ok-key.ensures.updates
    ∙ ap (λ s. set s c.args.number (Some c.args.value)) (c.self.view_is ∙ c.take.ensures.after)
    ∙ set-set c.args.self.now c.args.number None (Some c.args.value)

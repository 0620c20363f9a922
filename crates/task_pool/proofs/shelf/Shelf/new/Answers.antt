use Rattle.task_pool.proofs.Shelving.{none_there}
use Rattle.task_pool.proofs.shelf.Shelf.new.Goals as goal

pub returns : goal.returns
returns g c =
    rw (c.in_ok-keys.ensures.items_if_clones_equal (λ y same. same)) (none_there c.new.result c.args.count c.new.ensures.empty)

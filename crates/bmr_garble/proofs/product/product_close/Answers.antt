use Rattle.std.proofs.Common.{◌*◌, ◌∙◌, ap, ap₂, sym, refl, length, ℕ}
use Rattle.bmr_keys.proofs.KeyLists.{records-length}
use Rattle.bmr_keys.proofs.Parts.{told_of}
use Rattle.bmr_garble.specs.Product.{owners_in}
use Rattle.bmr_garble.proofs.Products.{shares-are}
use Rattle.bmr_garble.proofs.product.product_close.Goals as goal

pub own_added-requires-clause-count : goal.own_added-requires-clause-count
own_added-requires-clause-count c =
    ap length c.in_ok-times.ensures
    ∙ (records-length (owners_in c.args.stock.now) c.args.stock.now c.requires.owners
    ∙ ap₂ (λ (a b : ℕ). a * b) c.requires.width (sym c.owners_of-owners.ensures))

pub returns : goal.returns
returns c =
    let n = owners_in c.args.stock.now in
    let width = c.args.f.width in
    let times = c.in_ok-times.times.items in
    shares-are n width c.args.me.0 c.args.offset.0 c.args.f.word c.args.stock.now times c.own_added.result.items
    c.requires.owners c.requires.width c.in_ok-times.ensures c.own_added.ensures.count
    (told_of c.owners_of-owners.result n width width c.args.me.0 c.args.offset.0 c.args.f.word c.own_added.result.items times times
    c.owners_of-owners.ensures refl refl c.own_added.ensures.keys)

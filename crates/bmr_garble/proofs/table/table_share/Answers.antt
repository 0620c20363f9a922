use Rattle.std.proofs.Common.{◌≡◌, ◌*◌, ◌/◌, ◌%◌, ◌∙◌, ap, refl}
use Rattle.share_types.specs.Sums.{each}
use Rattle.share_types.specs.Keys.{key_of}
use Rattle.share_types.specs.declared.keys.Key.{Key}
use Rattle.bmr_keys.specs.Mask.{seen}
use Rattle.bmr_keys.proofs.Parts.{owners-are}
use Rattle.bmr_garble.specs.Table.{share_entry}
use Rattle.bmr_garble.proofs.Tables.{listed, same_entries, served}
use Rattle.bmr_garble.proofs.table.table_share.Goals as goal

pub returns : goal.returns
returns c = λ n left right out shares as_left as_right as_out as_shares.
    let u = c.args.u.now in
    let v = c.args.v.now in
    let w = c.args.w.now in
    let keys = c.args.product.now in
    let width = u.mask.width in
    let owners : c.owners.result ≡ n = c.owners.ensures ∙ owners-are n width left u as_left u.mask.some_width in
    let me = c.args.me.0 in
    let offset = c.args.offset.0 in
    let gate = c.args.gate in
    let rows = c.new.ensures ∙ (c.in_ok-rows.ensures.rows ∙ ap (λ m. each {X = Key} (4 * width * m) (λ k. record {
      0 =
          share_entry me offset gate (seen m u) (seen m v) (seen m w) (key_of m keys) (k / m / 4) (k / m % 4) (k % m);
    })) owners) in
    same_entries n width (share_entry me offset gate (seen n u) (seen n v) (seen n w) (key_of n keys))
    (share_entry me offset gate left right out shares) _
    (served n width me offset gate left right out shares u v w keys as_left as_right as_out as_shares)
    (listed n width (share_entry me offset gate (seen n u) (seen n v) (seen n w) (key_of n keys)) _ refl owners rows)

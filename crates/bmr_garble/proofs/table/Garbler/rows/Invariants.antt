use Rattle.std.proofs.Common.{◌≡◌, ◌/◌, ◌%◌, vec_len, vec_capacity}
use Rattle.share_types.specs.Sums.{each}
use Rattle.share_types.specs.Keys.{key_of}
use Rattle.bmr_keys.specs.Mask.{seen}
use Rattle.bmr_garble.specs.Table.{share_entry}
use Rattle.bmr_garble.proofs.table.Garbler.rows.Given as goal

abbrev pub invariant-loop-k : goal.invariant-loop-k
invariant-loop-k l = record {
  made : l.rows.items ≡ each l.k (λ k. record {
    0 =
        share_entry l.self.me.0 l.self.offset.0 l.self.gate (seen l.self.owners l.self.u.now) (seen l.self.owners l.self.v.now)
        (seen l.self.owners l.self.w.now) (key_of l.self.owners l.self.product.now) (k / l.self.owners / 4) (k / l.self.owners % 4) (k % l.self.owners);
  });
  counted : vec_len l.rows ≡ l.k;
  room : vec_capacity l.rows ≡ l.count;
}

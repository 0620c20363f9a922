use Rattle.std.proofs.Common.{◌≡◌, map, nat_eq, if◌then◌else◌}
use Rattle.share_types.specs.Sums.{each}
use Rattle.boolean_gmw.specs.Sharing.{low_word}
use Rattle.boolean_gmw.proofs.share_out.Given as goal

abbrev pub invariant-loop-to : goal.invariant-loop-to
invariant-loop-to l =
    (map (λ share. share.word) l.shares.items ≡ each l.to (λ to. if nat_eq to l.me.0 then l.own.word else low_word l.own.width l.tape to))
    × (map (λ share. share.width) l.shares.items ≡ each l.to (λ to. l.own.width))

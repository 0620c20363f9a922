use Rattle.std.proofs.Common.{refl, lit<, lit≤}
use Rattle.std.specs.List.Sorted.{IsStrictlySortedBy}
use Rattle.party_tests.proofs.streams.inbox.Goals as goal

pub new-requires : goal.new-requires
unfolding IsStrictlySortedBy
new-requires c =
    rw (c.in_ok-slots.ensures.items, c.expected.ensures, c.expected-2.ensures, c.expected-3.ensures) (record {
      sorted = ((refl, (refl, tt)), ((refl, tt), (tt, tt)));
      few = lit< tt;
      each = (
        (lit≤ tt, lit≤ tt, tt),
        ((lit≤ tt, lit≤ tt, tt), ((lit≤ tt, lit≤ tt, tt), tt)),
      );
    })

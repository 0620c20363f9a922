use Rattle.std.proofs.Common.{refl, lit<, lit≤}
use Rattle.std.specs.List.Sorted.{IsStrictlySortedBy}
use Rattle.message_demux.specs.Slots.{IsSlotList}
use Rattle.base_tests.proofs.inbox.of_vectors.Goals as goal

pub new-requires : goal.new-requires
unfolding IsStrictlySortedBy
new-requires c =
    rw (c.in_ok-slots.ensures.items, c.expected.ensures, c.expected-2.ensures, c.expected-3.ensures, c.expected-4.ensures) (record {
      sorted = ((refl, (refl, (refl, tt))), ((refl, (refl, tt)), ((refl, tt), (tt, tt))));
      few = lit< tt;
      each = (
        (lit≤ tt, lit≤ tt, (lit≤ tt, lit≤ tt, refl)),
        ((lit≤ tt, lit≤ tt, (lit≤ tt, lit≤ tt, refl)), ((lit≤ tt, lit≤ tt, (lit≤ tt, lit≤ tt, refl)), ((lit≤ tt, lit≤ tt, (lit≤ tt, lit≤ tt, refl)), tt))),
      );
    })

use Rattle.std.proofs.Common.{◌∙◌, arith}
use Rattle.std.proofs.lemmas.List.Elements.{All-push}
use Rattle.dealer_files.specs.File.{shared_bytes}
use Rattle.dealer_files.specs.Laws.{SharedFits}
use Rattle.dealer_files.proofs.Pieces.{read-more, flags-front, flags-rest}
use Rattle.dealer_files.proofs.read.read_shareds.Goals as goal

pub read_shared-requires-clause-flag : goal.read_shared-requires-clause-flag
read_shared-requires-clause-flag c =
    rw c.split_at.ensures.front
    (flags-front 9 c.args.count c.loop-at._at c.loop-at.rest.now c.loop-at-test.true (omega arith) c.loop-at.invariant.1)

pub loop-at-preserved : goal.loop-at-preserved
loop-at-preserved c =
    let was = c.loop-at.invariant in
    rw (c.in_ok-push.ensures.items, c.split_at.ensures.back) (
      read-more shared_bytes 9 c.args.count c.loop-at._at c.args.bytes.now c.loop-at.list.items c.loop-at.rest.now
          c.read_shared.result c.loop-at-test.true was.0 (c.read_shared.ensures.bytes ∙ c.split_at.ensures.front),
      flags-rest 9 c.args.count c.loop-at._at c.loop-at.rest.now c.loop-at-test.true was.1,
      All-push SharedFits c.loop-at.list.items c.read_shared.result was.2 c.read_shared.ensures.numbers,
    )

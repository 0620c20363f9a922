use Rattle.std.proofs.Common.{sym}
use Rattle.dealer_files.proofs.Heads.{passed}
use Rattle.dealer_files.proofs.read.read_dealer.Goals as goal

pub read_head-head-requires : goal.read_head-head-requires
read_head-head-requires c = passed c.args.bytes.now (sym c.in_ok-check_head.ensures)

use Rattle.mot_base.proofs.Open.{open_is}
use Rattle.mot_base.proofs.mem_links.MemLinks.close.Goals as goal

pub returns-clause-peer : goal.returns-clause-peer
returns-clause-peer c =
    (open_is c.args.self.now.place c.args.self.now.closed c.next_closing-party.result c.next_closing-party.ensures.open).0

pub returns-clause-open : goal.returns-clause-open
returns-clause-open c =
    (open_is c.args.self.now.place c.args.self.now.closed c.next_closing-party.result c.next_closing-party.ensures.open).1

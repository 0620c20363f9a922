use Rattle.std.proofs.Common.{◌∙◌, sym}
use Rattle.party_engine.proofs.Hearing.{has_come}
use Rattle.party_engine.proofs.speaking.go_on.Goals as goal

pub run_rest-requires-clause-come : goal.run_rest-requires-clause-come
run_rest-requires-clause-come g c =
    has_come c.args.brought.now c.args.place c.requires.here c.args.inbox.now c.run_turns.new.stages c.in-Ok.ensures.scene (g.L.Links.closed c.args.links.now) c.args.peers.now c.requires.peers c.requires.read
    (c.first_unended.ensures.none (sym c.is_some.ensures ∙ c.if-is_some.false))

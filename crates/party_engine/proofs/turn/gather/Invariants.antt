use Rattle.std.proofs.Common.{◌≤◌, length}
use Rattle.std.specs.List.{All}
use Rattle.party_stages.specs.Scene.{IsReady}
use Rattle.party_engine.proofs.turn.gather.Given as goal

abbrev pub invariant-loop-look : goal.invariant-loop-look
invariant-loop-look l = All (IsReady l.brought l.inbox l.stages) l.ready.items × (length l.ready.items ≤ l._look)

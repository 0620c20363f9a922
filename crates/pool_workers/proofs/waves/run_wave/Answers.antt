use Rattle.std.proofs.Common.{◌++◌}
use Rattle.std.proofs.lemmas.List.Elements.{All-append, All-same}
use Rattle.pool_workers.specs.Shifts.{IsShift}
use Rattle.pool_workers.proofs.waves.run_wave.Goals as goal

pub returns-clause-worked : goal.returns-clause-worked
returns-clause-worked g c =
    let idle = c.in_ok-busy.field-0.idle.items in
    let busy = c.in_ok-busy-2.busy.items in
    All-same (IsShift g.M.Meaning.edges c.args.pool.now.shared.table_id g.M.Meaning.items (λ h. g.L.Limit.limit)) c.append.new.self.items (idle ++ busy) c.in_ok-append.ensures.items
    (All-append (IsShift g.M.Meaning.edges c.args.pool.now.shared.table_id g.M.Meaning.items (λ h. g.L.Limit.limit)) idle busy c.in_ok-busy.ensures.idle c.in_ok-busy-2.ensures.worked)

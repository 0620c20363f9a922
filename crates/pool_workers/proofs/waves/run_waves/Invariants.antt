use Rattle.pool_workers.proofs.waves.run_waves.Given as goal

abbrev pub ghosts-run_waves_as-M-Meaning : goal.ghosts-run_waves_as-M-Meaning
ghosts-run_waves_as-M-Meaning g a = record { items = a.dag.now.items; edges = a.dag.now.edges; means = g.W.Work.means a.work.now }

abbrev pub ghosts-run_waves_as-L-Limit : goal.ghosts-run_waves_as-L-Limit
ghosts-run_waves_as-L-Limit g a = record { limit = a.dag.now.items }

use Rattle.library_bench.proofs.turns.drain_graph.Given as goal

abbrev pub ghosts-drain : goal.ghosts-drain
ghosts-drain a = record { name = a.blank.name; parts = a.blank.parts }

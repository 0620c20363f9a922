use Rattle.local_run.proofs.run.local_turns.Given as goal

abbrev pub ghosts-turns_with : goal.ghosts-turns_with
ghosts-turns_with a = record { name = a.blank.name; parts = a.blank.parts }

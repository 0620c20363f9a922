use Rattle.correlation_claims.proofs.place.Place.ask.Given as goal

abbrev pub ghosts-ask_more : goal.ghosts-ask_more
ghosts-ask_more a = record { job = a._job }

use Rattle.trials_visits.proofs.visits.visits_come_and_go_as_over_vectors.Given as goal

abbrev pub ghosts-run : goal.ghosts-run
ghosts-run g a = record { name = a.blank.name; parts = a.blank.parts }

use Rattle.trials_linked.proofs.opening.the_opening_store_is_that_over_vectors.Given as goal

abbrev pub ghosts-check_opening : goal.ghosts-check_opening
ghosts-check_opening g a = record { name = a.blank.name; parts = a.blank.parts }

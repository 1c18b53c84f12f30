use Rattle.trials_rails.proofs.changes.a_change_of_one_chain_leaves_two_others.Given as goal

abbrev pub ghosts-check_changes : goal.ghosts-check_changes
ghosts-check_changes g a = record { name = a.blank.name; parts = a.blank.parts }

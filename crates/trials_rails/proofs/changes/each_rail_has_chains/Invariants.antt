use Rattle.trials_rails.proofs.changes.each_rail_has_chains.Given as goal

abbrev pub ghosts-check_rails : goal.ghosts-check_rails
ghosts-check_rails g a = record { name = a.blank.name; parts = a.blank.parts }

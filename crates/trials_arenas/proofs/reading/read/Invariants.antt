use Rattle.trials_arenas.proofs.reading.read.Given as goal

abbrev pub ghosts-read_in : goal.ghosts-read_in
ghosts-read_in a = record { name = a.blank.name; parts = a.blank.parts }

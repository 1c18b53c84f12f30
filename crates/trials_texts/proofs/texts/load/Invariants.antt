use Rattle.trials_texts.proofs.texts.load.Given as goal

abbrev pub ghosts-load_in : goal.ghosts-load_in
ghosts-load_in g a = record { name = a.blank.name; parts = a.blank.parts }

use Rattle.trials_texts.proofs.texts.find.Given as goal

abbrev pub ghosts-find_in : goal.ghosts-find_in
ghosts-find_in a = record { name = a.blank.name; parts = a.blank.parts }

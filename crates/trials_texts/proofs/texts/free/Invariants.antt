use Rattle.trials_texts.proofs.texts.free.Given as goal

abbrev pub ghosts-free_in : goal.ghosts-free_in
ghosts-free_in g a = record { name = a.blank.name; parts = a.blank.parts }

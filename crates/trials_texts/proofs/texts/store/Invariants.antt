use Rattle.trials_texts.proofs.texts.store.Given as goal

abbrev pub ghosts-store_in : goal.ghosts-store_in
ghosts-store_in g a = record { name = a.blank.name; parts = a.blank.parts }

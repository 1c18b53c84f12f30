use Rattle.trials_texts.proofs.texts.bytes.Given as goal

abbrev pub ghosts-bytes_in : goal.ghosts-bytes_in
ghosts-bytes_in g a = record { name = a.blank.name; parts = a.blank.parts }

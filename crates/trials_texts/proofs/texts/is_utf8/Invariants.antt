use Rattle.trials_texts.proofs.texts.is_utf8.Given as goal

abbrev pub ghosts-bytes_in : goal.ghosts-bytes_in
ghosts-bytes_in a = record { name = a.blank.name; parts = a.blank.parts }

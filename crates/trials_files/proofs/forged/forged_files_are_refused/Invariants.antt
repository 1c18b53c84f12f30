use Rattle.trials_files.proofs.forged.forged_files_are_refused.Given as goal

abbrev pub ghosts-forge : goal.ghosts-forge
ghosts-forge g a = record { name = a.blank.name; parts = a.blank.parts }

use Rattle.trials_files.proofs.changed.the_opening_file_is_taken_whole.Given as goal

abbrev pub ghosts-change_length : goal.ghosts-change_length
ghosts-change_length g a = record { name = a.blank.name; parts = a.blank.parts }

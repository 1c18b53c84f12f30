use Rattle.trials_files.proofs.changed.a_byte_changes_the_opening_file.Given as goal

abbrev pub ghosts-change_bytes : goal.ghosts-change_bytes
ghosts-change_bytes g a = record { name = a.blank.name; parts = a.blank.parts }

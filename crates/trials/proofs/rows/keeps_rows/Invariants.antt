use Rattle.trials.proofs.rows.keeps_rows.Given as goal

abbrev pub ghosts-keep_rows : goal.ghosts-keep_rows
ghosts-keep_rows g a = record { name = a.blank.name; parts = a.blank.parts }

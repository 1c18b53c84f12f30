use Rattle.trials_rails.proofs.changes.puts_4_before_3_and_5_and_takes_3_out.Given as goal

abbrev pub ghosts-check_row : goal.ghosts-check_row
ghosts-check_row g a = record { name = a.blank.name; parts = a.blank.parts }

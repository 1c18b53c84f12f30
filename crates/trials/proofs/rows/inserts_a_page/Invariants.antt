use Rattle.trials.proofs.rows.inserts_a_page.Given as goal

abbrev pub ghosts-first_page : goal.ghosts-first_page
ghosts-first_page g a = record { name = a.blank.name; parts = a.blank.parts }

use Rattle.trials_linked.proofs.changing.a_page_comes_and_goes_as_over_vectors.Given as goal

abbrev pub ghosts-change_page : goal.ghosts-change_page
ghosts-change_page g a = record { name = a.blank.name; parts = a.blank.parts }

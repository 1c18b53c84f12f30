use Rattle.trials_linked.proofs.changing.the_texts_of_a_page_are_read_back.Given as goal

abbrev pub ghosts-read_texts : goal.ghosts-read_texts
ghosts-read_texts g a = record { name = a.blank.name; parts = a.blank.parts }

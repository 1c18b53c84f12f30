use Rattle.trials_items.proofs.kept.keeps_a_tree.Given as goal

abbrev pub ghosts-keep_tree : goal.ghosts-keep_tree
ghosts-keep_tree g a = record { name = a.blank.name; parts = a.blank.parts }

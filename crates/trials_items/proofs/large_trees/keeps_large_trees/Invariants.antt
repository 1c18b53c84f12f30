use Rattle.trials_items.proofs.large_trees.keeps_large_trees.Given as goal

abbrev pub ghosts-keep_trees : goal.ghosts-keep_trees
ghosts-keep_trees g a = record { name = a.blank.name; parts = a.blank.parts }

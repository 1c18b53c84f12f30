use Rattle.trials_items.proofs.tree.grows_a_tree.Given as goal

abbrev pub ghosts-grow_tree : goal.ghosts-grow_tree
ghosts-grow_tree g a = record { name = a.blank.name; parts = a.blank.parts }

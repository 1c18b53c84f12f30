use Rattle.trials_restored.proofs.restores.a_tree_comes_onto_other_stores.Given as goal

-- the ledger is the one of the blank
abbrev pub ghosts-check : goal.ghosts-check
ghosts-check g a = record { name = a.blank.name; parts = a.blank.parts }

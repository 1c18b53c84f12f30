use Rattle.trials_restored.proofs.costs.a_restore_takes_what_is_told.Given as goal

-- the ledger is the one of the blank
abbrev pub ghosts-check : goal.ghosts-check
ghosts-check g a = record { name = a.blank.name; parts = a.blank.parts }

use Rattle.trials_restored.proofs.cleared.cleared_rows_tell_each_page_once.Given as goal

-- the ledger is the one of the blank
abbrev pub ghosts-check : goal.ghosts-check
ghosts-check g a = record { name = a.blank.name; parts = a.blank.parts }

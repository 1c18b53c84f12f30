use Rattle.trials_restored.proofs.room.more_rows_than_fifty_thousand_are_refused.Given as goal

-- the ledger is the one of the blank
abbrev pub ghosts-check_rows : goal.ghosts-check_rows
ghosts-check_rows g a = record { name = a.blank.name; parts = a.blank.parts }

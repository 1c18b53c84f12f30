use Rattle.trials_redirects.proofs.redirects.perform_and_check.Given as goal

-- the ledger is the one of the blank
abbrev pub ghosts-check_file : goal.ghosts-check_file
ghosts-check_file g a = record { name = a.blank.name; parts = a.blank.parts }

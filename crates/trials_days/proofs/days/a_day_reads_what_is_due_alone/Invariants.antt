use Rattle.trials_days.proofs.days.a_day_reads_what_is_due_alone.Given as goal

-- the ledger is the one of the blank
abbrev pub ghosts-check : goal.ghosts-check
ghosts-check g a = record { name = a.blank.name; parts = a.blank.parts }

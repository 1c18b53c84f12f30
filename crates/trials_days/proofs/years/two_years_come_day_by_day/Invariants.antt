use Rattle.trials_days.proofs.years.two_years_come_day_by_day.Given as goal

-- the ledger is the one of the blank
abbrev pub ghosts-check : goal.ghosts-check
ghosts-check g a = record { name = a.blank.name; parts = a.blank.parts }

use Rattle.trials_totals.proofs.totals.a_command_sets_the_totals_that_it_bears_on.Given as goal

-- the ledger is the one of the blank
abbrev pub ghosts-expect : goal.ghosts-expect
ghosts-expect g a = record { name = a.blank.name; parts = a.blank.parts }

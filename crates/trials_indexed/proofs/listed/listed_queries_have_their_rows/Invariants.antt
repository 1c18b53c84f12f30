use Rattle.trials_indexed.proofs.listed.listed_queries_have_their_rows.Given as goal

-- the ledger is the one of the blank
abbrev pub ghosts-check : goal.ghosts-check
ghosts-check g a = record { name = a.blank.name; parts = a.blank.parts }

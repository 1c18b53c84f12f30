use Rattle.trials_indexed.proofs.random.random_queries_have_their_rows_over_linked_slots.Given as goal

-- the ledger is the one of the blank
abbrev pub ghosts-expect_queries : goal.ghosts-expect_queries
ghosts-expect_queries g a = record { name = a.blank.name; parts = a.blank.parts }

use Rattle.trials_store.proofs.store.an_engine_without_ids_refuses.Given as goal

-- the ledger is the one of the blank
abbrev pub ghosts-expect_no_page_ids : goal.ghosts-expect_no_page_ids
ghosts-expect_no_page_ids g a = record { name = a.blank.name; parts = a.blank.parts }

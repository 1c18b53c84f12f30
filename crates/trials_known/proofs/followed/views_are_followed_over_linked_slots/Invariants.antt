use Rattle.trials_known.proofs.followed.views_are_followed_over_linked_slots.Given as goal

-- the ledger is the one of the blank
abbrev pub ghosts-expect_all_followed : goal.ghosts-expect_all_followed
ghosts-expect_all_followed g a = record { name = a.blank.name; parts = a.blank.parts }

use Rattle.trials_import.proofs.room.replies.Given as goal

-- the ledger is the one of the blank
abbrev pub ghosts-replies_in : goal.ghosts-replies_in
ghosts-replies_in a = record { name = a.blank.name; parts = a.blank.parts }

use Rattle.trials_restored.proofs.room.ids_and_slots_are_asked_for_first.Given as goal

-- the ledger is the one of the blank
abbrev pub ghosts-check_ids_and_slots : goal.ghosts-check_ids_and_slots
ghosts-check_ids_and_slots g a = record { name = a.blank.name; parts = a.blank.parts }

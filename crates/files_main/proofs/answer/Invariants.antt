use Rattle.files_main.proofs.answer.Given as goal

-- the ledger is the one of the blank
abbrev pub ghosts-perform : goal.ghosts-perform
ghosts-perform a = record { name = a.blank.name; parts = a.blank.parts }

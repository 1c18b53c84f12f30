use Rattle.pl_store.proofs.read.reader_of.Given as goal

-- the ledger is the one of the blank
abbrev pub ghosts-check : goal.ghosts-check
ghosts-check a = record { name = a.blank.name; parts = a.blank.parts }

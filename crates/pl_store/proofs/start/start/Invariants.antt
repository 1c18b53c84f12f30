use Rattle.pl_store.proofs.start.start.Given as goal

-- each ledger is the one of its blank
abbrev pub ghosts-touched : goal.ghosts-touched
ghosts-touched a = record { name = a.blank.name; parts = a.blank.parts }

abbrev pub ghosts-over : goal.ghosts-over
ghosts-over a = record { name = a.blank.name; parts = a.blank.parts }

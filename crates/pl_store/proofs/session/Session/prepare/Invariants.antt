use Rattle.pl_store.proofs.session.Session.prepare.Given as goal

-- the ledger is the one of the blank
abbrev pub ghosts-apply : goal.ghosts-apply
ghosts-apply a = record { name = a.blank.name; parts = a.blank.parts }

-- so is this one
abbrev pub ghosts-touched : goal.ghosts-touched
ghosts-touched a = record { name = a.blank.name; parts = a.blank.parts }

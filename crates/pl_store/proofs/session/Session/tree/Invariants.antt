use Rattle.pl_store.proofs.session.Session.tree.Given as goal

-- the ledger is the one of the blank
abbrev pub ghosts-tree : goal.ghosts-tree
ghosts-tree a = record { name = a.blank.name; parts = a.blank.parts }

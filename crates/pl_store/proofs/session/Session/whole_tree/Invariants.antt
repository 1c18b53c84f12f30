use Rattle.pl_store.proofs.session.Session.whole_tree.Given as goal

-- the ledger is the one of the blank
abbrev pub ghosts-whole_tree : goal.ghosts-whole_tree
ghosts-whole_tree a = record { name = a.blank.name; parts = a.blank.parts }

use Rattle.pl_store.proofs.reader.Reader.tree.Given as goal

-- the ledger is the one of the blank
abbrev pub ghosts-tree_of : goal.ghosts-tree_of
ghosts-tree_of a = record { name = a.blank.name; parts = a.blank.parts }

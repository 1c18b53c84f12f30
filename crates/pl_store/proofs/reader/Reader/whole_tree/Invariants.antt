use Rattle.pl_store.proofs.reader.Reader.whole_tree.Given as goal

-- the ledger is the one of the blank
abbrev pub ghosts-whole_tree_of : goal.ghosts-whole_tree_of
ghosts-whole_tree_of a = record { name = a.blank.name; parts = a.blank.parts }

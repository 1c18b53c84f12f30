use Rattle.pl_store.proofs.memory.Memory.step.Given as goal

-- the ledger is the one of the blank
abbrev pub ghosts-apply : goal.ghosts-apply
ghosts-apply a = record { name = a.blank.name; parts = a.blank.parts }

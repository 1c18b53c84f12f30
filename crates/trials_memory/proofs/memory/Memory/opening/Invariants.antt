use Rattle.trials_memory.proofs.memory.Memory.opening.Given as goal

-- the ledger is the one of the blank
abbrev pub ghosts-plain : goal.ghosts-plain
ghosts-plain a = record { name = a.blank.name; parts = a.blank.parts }

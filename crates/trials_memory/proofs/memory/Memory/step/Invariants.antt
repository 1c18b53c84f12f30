use Rattle.trials_memory.proofs.memory.Memory.step.Given as goal

-- the ledger is the one of the blank
abbrev pub ghosts-applied : goal.ghosts-applied
ghosts-applied a = record { name = a.blank.name; parts = a.blank.parts }

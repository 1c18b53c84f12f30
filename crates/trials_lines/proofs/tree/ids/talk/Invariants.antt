use Rattle.trials_lines.proofs.tree.ids.talk.Given as goal

-- the ledger is the one of the blank
abbrev pub ghosts-talk_in : goal.ghosts-talk_in
ghosts-talk_in g a = record { name = a.blank.name; parts = a.blank.parts }

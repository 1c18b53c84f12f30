use Rattle.trials_rails.proofs.links.lists_many_members_in_one_pass.Given as goal

abbrev pub ghosts-check_many : goal.ghosts-check_many
ghosts-check_many g a = record { name = a.blank.name; parts = a.blank.parts }

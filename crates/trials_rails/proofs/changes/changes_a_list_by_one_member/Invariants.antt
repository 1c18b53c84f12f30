use Rattle.trials_rails.proofs.changes.changes_a_list_by_one_member.Given as goal

abbrev pub ghosts-check_cases : goal.ghosts-check_cases
ghosts-check_cases g a = record { name = a.blank.name; parts = a.blank.parts }

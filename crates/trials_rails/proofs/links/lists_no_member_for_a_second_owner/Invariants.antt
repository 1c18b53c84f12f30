use Rattle.trials_rails.proofs.links.lists_no_member_for_a_second_owner.Given as goal

abbrev pub ghosts-check_owners : goal.ghosts-check_owners
ghosts-check_owners g a = record { name = a.blank.name; parts = a.blank.parts }

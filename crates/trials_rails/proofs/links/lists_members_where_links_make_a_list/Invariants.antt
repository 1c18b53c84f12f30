use Rattle.trials_rails.proofs.links.lists_members_where_links_make_a_list.Given as goal

abbrev pub ghosts-check_lists : goal.ghosts-check_lists
ghosts-check_lists g a = record { name = a.blank.name; parts = a.blank.parts }

use Rattle.trials_rails.proofs.links.lists_none_where_links_lie.Given as goal

abbrev pub ghosts-check_none : goal.ghosts-check_none
ghosts-check_none g a = record { name = a.blank.name; parts = a.blank.parts }

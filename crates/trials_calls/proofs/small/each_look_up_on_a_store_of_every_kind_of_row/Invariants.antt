use Rattle.trials_calls.proofs.small.each_look_up_on_a_store_of_every_kind_of_row.Given as goal

abbrev pub ghosts-run : goal.ghosts-run
ghosts-run g a = record { name = a.blank.name; parts = a.blank.parts }

use Rattle.trials_calls.proofs.coming.ten_thousand_pages_come_go_and_come_again.Given as goal

abbrev pub ghosts-come_and_go : goal.ghosts-come_and_go
ghosts-come_and_go g a = record { name = a.blank.name; parts = a.blank.parts }

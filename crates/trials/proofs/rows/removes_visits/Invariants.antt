use Rattle.trials.proofs.rows.removes_visits.Given as goal

abbrev pub ghosts-leave_visits : goal.ghosts-leave_visits
ghosts-leave_visits g a = record { name = a.blank.name; parts = a.blank.parts }

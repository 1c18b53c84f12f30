use Rattle.trials_calls.proofs.random.ten_thousand_calls_answer_as_over_vectors.Given as goal

abbrev pub ghosts-run : goal.ghosts-run
ghosts-run g a = record { name = a.blank.name; parts = a.blank.parts }

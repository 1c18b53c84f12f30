use Rattle.std.proofs.Common.{◌≡◌, ◌∙◌, ◌≤◌, ◌<◌, ℕ, List, [], ◌∷◌, Option, None, arith, get_or, length, refl}
use denote.Ref.{Bor}
use Rattle.pl_task.specs.declared.task.Task.{Task}
use Rattle.pl_task.specs.Task.{spelled, task_of, task_on_file}
use Rattle.pl_task.proofs.task.Task.of.Goals as goal

-- two words
of_two : (words : List (Bor (List ℕ))) (none : Bor (List ℕ)) → 2 ≤ length words → length words < 3
    → task_on_file (get_or words 0 none).now ≡ task_of (spelled words)
of_two [] none some few = absurd (omega (arith, some))
of_two (word ∷ []) none some few = absurd (omega (arith, some))
of_two (word ∷ path ∷ []) none some few = refl
of_two (word ∷ path ∷ next ∷ words) none some few = absurd (omega (arith, few))

abbrev no_task : Option Task
no_task = None

-- three
of_three : (words : List (Bor (List ℕ))) → 3 ≤ length words → length words < 4 → no_task ≡ task_of (spelled words)
of_three [] some few = absurd (omega (arith, some))
of_three (word ∷ []) some few = absurd (omega (arith, some))
of_three (word ∷ path ∷ []) some few = absurd (omega (arith, some))
of_three (word ∷ path ∷ count ∷ []) some few = refl
of_three (word ∷ path ∷ count ∷ next ∷ words) some few = absurd (omega (arith, few))

-- more than four
of_five : (words : List (Bor (List ℕ))) → 5 ≤ length words → no_task ≡ task_of (spelled words)
of_five [] some = absurd (omega (arith, some))
of_five (word ∷ []) some = absurd (omega (arith, some))
of_five (word ∷ path ∷ []) some = absurd (omega (arith, some))
of_five (word ∷ path ∷ count ∷ []) some = absurd (omega (arith, some))
of_five (word ∷ path ∷ count ∷ seed ∷ []) some = absurd (omega (arith, some))
of_five (word ∷ path ∷ count ∷ seed ∷ next ∷ words) some = refl

pub returns-in-len2 : goal.returns-in-len2
returns-in-len2 c =
    c.on_file.ensures ∙ of_two c.args.words.now _ c.in-len2.len_at_least c.in-len2.len_below

pub returns-in_default-2 : goal.returns-in_default-2
returns-in_default-2 c = of_three c.args.words.now c.in_default.len_at_least c.in_default.len_below

pub returns-in_default-3 : goal.returns-in_default-3
returns-in_default-3 c = of_five c.args.words.now c.in_default.len_at_least

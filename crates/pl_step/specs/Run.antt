-- A run of the machine over the entries of a script.
use Rattle.std.specs.Prelude.{ℕ, List, [], ◌∷◌}
use Rattle.pl_base.specs.Store.{Store}
use Rattle.pl_step.specs.declared.command.Command.{Command}
use Rattle.pl_step.specs.declared.reply.Reply.{Reply}
use Rattle.pl_step.specs.Parsed.{Parsed}
use Rattle.pl_step.specs.Step.{step}

-- the replies, in order, on a store that takes at most so many slots
abbrev pub replies : ℕ → Store → List (Parsed Command) → List Reply
replies limit store [] = []
replies limit store (entry ∷ entries) =
    (step limit store entry).0 ∷ replies limit (step limit store entry).1 entries

-- the store after all of them
abbrev pub after : ℕ → Store → List (Parsed Command) → Store
after limit store [] = store
after limit store (entry ∷ entries) = after limit (step limit store entry).1 entries

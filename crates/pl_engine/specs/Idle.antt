-- Commands that find the store as they would leave it.
use Rattle.std.specs.Prelude.{◌≡◌}
use Rattle.pl_base.specs.Store.{Store}
use Rattle.pl_step.specs.declared.command.Command.{Command}
use Rattle.pl_step.specs.declared.command.Command.TheVariants.{Title as TitleCommand}
use Rattle.pl_step.specs.Step.{after_title}

-- the command is a title that changes nothing of the store
abbrev pub IsIdle : Command → Store → Type 0
IsIdle (TitleCommand url text) store = after_title store url text ≡ store
IsIdle other store = ⊥

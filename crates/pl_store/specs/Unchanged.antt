-- Commands that leave a store as it is.
use Rattle.std.specs.Prelude.{◌≡◌, ◌⊎◌, false}
use Rattle.pl_base.specs.declared.refusal.Refusal.{Refusal}
use Rattle.pl_step.specs.declared.command.Command.{Command}
use Rattle.pl_step.specs.declared.reply.Reply.{Reply}
use Rattle.pl_step.specs.declared.reply.Reply.TheVariants.{Refused}
use Rattle.pl_step.specs.Commands.{is_change}

-- the command was refused, or is of a kind that never changes the store
abbrev pub ChangesNothing : Command → Reply → Type 0
ChangesNothing command reply =
    ((refusal : Refusal) × (reply ≡ Refused refusal)) ⊎ (is_change command ≡ false)

-- What a command says, and why it was not performed.
use Rattle.std.specs.Prelude.{◌≡◌, false, Ok, Err, Result}
use Rattle.pl_step.specs.declared.reply.Reply.{Reply}
use Rattle.pl_step.specs.declared.reply.Reply.TheVariants.{Refused}
use Rattle.pl_step.specs.Refused.{is_refused}
use Rattle.pl_step.specs.declared.step_error.StepError.{StepError}
use Rattle.pl_step.specs.declared.step_error.StepError.TheVariants as step
use Rattle.pl_tree.specs.declared.error.TreeError.{TreeError}
use Rattle.pl_tree.specs.declared.error.TreeError.TheVariants as tree

-- as the bookmark tree was not changed
abbrev pub of_tree : TreeError → StepError
of_tree (tree.Refused refusal) = step.Refused refusal
of_tree tree.NoMemory = step.NoMemory

-- the reply is said, and is no refusal, or it is the refusal that is given
abbrev pub Says : Reply → Result Reply StepError → Type 0
Says reply (Ok said) = (said ≡ reply) × (is_refused said ≡ false)
Says reply (Err (step.Refused refusal)) = Refused refusal ≡ reply
Says reply (Err step.NoMemory) = Unit {0}

use Rattle.std.proofs.Common.{◌≡◌}
use Rattle.pl_nbread.proofs.ValueSteps.{tags_of}
use Rattle.pl_backup.proofs.fields.tags_in.Given as goal

abbrev pub invariant-loop-name : goal.invariant-loop-name
invariant-loop-name l = l.tags.items ≡ tags_of l.yielded

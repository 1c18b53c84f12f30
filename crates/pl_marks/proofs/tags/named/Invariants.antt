use Rattle.std.proofs.Common.{◌≡◌, ◌++◌}
use Rattle.std.specs.BTreeMap.{values}
use Rattle.pl_marks.proofs.tags.named.Given as goal

abbrev pub invariant-loop-title : goal.invariant-loop-title
invariant-loop-title l = l.names.items ++ l.title-iterator ≡ values l.tags

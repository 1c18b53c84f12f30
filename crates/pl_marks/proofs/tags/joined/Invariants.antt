use Rattle.std.proofs.Common.{◌≡◌, ◌++◌}
use Rattle.std.specs.BTreeMap.{values}
use Rattle.std.specs.String.{string_bytes}
use Rattle.pl_base.specs.Tags.{comma_joined}
use Rattle.pl_marks.proofs.PageTags.{joined_from}
use Rattle.pl_marks.proofs.tags.joined.Given as goal

abbrev pub invariant-loop-title : goal.invariant-loop-title
invariant-loop-title l =
    string_bytes l.text ++ joined_from l.is_first l.title-iterator ≡ comma_joined (values l.tags)

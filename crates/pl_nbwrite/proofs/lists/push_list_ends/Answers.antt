use Rattle.std.proofs.Common.{◌+◌, ◌-◌, arith}
use Rattle.std.specs.String.{string_bytes}
use Rattle.pl_nbwrite.specs.BookmarkText.{list_end, list_ends}
use Rattle.pl_nbwrite.proofs.Appended.{carried}
use Rattle.pl_nbwrite.proofs.ListSteps.{ends-step}
use Rattle.pl_nbwrite.proofs.lists.push_list_ends.Goals as goal

pub loop-left-preserved : goal.loop-left-preserved
loop-left-preserved c =
    let left = c.loop-left.left in
    record {
      within = omega arith;
      written =
          carried (string_bytes c.loop-left.file) (string_bytes c.push_list_end.new.file)
          (list_end (c.args.level + (left - 1))) (list_ends c.args.level left) (list_ends c.args.level (left - 1)) _
          c.loop-left.invariant.written (ends-step c.args.level left c.loop-left-test.true)
          c.in_ok-push_list_end.ensures;
    }

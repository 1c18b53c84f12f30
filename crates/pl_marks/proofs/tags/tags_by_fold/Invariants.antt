use Rattle.pl_base.proofs.ReferencesRun.{having, item_names}
use Rattle.pl_base.proofs.Walk.{Walk, left}
use Rattle.pl_base.specs.Tree.{reference_behind}
use Rattle.std.proofs.Common.{length}
use Rattle.pl_marks.proofs.PageTags.{tags_with}
use Rattle.pl_marks.proofs.TagEntries.{AreOfTags, Ascending}
use Rattle.pl_marks.proofs.TagTree.{HaveTags}
use Rattle.pl_marks.proofs.tags.tags_by_fold.Given as goal

abbrev pub invariant-loop-next : goal.invariant-loop-next
invariant-loop-next g l =
    record {
      ascend : Ascending l.tags.entries;
      of_tags : AreOfTags (tags_with (g.R.Rows.kept l.rows) l.fn.page) l.tags.entries;
      walk : Walk item_names (having (g.R.Rows.kept l.rows).items l.fn.page)
          (HaveTags (g.R.Rows.kept l.rows).items l.tags.entries) l.next;
    }

abbrev pub decreases-loop-next : goal.decreases-loop-next
decreases-loop-next g l = left (reference_behind (g.R.Rows.kept l.rows).items)
    (length (having (g.R.Rows.kept l.rows).items l.fn.page)) l.next

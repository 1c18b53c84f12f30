use Rattle.std.proofs.Common.{◌∙◌, sym}
use Rattle.std.proofs.lemmas.Result.{IfOk-weaker}
use Rattle.pl_marks.proofs.NoItems.{of_no_item}
use Rattle.pl_marks.proofs.items.item_figures.Goals as goal

pub returns-then-not-is_referenced : goal.returns-then-not-is_referenced
returns-then-not-is_referenced g c =
    IfOk-weaker c.none.result _ _
    (of_no_item (g.R.Rows.kept c.args.rows.now) c.args.page (g.met.R.Rows.well_kept c.args.rows.now) c.requires.good
    (sym c.if-not-is_referenced.true ∙ c.is_referenced.ensures))
    c.none.ensures

pub returns : goal.returns
returns g c =
    record {
      mark_title = c.in_ok-mark_title.ensures;
      tags = c.in_ok-tag_text.ensures;
      bookmarked = c.is_bookmarked.ensures;
      referenced = sym c.if-not-is_referenced.false ∙ c.is_referenced.ensures;
    }

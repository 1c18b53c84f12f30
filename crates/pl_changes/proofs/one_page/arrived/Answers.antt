use Rattle.std.proofs.Common.{refl}
use Rattle.pl_base.specs.Rows.{Kept}
use Rattle.pl_changes.proofs.FoundPages.{has_view, not_there, there}
use Rattle.pl_changes.proofs.one_page.arrived.Goals as goal

pub returns-then-is_none : goal.returns-then-is_none
returns-then-is_none g c =
    not_there (g.R.Rows.kept c.args.rows.now) c.args.page c.page_at.result c.page_at.ensures.mark c.if-is_none.ensures

pub page_view-requires-clause-page : goal.page_view-requires-clause-page
page_view-requires-clause-page g c =
    there (g.R.Rows.kept c.args.rows.now) c.args.page c.page_at.result c.page_at.ensures.mark c.if-is_none.ensures

pub returns : goal.returns
returns g c =
    let kept : Kept = g.R.Rows.kept c.args.rows.now in
    record {
      old = refl;
      new =
          has_view kept c.args.page c.in_ok-page_view.field-0
          (there kept c.args.page c.page_at.result c.page_at.ensures.mark c.if-is_none.ensures)
          c.in_ok-page_view.ensures;
      differ = λ same. cc;
    }

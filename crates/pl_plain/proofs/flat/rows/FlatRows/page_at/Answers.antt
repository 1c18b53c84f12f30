use Rattle.std.proofs.Common.{◌∙◌, ◌==◌, Some, ap}
use Rattle.pl_base.specs.Rows.{KeptPage, mark_of}
use Rattle.pl_plain.specs.FlatRows.{page_of}
use Rattle.pl_plain.proofs.Lookups.{found-none, found-some}
use Rattle.pl_plain.proofs.Searches.{pages_ascend}
use Rattle.pl_plain.proofs.flat.rows.FlatRows.page_at.Goals as goal

pub find_page-requires : goal.find_page-requires
find_page-requires g c =
    pages_ascend c.args.self.now.pages.items c.deref.result.now c.args.self.now.rows.page_ids.ascending
    c.deref.ensures.value

pub returns-in_err-page-clause-mark : goal.returns-in_err-page-clause-mark
returns-in_err-page-clause-mark g c =
    c.from_residual.ensures
    ∙ found-none (λ (p : KeptPage). p.page.id.0 == c.args.page.0) page_of mark_of c.args.self.now.pages.items
    c.deref.result.now c.find_page.result c.in_err-page.was c.find_page.ensures c.deref.ensures.value

pub returns-clause-mark : goal.returns-clause-mark
returns-clause-mark g c =
    ap (λ mark. Some mark) c.mark.ensures
    ∙ found-some (λ (p : KeptPage). p.page.id.0 == c.args.page.0) page_of mark_of c.args.self.now.pages.items
    c.deref.result.now c.find_page.result c.in_ok-page.page c.in_ok-page.was c.find_page.ensures
    c.deref.ensures.value

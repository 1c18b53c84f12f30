use Rattle.std.proofs.Common.{◌∙◌, ◌==◌, ap}
use Rattle.std.specs.List.{list_any}
use Rattle.pl_base.proofs.ListLaws.{list_any-map}
use Rattle.pl_stored.specs.declared.stored.StoredPage.{StoredPage}
use Rattle.pl_stored.specs.declared.stored.StoredVisit.{StoredVisit}
use Rattle.pl_check.proofs.row_ids.RowIds.of.Goals as goal

pub returns : goal.returns
returns c =
    record {
      pages =
          λ id. c.of.ensures id
          ∙ ap (list_any (λ n. n == id)) c.in_ok-page_ids.ensures
          ∙ list_any-map (λ n. n == id) (λ (p : StoredPage). p.id.0) c.args.pages.now;
      visits =
          λ id. c.of-2.ensures id
          ∙ ap (list_any (λ n. n == id)) c.in_ok-visit_ids.ensures
          ∙ list_any-map (λ n. n == id) (λ (v : StoredVisit). v.id.0) c.args.visits.now;
    }

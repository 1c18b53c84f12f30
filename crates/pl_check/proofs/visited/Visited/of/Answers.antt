use Rattle.std.proofs.Common.{◌∙◌, ◌==◌, ap}
use Rattle.std.specs.List.{list_any}
use Rattle.pl_check.proofs.VisitedPages.{has_pages, has_typed_pages}
use Rattle.pl_check.proofs.visited.Visited.of.Goals as goal

pub returns : goal.returns
returns c =
    record {
      pages =
          λ page. c.of.ensures page.0
          ∙ ap (list_any (λ n. n == page.0)) c.in_ok-visited_pages.ensures ∙ has_pages c.args.visits.now page;
      typed =
          λ page. c.of-2.ensures page.0
          ∙ ap (list_any (λ n. n == page.0)) c.in_ok-typed_pages.ensures ∙ has_typed_pages c.args.visits.now page;
    }

use Rattle.std.proofs.Common.{◌∙◌, ◌==◌, ap}
use Rattle.std.specs.List.{list_any}
use Rattle.pl_check.proofs.ItemTests.{referenced}
use Rattle.pl_check.proofs.references.References.of.Goals as goal

pub returns : goal.returns
returns c = λ page.
    c.of-pages.ensures page.0
    ∙ ap (list_any (λ n. n == page.0)) c.in_ok-referenced_pages.ensures ∙ referenced c.args.items.now page

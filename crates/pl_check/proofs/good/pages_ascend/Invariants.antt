use Rattle.std.proofs.Common.{◌≡◌, drop}
use Rattle.pl_base.specs.Touched.{ascends_above}
use Rattle.pl_check.specs.Rows.{stored_page_ids}
use Rattle.pl_check.proofs.good.pages_ascend.Given as goal

abbrev pub invariant-loop-page : goal.invariant-loop-page
invariant-loop-page l =
    ascends_above 0 (stored_page_ids l.pages) ≡ ascends_above l.last (stored_page_ids (drop l.page-index l.pages))

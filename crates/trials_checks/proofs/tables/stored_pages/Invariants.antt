use Rattle.std.specs.List.{All}
use Rattle.pl_base.specs.Good.{IsTitle}
use Rattle.pl_stored.specs.declared.stored.StoredPage.{StoredPage}
use Rattle.pl_stored.specs.Fits.{IsUrl}
use Rattle.trials_checks.proofs.tables.stored_pages.Given as goal

abbrev pub invariant-loop-page : goal.invariant-loop-page
invariant-loop-page l =
    All (λ (p : StoredPage). IsUrl p.url) l.rows.items × All (λ (p : StoredPage). IsTitle p.title) l.rows.items

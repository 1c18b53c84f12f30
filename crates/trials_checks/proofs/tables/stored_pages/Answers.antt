use Rattle.std.proofs.lemmas.List.Elements.{All-push}
use Rattle.pl_base.specs.Good.{IsTitle}
use Rattle.pl_stored.specs.declared.stored.StoredPage.{StoredPage}
use Rattle.pl_stored.specs.Fits.{IsUrl}
use Rattle.trials_checks.proofs.tables.stored_pages.Goals as goal

pub loop-page-preserved : goal.loop-page-preserved
loop-page-preserved c =
    rw c.in_ok-push.ensures.items (
      All-push (λ (p : StoredPage). IsUrl p.url) c.loop-page.rows.items c.in_ok-stored_page.field-0
          c.loop-page.invariant.0 c.in_ok-stored_page.ensures.url,
      All-push (λ (p : StoredPage). IsTitle p.title) c.loop-page.rows.items c.in_ok-stored_page.field-0
          c.loop-page.invariant.1 c.in_ok-stored_page.ensures.title,
    )

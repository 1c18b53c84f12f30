-- What the rows of a file have before their ids and dates are tested.
use Rattle.std.specs.List.{All}
use Rattle.pl_base.specs.Good.{IsTitle}
use Rattle.pl_base.specs.Store.{Item}
use Rattle.pl_stored.specs.declared.stored.StoredPage.{StoredPage}
use Rattle.pl_stored.specs.Fits.{IsUrl}
use Rattle.pl_stored.specs.Stored.{AreIdsFour, Stored}

-- rows whose next ids have 4 bytes, with URLs of the store and titles that are not too long
pub record AreReadable (rows : Stored) : Type 0 where
  pub ids : AreIdsFour rows.ids
  pub urls : All (λ (p : StoredPage). IsUrl p.url) rows.pages
  pub titles : All (λ (p : StoredPage). IsTitle p.title) rows.pages
  pub item_titles : All (λ (i : Item). IsTitle i.title) rows.items

-- What a visit that is added makes of a store.
use Rattle.std.specs.Prelude.{◌≡◌, ◌+◌, ◌*◌, ℕ}
use Rattle.std.specs.List.{All}
use Rattle.pl_base.specs.declared.row.VisitRow.{VisitRow}
use Rattle.pl_base.specs.Frecency.{frecency_of}
use Rattle.pl_base.specs.Store.{Page, Store}
use Rattle.pl_base.specs.Touched.{row_pages}
use Rattle.pl_base.specs.Visiting.{visited_page, visited_store}
use Rattle.pl_marks.specs.Refreshed.{mark_pages}
use Rattle.pl_history.specs.declared.visiting.AddedVisit.{AddedVisit}

-- the most pages of the file that a visit touches: its row, and the marks of two pages
abbrev pub visit_pages : ℕ
visit_pages = row_pages + 2 * mark_pages

-- the store with the visit, its id and its page, and the frecency of that page from then on
pub record AddsVisit (row : VisitRow) (old new : Store) (added : AddedVisit) : Type 0 where
  pub store : new ≡ visited_store row.page row.transition row.date row.source old
  pub visit : added.visit ≡ record { 0 = old.ids.visit }
  pub page : added.page ≡ row.page
  pub scored : All (λ (p : Page). p.id ≡ row.page
      → added.frecency ≡ frecency_of new (visited_page row.transition p)) old.pages

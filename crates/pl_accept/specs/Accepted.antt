-- What the rows of a file of linked slots stand for.
use Rattle.std.specs.Prelude.{List}
use Rattle.pl_accept.specs.declared.accepted.Accepted.{Accepted}
use Rattle.pl_base.specs.declared.id.VisitId.{VisitId}
use Rattle.pl_base.specs.Rows.{IsSound, Kept}
use Rattle.pl_base.specs.Store.{Visit}
use Rattle.pl_record.specs.LinkedRows.{AreLinked}
use Rattle.pl_sheets.specs.Sheets.{Pages}

-- the pages are the form of a store's rows, which are good and whose marks and totals are right,
-- and these maps name their slots
pub record IsAccepted (pages : Pages) (a : Accepted) : Type 0 where
  pub kept : Kept
  pub targets : VisitId → List Visit
  pub linked : AreLinked kept targets pages a.pages.entries a.visits.entries a.items.entries
  pub sound : IsSound kept

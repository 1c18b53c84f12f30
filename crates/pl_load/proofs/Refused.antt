-- What holds of all that is read from pages that are the form of a store: where any of it fails,
-- the pages are no store's.
use Rattle.std.proofs.Common.{List, subst, sym}
use Rattle.pl_base.specs.declared.id.VisitId.{VisitId}
use Rattle.pl_base.specs.Rows.{Kept}
use Rattle.pl_base.specs.Store.{Visit as StoreVisit}
use Rattle.pl_load.specs.Reads.{AreReadFrom, Reads}
use Rattle.pl_load.specs.Whole.{HoldsAsForm}
use Rattle.pl_load.proofs.FormLists.{form_lone_slots, form_own_lists, form_target_lists}
use Rattle.pl_load.proofs.FormLive.{form_live, form_named, form_rest}
use Rattle.pl_load.proofs.FormNames.{form_names, form_origin_count}
use Rattle.pl_load.proofs.FormOwners.{form_owners}
use Rattle.pl_load.proofs.FormParents.{read_as_rows}
use Rattle.pl_load.proofs.FormReads.{reads_of}
use Rattle.pl_record.specs.Form.{AreRows, IsLaid}
use Rattle.pl_record.specs.Records.{Layout}
use Rattle.pl_sheets.specs.Sheets.{Pages}

module _ (at : Layout) (kept : Kept) (targets : VisitId → List StoreVisit) (pages : Pages)
    (rows : AreRows kept targets) (laid : IsLaid at kept targets pages) where
  -- of the rows of the store
  pub form_holds : HoldsAsForm pages (reads_of at kept)
  form_holds =
      record {
        owners = form_owners at kept targets pages rows laid;
        own = form_own_lists at kept targets pages rows laid;
        targets = form_target_lists at kept targets pages rows laid;
        lone = form_lone_slots at kept targets pages rows laid;
        names = form_names at kept targets pages rows laid;
        count = form_origin_count at kept targets pages rows laid;
        live = form_live at kept targets pages rows laid;
        form = form_named at kept targets pages rows laid;
        rest = form_rest at kept targets pages rows laid;
      }

  -- and so of whatever is read
  pub read_holds : (r : Reads) → AreReadFrom pages r → HoldsAsForm pages r
  read_holds r from =
      subst (HoldsAsForm pages) (sym (read_as_rows at kept targets pages rows laid r from)) form_holds

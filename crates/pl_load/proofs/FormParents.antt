-- Pages that are the form of a store list the children of each item, so they are read as its rows,
-- and as no others.
use Rattle.std.proofs.Common.{◌≡◌, List, ap}
use Rattle.std.specs.Option.{option_and_then}
use Rattle.pl_base.specs.declared.id.VisitId.{VisitId}
use Rattle.pl_base.specs.Rows.{Kept}
use Rattle.pl_base.specs.Store.{Item as TreeItem, Visit as StoreVisit}
use Rattle.pl_base.proofs.ListLaws.{map-map}
use Rattle.pl_load.specs.Reads.{AreReadFrom, Reads, item_at}
use Rattle.pl_load.proofs.Children.{children_listed}
use Rattle.pl_load.proofs.FormReads.{HaveParents, form_read, form_reads, reads_are, reads_of}
use Rattle.pl_load.proofs.ItemSlots.{HaveSlots}
use Rattle.pl_record.specs.declared.rows.Item.{Item}
use Rattle.pl_record.specs.Form.{AreRows, IsLaid}
use Rattle.pl_record.specs.Records.{Layout}
use Rattle.pl_record.specs.Rows.{item_id}
use Rattle.pl_sheets.specs.Sheets.{Pages}

module _ (at : Layout) (kept : Kept) (targets : VisitId → List StoreVisit) (pages : Pages)
    (rows : AreRows kept targets) (laid : IsLaid at kept targets pages) where
  -- the slots of items say their ids
  items_say : HaveSlots pages kept.items at.item (reads_of at kept).item_slots
  items_say =
      record {
        are = map-map at.item (λ (i : TreeItem). i.id) kept.items;
        ascending = rows.well.item_ids.ascending;
        says = λ k d within. ap (option_and_then item_id) (laid.rows.items k d within);
      }

  -- the slots that name an item as their parent are its children
  pub have_parents : HaveParents at kept pages
  have_parents =
      children_listed pages kept.items at.item (reads_of at kept).item_slots (reads_of at kept).items items_say
      laid.chains.children (map-map (λ (r : Item). r.parent) (item_at at kept.items) kept.items) rows.children
      rows.once

  -- the rows of the store are read
  pub read_from_form : AreReadFrom pages (reads_of at kept)
  read_from_form = form_reads at kept targets pages rows laid have_parents

  -- and nothing else
  pub read_as_rows : (r : Reads) → AreReadFrom pages r → r ≡ reads_of at kept
  read_as_rows r from = reads_are at kept r (form_read at kept targets pages rows laid have_parents r from)

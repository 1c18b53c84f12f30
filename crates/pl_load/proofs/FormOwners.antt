-- Pages that are the form of a store name owners that are there: each page a slot with an origin,
-- and each item a parent that is an item, or none.
use Rattle.std.proofs.Common.{◌≡◌, ◌||◌, ◌==◌, List, Option, Some, None, ap, find, map, refl, true}
use Rattle.std.specs.Option.{option_map}
use Rattle.std.proofs.lemmas.Bool.{or_right}
use Rattle.pl_base.specs.declared.id.Slot.{Slot}
use Rattle.pl_base.specs.declared.id.VisitId.{VisitId}
use Rattle.pl_base.specs.Rows.{Kept, KeptPage}
use Rattle.pl_base.specs.Store.{Item as TreeItem, Visit as StoreVisit}
use Rattle.pl_base.specs.Tree.{has_child}
use Rattle.pl_base.proofs.ListLaws.{everyone, to_map, weaker}
use Rattle.pl_base.proofs.LookUps.{found_holds}
use Rattle.pl_load.specs.Owners.{NameOwners, names_origin, names_parent}
use Rattle.pl_load.specs.Reads.{item_at, place_at}
use Rattle.pl_load.proofs.FormReads.{reads_of}
use Rattle.pl_load.proofs.ListParts.{pass_all}
use Rattle.pl_rail.specs.declared.owner.Owner.TheVariants.{Header}
use Rattle.pl_rail.specs.Rails.{is_kind, is_member}
use Rattle.pl_record.specs.Form.{AreRows, IsLaid}
use Rattle.pl_record.specs.Records.{Layout, slot_or_none}
use Rattle.pl_record.proofs.LaidSlots.{item_kinds, named_kinds}
use Rattle.pl_sheets.specs.Sheets.{Pages}
use Rattle.pl_slot.specs.declared.kind.LiveKind.TheVariants as live
use Rattle.pl_slot.specs.declared.kind.SlotKind.TheVariants as kinds
use Rattle.pl_slot.specs.declared.links.Rail.TheVariants.{Live}
use Rattle.pl_slot.specs.Links.{kind_at}

module _ (at : Layout) (kept : Kept) (targets : VisitId → List StoreVisit) (pages : Pages)
    (rows : AreRows kept targets) (laid : IsLaid at kept targets pages) where
  -- an item stands in this slot
  abbrev HoldsItem : TreeItem → Type 0
  HoldsItem p = kind_at (at.item p.id).0 pages ≡ Some kinds.Item

  -- the slot of an item that was looked for, or 0
  abbrev found_slot : Option TreeItem → Slot
  found_slot found = slot_or_none at.item (option_map (λ (p : TreeItem). p.id) found)

  found_there : (found : Option TreeItem) → ((p : TreeItem) → found ≡ Some p → HoldsItem p)
      → (((found_slot found).0 == 0) || is_member Live (Header live.Item) pages (found_slot found)) ≡ true
  found_there None held = refl
  found_there (Some p) held =
      or_right ((at.item p.id).0 == 0) (is_member Live (Header live.Item) pages (at.item p.id))
      (ap (λ kind. is_kind kind (Some kinds.Item)) (held p refl))

  parent_there : (i : TreeItem) → names_parent pages (item_at at kept.items i) ≡ true
  parent_there i =
      found_there (find (has_child i.id) kept.items)
      (λ p found. found_holds HoldsItem (has_child i.id) kept.items p (item_kinds at kept pages laid.rows) found)

  pub form_owners : NameOwners pages (reads_of at kept)
  form_owners =
      record {
        origins =
            pass_all (names_origin pages) (map (place_at at) kept.pages)
            (to_map (λ p. names_origin pages p ≡ true) (place_at at) kept.pages
            (weaker (λ (p : KeptPage). kind_at p.origin.0 pages ≡ Some kinds.Origin)
            (λ (p : KeptPage). names_origin pages (place_at at p) ≡ true) kept.pages
            (λ p is. ap (λ kind. is_kind kind (Some kinds.Origin)) is)
            (named_kinds at kept pages laid.rows rows.well)));
        parents =
            pass_all (names_parent pages) (map (item_at at kept.items) kept.items)
            (to_map (λ i. names_parent pages i ≡ true) (item_at at kept.items) kept.items
            (everyone (λ (i : TreeItem). names_parent pages (item_at at kept.items i) ≡ true) kept.items
            parent_there));
      }

-- Where what was read from an arena is a good store's rows, and its links make the lists that they
-- demand, the arena is the form of these rows.
use Rattle.std.proofs.Common.{◌≡◌, ◌∙◌, ◌-◌, ◌+◌, length, map, replicate, sym, true}
use Rattle.std.proofs.lemmas.List.Elements.{All-weaker}
use Rattle.pl_base.specs.declared.id.ItemId.{ItemId}
use Rattle.pl_base.specs.Good.{IsGood, IsGoodItem, IsTitle}
use Rattle.pl_base.specs.Live.{origin_count}
use Rattle.pl_base.specs.Rows.{IsWellKept, Kept, store_of}
use Rattle.pl_base.specs.Store.{Item as TreeItem}
use Rattle.pl_base.specs.Touched.{page_size}
use Rattle.pl_base.specs.Tree.{has_item}
use Rattle.pl_base.proofs.TargetsRun.{differ_all}
use Rattle.pl_load.specs.Chained.{HasLoneSlots, HasOwnLists, HasTargetLists}
use Rattle.pl_load.specs.Owners.{NameOwners}
use Rattle.pl_load.specs.Reads.{AreRead, AreReadFrom, Reads}
use Rattle.pl_load.proofs.ChainsRead.{has_alone, has_chains, item_pages, targets_of}
use Rattle.pl_load.proofs.HeldRows.{has_live, held_once, held_rows, held_texts}
use Rattle.pl_load.proofs.Layouts.{AreParents}
use Rattle.pl_load.proofs.Layouts.{kept_of, layout_of}
use Rattle.pl_load.proofs.LiveRead.{live_counted}
use Rattle.pl_load.proofs.ParentsTold.{children_once, parents_are, rows_read}
use Rattle.pl_load.proofs.SourceSlots.{sources_there}
use Rattle.pl_load.proofs.TargetLists.{targeted}
use Rattle.pl_load.proofs.WellRead.{good_rows, well_read}
use Rattle.pl_origins.specs.Names.{AreNamed, named}
use Rattle.pl_reading.specs.Texts.{row_texts, wanted}
use Rattle.pl_record.specs.declared.rows.Place.{Place}
use Rattle.pl_record.specs.Form.{AreRows, IsForm, IsHeader, IsLaid, form_name, header_size}
use Rattle.pl_record.specs.Records.{HoldsRows, Layout}
use Rattle.pl_sheets.specs.Sheets.{Pages}
use Rattle.pl_slot.specs.Arena.{IsArena, header_of}
use Rattle.pl_stored.specs.declared.stored.StoredPage.{StoredPage}
use Rattle.pl_stored.specs.Stored.{stored_store}
use Rattle.pl_stored.proofs.FewChildren.{children_known}

module _ (pages : Pages) (reads : Reads) (arena : IsArena pages)
    (named_header : ((header_of pages).form ≡ form_name)
    × ((header_of pages).rest ≡ replicate (page_size - header_size) 0))
    (from : AreReadFrom pages reads) (owners : NameOwners pages reads) (own : HasOwnLists pages reads)
    (targets : HasTargetLists pages reads) (lone : HasLoneSlots pages reads)
    (good : IsGood (stored_store reads.stored))
    (names : AreNamed (named reads.stored.pages (map (λ (p : Place). p.origin) reads.places)))
    (count : length reads.origins ≡ origin_count (map (λ (p : StoredPage). p.url) reads.stored.pages))
    (live : (header_of pages).live
    ≡ length reads.origins + length reads.places + length reads.visits + length reads.items
    + wanted (row_texts reads.places reads.items)) where
  abbrev at : Layout
  at = layout_of pages reads

  abbrev kept : Kept
  kept = kept_of reads

  well : IsWellKept kept
  well = well_read pages reads from good owners own names arena count

  parents : AreParents pages reads
  parents = parents_are pages reads from good owners

  are : AreRead at kept reads
  are = rows_read pages reads from good owners

  held : HoldsRows at kept pages
  held = held_rows pages reads from good parents

  -- ---- the rows

  pub rows : AreRows kept (targets_of pages reads targets)
  rows =
      record {
        well = well;
        targeted =
            targeted pages at kept held.visits (differ_all kept well) (sources_there kept well) reads.visit_slots
            reads.visits are.visit_slots are.visits targets.slots targets.listed targets.first;
        titles =
            All-weaker (IsGoodItem (store_of kept)) (λ (i : TreeItem). IsTitle i.title) (λ i told. told.title)
            kept.items (good_rows pages reads from good).items;
        own = item_pages pages reads from good owners well;
        children =
            λ k d within.
            children_known (λ (c : ItemId). has_item kept.items c ≡ true) kept.items k d within good.tree.known;
        once = children_once pages reads from good owners;
      }

  -- ---- the pages

  header : IsHeader kept (header_of pages)
  header =
      record {
        form = named_header.0;
        day = sym from.day;
        ids = sym from.ids;
        live = live ∙ sym (live_counted pages reads from good count);
        rest = named_header.1;
      }

  pub laid : IsLaid at kept (targets_of pages reads targets) pages
  laid =
      record {
        arena = arena;
        header = header;
        rows = held;
        texts = held_texts pages reads from good;
        slots = held_once pages reads from good parents;
        live = has_live pages reads from good parents;
        chains = has_chains pages reads from good owners well own targets;
        alone = has_alone pages reads from good owners well lone;
      }

  -- ---- both

  pub accepted : IsForm kept (targets_of pages reads targets) pages
  accepted = record { at = at; rows = rows; laid = laid }

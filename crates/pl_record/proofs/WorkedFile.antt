-- A store with a row of every kind, laid out by hand: its form, computed.
use Rattle.std.proofs.Common.{◌≡◌, ◌≤◌, ◌==◌, ◌-◌, ◌∷◌, ◌++◌, [], ℕ, List, None, Some, arith, false, if◌then◌else◌, codes, pos, refl, replicate, suc, true, zero}
use Rattle.std.specs.Int.{w32, to_le_bytes}
use Rattle.std.specs.List.{IsDistinct, flat_map}
use Rattle.std.specs.Option.{IsSome}
use Rattle.std.proofs.lemmas.List.Elements.{All-from_recursion}
use Rattle.pl_base.specs.declared.id.PageId.{PageId}
use Rattle.pl_base.specs.declared.id.VisitId.{VisitId}
use Rattle.pl_base.specs.declared.item.ItemKind.TheVariants.{Bookmark, Separator}
use Rattle.pl_base.specs.declared.transition.Transition.TheVariants.{RedirectPermanent, Typed}
use Rattle.pl_base.specs.Rows.{Kept, KeptOrigin, KeptPage, page_visits}
use Rattle.pl_base.specs.Store.{Item, Visit, item_id, root_folder, top_folders}
use Rattle.pl_base.specs.Touched.{page_size}
use Rattle.pl_base.specs.Tree.{parent_of, references}
use Rattle.pl_record.specs.Chains.{HasAlone, HasChains, HasLive, IsAlone, item_slots, page_slots, pages_in, visit_slots}
use Rattle.pl_record.specs.Form.{form_name, pages_of}
use Rattle.pl_record.specs.Opening.{root_row, slot}
use Rattle.pl_record.specs.Records.{HoldsOnce, HoldsRow, HoldsRows, HoldsTexts, Layout, item_record, origin_record, page_record}
use Rattle.pl_record.specs.Records.{row_slots, text_slots, visit_record}
use Rattle.pl_rail.specs.declared.owner.Owner.TheVariants.{At}
use Rattle.pl_rail.specs.Rails.{Lists, none}
use Rattle.pl_sheets.specs.Sheets.{Pages}
use Rattle.pl_slot.specs.declared.links.Rail.TheVariants.{Children, OriginPages, PageVisits, References, Targets}
use Rattle.pl_slot.specs.declared.row.SlotRow.{SlotRow}
use Rattle.pl_slot.specs.declared.row.SlotRow.TheVariants as rows
use Rattle.pl_slot.specs.Arena.{KeepsSlots, header_of, is_among, is_free, is_live, row_at}
use Rattle.pl_slot.specs.Links.{kind_at, link_at}
use Rattle.pl_slot.specs.Slot.{slot_bytes}
use Rattle.pl_slot.specs.SlotReading.{row_of}
use Rattle.pl_slot.proofs.ArenaLaws.{free_slot, live_slot}
use Rattle.pl_slot.proofs.SlotPlaces.{slot_bounds}
use Rattle.pl_text.specs.Chunks.{Hold, chunk_row}

-- ---- the store: a typed visit to a page with a title and a bookmark, a redirect from it to
-- ---- another page, and a separator behind the bookmark

abbrev page_id : ℕ → PageId
page_id n = record { 0 = n }

abbrev visit_id : ℕ → VisitId
visit_id n = record { 0 = n }

abbrev worked_items : List Item
worked_items =
    root_folder 1 top_folders ∷ root_folder 2 [] ∷ root_folder 3 (item_id 7 ∷ item_id 8 ∷ []) ∷ root_folder 4 []
    ∷ root_folder 5 [] ∷ root_folder 6 []
    ∷ record {
      id = item_id 7;
      kind = Bookmark;
      title = codes "Mark";
      page = Some (page_id 1);
      added = record { 0 = 5 };
      modified = record { 0 = 6 };
      children = [];
    }
    ∷ record {
      id = item_id 8;
      kind = Separator;
      title = [];
      page = None;
      added = record { 0 = 5 };
      modified = record { 0 = 5 };
      children = [];
    }
    ∷ []

abbrev worked_kept : Kept
worked_kept =
    record {
      day = record { 0 = 0 };
      ids = record { page = 3; visit = 3; item = 9 };
      pages =
          record {
            page = record { id = page_id 1; url = codes "https://a.example/"; title = codes "A"; typed = true };
            origin = slot 7;
            frecency = pos 2000;
            count = 1;
            hidden = false;
          }
          ∷ record {
            page = record { id = page_id 2; url = codes "https://b.example/"; title = []; typed = false };
            origin = slot 13;
            frecency = pos 100;
            count = 1;
            hidden = true;
          }
          ∷ [];
      origins = record { origin = slot 7; total = 2000 } ∷ record { origin = slot 13; total = 100 } ∷ [];
      visits =
          record {
            id = visit_id 1;
            page = page_id 1;
            date = record { 0 = 0 };
            transition = Typed;
            source = None;
          }
          ∷ record {
            id = visit_id 2;
            page = page_id 2;
            date = record { 0 = 1 };
            transition = RedirectPermanent;
            source = Some (visit_id 1);
          }
          ∷ [];
      items = worked_items;
    }

abbrev worked_targets : VisitId → List Visit
worked_targets id =
    if id.0 == 1
    then record {
      id = visit_id 2;
      page = page_id 2;
      date = record { 0 = 1 };
      transition = RedirectPermanent;
      source = Some (visit_id 1);
    }
    ∷ []
    else []

-- ---- its slots

abbrev worked_rows : List SlotRow
worked_rows =
    root_row 1 0 2 0 0 0 2 6
    ∷ root_row 2 1 3 1 0 3 0 0
    ∷ root_row 3 2 4 1 2 4 16 18
    ∷ root_row 4 3 5 1 3 5 0 0
    ∷ root_row 5 4 6 1 4 6 0 0
    ∷ root_row 6 5 16 1 5 0 0 0
    ∷ rows.Origin none (slot 13) (slot 8) (slot 8) 2000
    ∷ rows.Place true false none (slot 12) (record { 0 = 1 }) (slot 7) none none (slot 10) (slot 10) (slot 16) (slot 16) (slot 9) 18
    (slot 15) 1 (pos 2000) 1
    ∷ chunk_row (codes "https://a.example/") none
    ∷ rows.Visit Typed none (slot 11) (record { 0 = 1 }) (slot 8) none none none none none (slot 11) (slot 11) (record { 0 = 0 })
    ∷ rows.Visit RedirectPermanent (slot 10) none (record { 0 = 2 }) (slot 12) none none (slot 10) none none none none
    (record { 0 = 1 })
    ∷ rows.Place false true (slot 8) none (record { 0 = 2 }) (slot 13) none none (slot 11) (slot 11) none none (slot 14) 18 none 0
    (pos 100) 1
    ∷ rows.Origin (slot 7) none (slot 12) (slot 12) 100
    ∷ chunk_row (codes "https://b.example/") none
    ∷ chunk_row (codes "A") none
    ∷ rows.Item Bookmark (slot 6) (slot 18) (record { 0 = 7 }) (slot 3) none (slot 18) none none (slot 8) none none (slot 17) 4
    (record { 0 = 5 }) (record { 0 = 6 })
    ∷ chunk_row (codes "Mark") none
    ∷ rows.Item Separator (slot 16) none (record { 0 = 8 }) (slot 3) (slot 16) none none none none none none none 0 (record { 0 = 5 })
    (record { 0 = 5 })
    ∷ rows.Free (slot 20)
    ∷ rows.Free (slot 21)
    ∷ rows.Free (slot 22)
    ∷ rows.Free (slot 23)
    ∷ rows.Free (slot 24)
    ∷ rows.Free (slot 0) ∷ []

abbrev worked_header : List ℕ
worked_header =
    form_name
    ++ flat_map (to_le_bytes w32)
    (5 ∷ 0 ∷ 3 ∷ 3 ∷ 9 ∷ 19 ∷ 7 ∷ 13 ∷ 8 ∷ 12 ∷ 10 ∷ 11 ∷ 1 ∷ 18 ∷ 18 ∷ [])

abbrev worked_bytes : List ℕ
worked_bytes = worked_header ++ replicate (page_size - 68) 0 ++ flat_map slot_bytes worked_rows

abbrev worked_pages : Pages
worked_pages = pages_of worked_bytes

-- pages 1 and 2 in slots 8 and 12, visits 1 and 2 in slots 10 and 11, the items 7 and 8 in slots 16
-- and 18
abbrev worked_layout : Layout
worked_layout =
    record {
      page = λ id. if id.0 == 1 then slot 8 else slot 12;
      visit = λ id. if id.0 == 1 then slot 10 else slot 11;
      item = λ id. if id.0 == 7 then slot 16 else if id.0 == 8 then slot 18 else slot id.0;
      url = λ id. if id.0 == 1 then 9 ∷ [] else 14 ∷ [];
      title = λ id. if id.0 == 1 then 15 ∷ [] else [];
      item_title = λ id. if id.0 == 7 then 17 ∷ [] else [];
    }

-- the numbers of its slots
each : (P : ℕ → Type 0) → P 1 → P 2 → P 3 → P 4 → P 5 → P 6 → P 7 → P 8 → P 9 → P 10 → P 11 → P 12 → P 13 → P 14 → P 15 → P 16 → P 17 → P 18 → P 19 → P 20 → P 21 → P 22 → P 23 → P 24 → (n : ℕ) → 1 ≤ n → n ≤ 24 → P n
each P p1 p2 p3 p4 p5 p6 p7 p8 p9 p10 p11 p12 p13 p14 p15 p16 p17 p18 p19 p20 p21 p22 p23 p24 zero some few = absurd (omega (arith, some))
each P p1 p2 p3 p4 p5 p6 p7 p8 p9 p10 p11 p12 p13 p14 p15 p16 p17 p18 p19 p20 p21 p22 p23 p24 (suc zero) some few = p1
each P p1 p2 p3 p4 p5 p6 p7 p8 p9 p10 p11 p12 p13 p14 p15 p16 p17 p18 p19 p20 p21 p22 p23 p24 (suc (suc zero)) some few = p2
each P p1 p2 p3 p4 p5 p6 p7 p8 p9 p10 p11 p12 p13 p14 p15 p16 p17 p18 p19 p20 p21 p22 p23 p24 (suc (suc (suc zero))) some few = p3
each P p1 p2 p3 p4 p5 p6 p7 p8 p9 p10 p11 p12 p13 p14 p15 p16 p17 p18 p19 p20 p21 p22 p23 p24 (suc (suc (suc (suc zero)))) some few = p4
each P p1 p2 p3 p4 p5 p6 p7 p8 p9 p10 p11 p12 p13 p14 p15 p16 p17 p18 p19 p20 p21 p22 p23 p24 (suc (suc (suc (suc (suc zero))))) some few = p5
each P p1 p2 p3 p4 p5 p6 p7 p8 p9 p10 p11 p12 p13 p14 p15 p16 p17 p18 p19 p20 p21 p22 p23 p24 (suc (suc (suc (suc (suc (suc zero)))))) some few = p6
each P p1 p2 p3 p4 p5 p6 p7 p8 p9 p10 p11 p12 p13 p14 p15 p16 p17 p18 p19 p20 p21 p22 p23 p24 (suc (suc (suc (suc (suc (suc (suc zero))))))) some few = p7
each P p1 p2 p3 p4 p5 p6 p7 p8 p9 p10 p11 p12 p13 p14 p15 p16 p17 p18 p19 p20 p21 p22 p23 p24 (suc (suc (suc (suc (suc (suc (suc (suc zero)))))))) some few = p8
each P p1 p2 p3 p4 p5 p6 p7 p8 p9 p10 p11 p12 p13 p14 p15 p16 p17 p18 p19 p20 p21 p22 p23 p24 (suc (suc (suc (suc (suc (suc (suc (suc (suc zero))))))))) some few = p9
each P p1 p2 p3 p4 p5 p6 p7 p8 p9 p10 p11 p12 p13 p14 p15 p16 p17 p18 p19 p20 p21 p22 p23 p24 (suc (suc (suc (suc (suc (suc (suc (suc (suc (suc zero)))))))))) some few = p10
each P p1 p2 p3 p4 p5 p6 p7 p8 p9 p10 p11 p12 p13 p14 p15 p16 p17 p18 p19 p20 p21 p22 p23 p24 (suc (suc (suc (suc (suc (suc (suc (suc (suc (suc (suc zero))))))))))) some few = p11
each P p1 p2 p3 p4 p5 p6 p7 p8 p9 p10 p11 p12 p13 p14 p15 p16 p17 p18 p19 p20 p21 p22 p23 p24 (suc (suc (suc (suc (suc (suc (suc (suc (suc (suc (suc (suc zero)))))))))))) some few = p12
each P p1 p2 p3 p4 p5 p6 p7 p8 p9 p10 p11 p12 p13 p14 p15 p16 p17 p18 p19 p20 p21 p22 p23 p24 (suc (suc (suc (suc (suc (suc (suc (suc (suc (suc (suc (suc (suc zero))))))))))))) some few = p13
each P p1 p2 p3 p4 p5 p6 p7 p8 p9 p10 p11 p12 p13 p14 p15 p16 p17 p18 p19 p20 p21 p22 p23 p24 (suc (suc (suc (suc (suc (suc (suc (suc (suc (suc (suc (suc (suc (suc zero)))))))))))))) some few = p14
each P p1 p2 p3 p4 p5 p6 p7 p8 p9 p10 p11 p12 p13 p14 p15 p16 p17 p18 p19 p20 p21 p22 p23 p24 (suc (suc (suc (suc (suc (suc (suc (suc (suc (suc (suc (suc (suc (suc (suc zero))))))))))))))) some few = p15
each P p1 p2 p3 p4 p5 p6 p7 p8 p9 p10 p11 p12 p13 p14 p15 p16 p17 p18 p19 p20 p21 p22 p23 p24 (suc (suc (suc (suc (suc (suc (suc (suc (suc (suc (suc (suc (suc (suc (suc (suc zero)))))))))))))))) some few = p16
each P p1 p2 p3 p4 p5 p6 p7 p8 p9 p10 p11 p12 p13 p14 p15 p16 p17 p18 p19 p20 p21 p22 p23 p24 (suc (suc (suc (suc (suc (suc (suc (suc (suc (suc (suc (suc (suc (suc (suc (suc (suc zero))))))))))))))))) some few = p17
each P p1 p2 p3 p4 p5 p6 p7 p8 p9 p10 p11 p12 p13 p14 p15 p16 p17 p18 p19 p20 p21 p22 p23 p24 (suc (suc (suc (suc (suc (suc (suc (suc (suc (suc (suc (suc (suc (suc (suc (suc (suc (suc zero)))))))))))))))))) some few = p18
each P p1 p2 p3 p4 p5 p6 p7 p8 p9 p10 p11 p12 p13 p14 p15 p16 p17 p18 p19 p20 p21 p22 p23 p24 (suc (suc (suc (suc (suc (suc (suc (suc (suc (suc (suc (suc (suc (suc (suc (suc (suc (suc (suc zero))))))))))))))))))) some few = p19
each P p1 p2 p3 p4 p5 p6 p7 p8 p9 p10 p11 p12 p13 p14 p15 p16 p17 p18 p19 p20 p21 p22 p23 p24 (suc (suc (suc (suc (suc (suc (suc (suc (suc (suc (suc (suc (suc (suc (suc (suc (suc (suc (suc (suc zero)))))))))))))))))))) some few = p20
each P p1 p2 p3 p4 p5 p6 p7 p8 p9 p10 p11 p12 p13 p14 p15 p16 p17 p18 p19 p20 p21 p22 p23 p24 (suc (suc (suc (suc (suc (suc (suc (suc (suc (suc (suc (suc (suc (suc (suc (suc (suc (suc (suc (suc (suc zero))))))))))))))))))))) some few = p21
each P p1 p2 p3 p4 p5 p6 p7 p8 p9 p10 p11 p12 p13 p14 p15 p16 p17 p18 p19 p20 p21 p22 p23 p24 (suc (suc (suc (suc (suc (suc (suc (suc (suc (suc (suc (suc (suc (suc (suc (suc (suc (suc (suc (suc (suc (suc zero)))))))))))))))))))))) some few = p22
each P p1 p2 p3 p4 p5 p6 p7 p8 p9 p10 p11 p12 p13 p14 p15 p16 p17 p18 p19 p20 p21 p22 p23 p24 (suc (suc (suc (suc (suc (suc (suc (suc (suc (suc (suc (suc (suc (suc (suc (suc (suc (suc (suc (suc (suc (suc (suc zero))))))))))))))))))))))) some few = p23
each P p1 p2 p3 p4 p5 p6 p7 p8 p9 p10 p11 p12 p13 p14 p15 p16 p17 p18 p19 p20 p21 p22 p23 p24 (suc (suc (suc (suc (suc (suc (suc (suc (suc (suc (suc (suc (suc (suc (suc (suc (suc (suc (suc (suc (suc (suc (suc (suc zero)))))))))))))))))))))))) some few = p24
each P p1 p2 p3 p4 p5 p6 p7 p8 p9 p10 p11 p12 p13 p14 p15 p16 p17 p18 p19 p20 p21 p22 p23 p24 (suc (suc (suc (suc (suc (suc (suc (suc (suc (suc (suc (suc (suc (suc (suc (suc (suc (suc (suc (suc (suc (suc (suc (suc (suc n))))))))))))))))))))))))) some few = absurd (omega (arith, few))

-- ---- its form

rows_held : HoldsRows worked_layout worked_kept worked_pages
unfolding row_at row_of
rows_held =
    record {
      origins =
          All-from_recursion (λ (o : KeptOrigin). HoldsRow (origin_record o) worked_pages) worked_kept.origins (refl, (refl, tt));
      places =
          All-from_recursion (λ (p : KeptPage). HoldsRow (page_record worked_layout p) worked_pages) worked_kept.pages (refl, (refl, tt));
      visits =
          All-from_recursion (λ (v : Visit). HoldsRow (visit_record worked_layout v) worked_pages) worked_kept.visits (refl, (refl, tt));
      items =
          All-from_recursion (λ (i : Item). HoldsRow (item_record worked_layout worked_items i) worked_pages) worked_items
          (refl, (refl, (refl, (refl, (refl, (refl, (refl, (refl, tt))))))));
    }

texts_held : HoldsTexts worked_layout worked_kept worked_pages
unfolding row_at row_of
texts_held =
    record {
      urls =
          All-from_recursion (λ (p : KeptPage). Hold (worked_layout.url p.page.id) p.page.url worked_pages)
          worked_kept.pages ((omega arith, refl, refl), ((omega arith, refl, refl), tt));
      titles =
          All-from_recursion (λ (p : KeptPage). Hold (worked_layout.title p.page.id) p.page.title worked_pages)
          worked_kept.pages ((omega arith, refl, refl), (refl, tt));
      item_titles =
          All-from_recursion (λ (i : Item). Hold (worked_layout.item_title i.id) i.title worked_pages) worked_items
          (refl, (refl, (refl, (refl, (refl, (refl, ((omega arith, refl, refl), (refl, tt))))))));
    }

once : HoldsOnce worked_layout worked_kept worked_pages
unfolding row_at row_of IsDistinct
once =
    record {
      once = ((refl, (refl, (refl, (refl, (refl, (refl, (refl, (refl, (refl, (refl, (refl, (refl, (refl, (refl, (refl, (refl, (refl, tt))))))))))))))))), ((refl, (refl, (refl, (refl, (refl, (refl, (refl, (refl, (refl, (refl, (refl, (refl, (refl, (refl, (refl, (refl, tt)))))))))))))))), ((refl, (refl, (refl, (refl, (refl, (refl, (refl, (refl, (refl, (refl, (refl, (refl, (refl, (refl, (refl, tt))))))))))))))), ((refl, (refl, (refl, (refl, (refl, (refl, (refl, (refl, (refl, (refl, (refl, (refl, (refl, (refl, tt)))))))))))))), ((refl, (refl, (refl, (refl, (refl, (refl, (refl, (refl, (refl, (refl, (refl, (refl, (refl, tt))))))))))))), ((refl, (refl, (refl, (refl, (refl, (refl, (refl, (refl, (refl, (refl, (refl, (refl, tt)))))))))))), ((refl, (refl, (refl, (refl, (refl, (refl, (refl, (refl, (refl, (refl, (refl, tt))))))))))), ((refl, (refl, (refl, (refl, (refl, (refl, (refl, (refl, (refl, (refl, tt)))))))))), ((refl, (refl, (refl, (refl, (refl, (refl, (refl, (refl, (refl, tt))))))))), ((refl, (refl, (refl, (refl, (refl, (refl, (refl, (refl, tt)))))))), ((refl, (refl, (refl, (refl, (refl, (refl, (refl, tt))))))), ((refl, (refl, (refl, (refl, (refl, (refl, tt)))))), ((refl, (refl, (refl, (refl, (refl, tt))))), ((refl, (refl, (refl, (refl, tt)))), ((refl, (refl, (refl, tt))), ((refl, (refl, tt)), ((refl, tt), (tt, tt))))))))))))))))));
      whole = λ n is.
          let within = slot_bounds n worked_pages (live_slot n worked_pages is) in
          each (λ k. is_live k worked_pages ≡ true
          → is_among k (row_slots worked_layout worked_kept ++ text_slots worked_layout worked_kept) ≡ true)
          (λ there. refl) (λ there. refl) (λ there. refl) (λ there. refl) (λ there. refl) (λ there. refl) (λ there. refl) (λ there. refl) (λ there. refl) (λ there. refl) (λ there. refl) (λ there. refl) (λ there. refl) (λ there. refl) (λ there. refl) (λ there. refl) (λ there. refl) (λ there. refl) (λ never. never) (λ never. never) (λ never. never) (λ never. never) (λ never. never) (λ never. never)
          n within.0 within.1 is;
    }

live : HasLive worked_layout worked_kept worked_pages
unfolding row_at row_of header_of kind_at link_at
live =
    record {
      origins = record { members = refl; linked = (refl, refl, (refl, refl, (refl, refl, tt))) };
      places = record { members = refl; linked = (refl, refl, (refl, refl, (refl, refl, tt))) };
      visits = record { members = refl; linked = (refl, refl, (refl, refl, (refl, refl, tt))) };
      items = record { members = refl; linked = (refl, refl, (refl, refl, (refl, refl, (refl, refl, (refl, refl, (refl, refl, (refl, refl, (refl, refl, (refl, refl, tt))))))))) };
    }

chains : HasChains worked_layout worked_kept worked_targets worked_pages
unfolding row_at row_of header_of kind_at link_at
chains =
    record {
      origins =
          All-from_recursion (λ (o : KeptOrigin).
          Lists OriginPages (At o.origin) (page_slots worked_layout (pages_in worked_kept o.origin)) worked_pages)
          worked_kept.origins (record { members = refl; linked = (refl, refl, (refl, refl, tt)) }, (record { members = refl; linked = (refl, refl, (refl, refl, tt)) }, tt));
      visits =
          All-from_recursion (λ (p : KeptPage).
          Lists PageVisits (At (worked_layout.page p.page.id))
          (visit_slots worked_layout (page_visits worked_kept p.page.id)) worked_pages) worked_kept.pages (record { members = refl; linked = (refl, refl, (refl, refl, tt)) }, (record { members = refl; linked = (refl, refl, (refl, refl, tt)) }, tt));
      references =
          All-from_recursion (λ (p : KeptPage).
          Lists References (At (worked_layout.page p.page.id))
          (item_slots worked_layout (references worked_items p.page.id)) worked_pages) worked_kept.pages (record { members = refl; linked = (refl, refl, (refl, refl, tt)) }, (record { members = refl; linked = (refl, refl, tt) }, tt));
      targeted =
          All-from_recursion (λ (v : Visit).
          Lists Targets (At (worked_layout.visit v.id)) (visit_slots worked_layout (worked_targets v.id)) worked_pages)
          worked_kept.visits (record { members = refl; linked = (refl, refl, (refl, refl, tt)) }, (record { members = refl; linked = (refl, refl, tt) }, tt));
      children =
          All-from_recursion (λ (i : Item).
          Lists Children (At (worked_layout.item i.id)) (item_slots worked_layout i.children) worked_pages) worked_items
          (record { members = refl; linked = (refl, refl, (refl, refl, (refl, refl, (refl, refl, (refl, refl, (refl, refl, tt)))))) }, (record { members = refl; linked = (refl, refl, tt) }, (record { members = refl; linked = (refl, refl, (refl, refl, (refl, refl, tt))) }, (record { members = refl; linked = (refl, refl, tt) }, (record { members = refl; linked = (refl, refl, tt) }, (record { members = refl; linked = (refl, refl, tt) }, (record { members = refl; linked = (refl, refl, tt) }, (record { members = refl; linked = (refl, refl, tt) }, tt))))))));
    }

alone : HasAlone worked_layout worked_kept worked_pages
unfolding row_at row_of kind_at link_at
alone =
    record {
      visits =
          All-from_recursion (λ (v : Visit). v.source ≡ None → IsAlone Targets (worked_layout.visit v.id) worked_pages)
          worked_kept.visits ((λ none. record { before = refl; behind = refl }), ((λ some. absurd (cc)), tt));
      roots =
          All-from_recursion (λ (i : Item).
          parent_of worked_items i.id ≡ None → IsAlone Children (worked_layout.item i.id) worked_pages) worked_items
          ((λ none. record { before = refl; behind = refl }), ((λ some. absurd (cc)), ((λ some. absurd (cc)), ((λ some. absurd (cc)), ((λ some. absurd (cc)), ((λ some. absurd (cc)), ((λ some. absurd (cc)), ((λ some. absurd (cc)), tt))))))));
      others =
          All-from_recursion (λ (i : Item). i.page ≡ None → IsAlone References (worked_layout.item i.id) worked_pages)
          worked_items ((λ none. record { before = refl; behind = refl }), ((λ none. record { before = refl; behind = refl }), ((λ none. record { before = refl; behind = refl }), ((λ none. record { before = refl; behind = refl }), ((λ none. record { before = refl; behind = refl }), ((λ none. record { before = refl; behind = refl }), ((λ some. absurd (cc)), ((λ none. record { before = refl; behind = refl }), tt))))))));
    }

-- the slots that the store takes are counted by hand, since the origins of its URLs are not
-- computed here
header : ((header_of worked_pages).form ≡ form_name) × ((header_of worked_pages).day ≡ worked_kept.day)
    × ((header_of worked_pages).ids ≡ worked_kept.ids) × ((header_of worked_pages).live ≡ 18)
    × ((header_of worked_pages).rest ≡ replicate (page_size - 68) 0)
unfolding header_of
header = (refl, refl, refl, refl, refl)

slots : KeepsSlots worked_pages
unfolding row_at row_of header_of
slots =
    record {
      rows = λ n there.
          let within = slot_bounds n worked_pages there in
          each (λ k. IsSome (row_at k worked_pages)) refl refl refl refl refl refl refl refl refl refl refl refl refl refl refl refl refl refl refl refl refl refl refl refl n within.0 within.1;
      free =
          record {
            chain = 19 ∷ 20 ∷ 21 ∷ 22 ∷ 23 ∷ 24 ∷ [];
            first = refl;
            linked = (refl, (refl, (refl, (refl, (refl, (refl, tt))))));
            whole = λ n is.
                let within = slot_bounds n worked_pages (free_slot n worked_pages is) in
                each (λ k. is_free k worked_pages ≡ true → is_among k (19 ∷ 20 ∷ 21 ∷ 22 ∷ 23 ∷ 24 ∷ []) ≡ true)
                (λ never. never) (λ never. never) (λ never. never) (λ never. never) (λ never. never) (λ never. never) (λ never. never) (λ never. never) (λ never. never) (λ never. never) (λ never. never) (λ never. never) (λ never. never) (λ never. never) (λ never. never) (λ never. never) (λ never. never) (λ never. never) (λ there. refl) (λ there. refl) (λ there. refl) (λ there. refl) (λ there. refl) (λ there. refl) n within.0 within.1 is;
          };
    }

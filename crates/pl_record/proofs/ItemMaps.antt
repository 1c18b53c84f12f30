-- Rows, chains and slots of items that have other titles and dates, and all else that they had.
use Rattle.std.proofs.Common.{◌≡◌, ◌≢◌, ◌∙◌, ◌∷◌, ◌++◌, ◌+◌, ◌≤◌, ◌==◌, [], ℕ, All, Bool, List, Option, Some, None, ap}
use Rattle.std.proofs.Common.{arith, eqb, false, filter, find, get_or, if◌then◌else◌, map, refl, subst, sym, true}
use Rattle.std.specs.List.{AllPairs, IsDistinct, flat_map, slice_index_or}
use Rattle.std.specs.Option.{IfSome, option_map}
use Rattle.std.proofs.lemmas.Bool.{cond_both}
use Rattle.std.proofs.lemmas.List.{length-map}
use Rattle.std.proofs.lemmas.List.Elements.{All-map}
use Rattle.std.proofs.lemmas.List.Folds.{flat_map-map}
use Rattle.pl_base.specs.declared.id.ItemId.{ItemId}
use Rattle.pl_base.specs.declared.id.PageId.{PageId}
use Rattle.pl_base.specs.declared.id.VisitId.{VisitId}
use Rattle.pl_base.specs.Good.{AreIds, IsTitle}
use Rattle.pl_base.specs.Live.{live_slots, slot_limit}
use Rattle.pl_base.specs.Rows.{Kept, KeptOrigin, KeptPage, has_page, store_of, with_items}
use Rattle.pl_base.specs.Store.{Item, Visit}
use Rattle.pl_base.specs.Tree.{has_child, has_item, is_page, parent_of, references}
use Rattle.pl_base.proofs.ItemLaws.{title_slots}
use Rattle.pl_base.proofs.ListLaws.{find-map, list_any-map, map-alike, map-map}
use Rattle.pl_record.specs.Chains.{HasAlone, HasChains, HasLive, IsAlone, item_slots}
use Rattle.pl_record.specs.Form.{AreRows}
use Rattle.pl_record.specs.LinkedRows.{AreIndexed, Entries}
use Rattle.pl_record.specs.Records.{HoldsOnce, Layout, item_record, row_slots, slot_or_none, text_slots}
use Rattle.pl_record.specs.Rows.{with_parent}
use Rattle.pl_rail.specs.declared.owner.Owner.TheVariants.{At, Header}
use Rattle.pl_rail.specs.Rails.{Lists}
use Rattle.pl_sheets.specs.Sheets.{Pages}
use Rattle.pl_slot.specs.Arena.{is_among}
use Rattle.pl_slot.specs.declared.kind.LiveKind.TheVariants as kinds
use Rattle.pl_slot.specs.declared.links.Rail.TheVariants.{Children, Live, References}

-- an item with the title and the date of another one
abbrev pub with_texts : Item → Item → Item
with_texts i j = record i { title = j.title; modified = j.modified }

-- each item keeps all but its title and its date
abbrev pub KeepsTree : (Item → Item) → Type 0
KeepsTree f = (i : Item) → f i ≡ with_texts i (f i)

-- the item with this id is changed
abbrev pub at_item : ItemId → (Item → Item) → Item → Item
at_item id change i = if i.id.0 == id.0 then change i else i

pub tree_at : (id : ItemId) (change : Item → Item) → KeepsTree change → KeepsTree (at_item id change)
tree_at id change keeps i =
    cond_both (i.id.0 == id.0) (change i) i (λ (j : Item). j ≡ with_texts i j) (λ _. keeps i) (λ _. refl)

-- the layout in which the titles of items lie in these slots
abbrev pub with_titles_at : (ItemId → List ℕ) → Layout → Layout
with_titles_at slots at = record at { item_title = slots }

module _ (f : Item → Item) (keeps : KeepsTree f) where
  abbrev g : Item → Item
  g i = with_texts i (f i)

  items_are : (is : List Item) → map f is ≡ map g is
  items_are is = map-alike f g is keeps

  -- ---- what is told of items

  pub ids_same : (is : List Item) → map (λ (i : Item). i.id) (map f is) ≡ map (λ (i : Item). i.id) is
  ids_same is = ap (map (λ (i : Item). i.id)) (items_are is) ∙ map-map (λ (i : Item). i.id) g is

  pub parent_same : (is : List Item) (id : ItemId) → parent_of (map f is) id ≡ parent_of is id
  parent_same is id =
      ap (λ (js : List Item). parent_of js id) (items_are is)
      ∙ ap (option_map (λ (i : Item). i.id)) (find-map (has_child id) g is) ∙ still (find (has_child id) is)
    where
      still : (o : Option Item) → option_map (λ (i : Item). i.id) (option_map g o) ≡ option_map (λ (i : Item). i.id) o
      still None = refl
      still (Some i) = refl

  pub references_same : (is : List Item) (page : PageId) → references (map f is) page ≡ references is page
  references_same is page = ap (λ (js : List Item). references js page) (items_are is) ∙ same is
    where
      choose : (b : Bool) (i : Item) (is : List Item) → references (map g is) page ≡ references is page
          → map (λ (j : Item). j.id)
          (if b then g i ∷ filter (λ (j : Item). is_page page j.page) (map g is)
          else filter (λ (j : Item). is_page page j.page) (map g is))
          ≡ map (λ (j : Item). j.id)
          (if b then i ∷ filter (λ (j : Item). is_page page j.page) is
          else filter (λ (j : Item). is_page page j.page) is)
      choose true i is rest = ap (λ (ids : List ItemId). i.id ∷ ids) rest
      choose false i is rest = rest

      same : (is : List Item) → references (map g is) page ≡ references is page
      same [] = refl
      same (i ∷ is) = choose (is_page page i.page) i is (same is)

  -- ---- rows

  -- what an item's record says of its parent is what it said
  pub parent_kept : (at : Layout) (is : List Item) (i : Item) → item_record at (map f is) i ≡ item_record at is i
  parent_kept at is i =
      ap (λ (p : Option ItemId).
      record { slot = at.item i.id; row = with_parent (slot_or_none at.item p) (item_record at is i).row })
      (parent_same is i.id)

  module _ (kept : Kept) where
    abbrev now : Kept
    now = with_items (map f kept.items) kept

    -- the slots change by those of titles
    pub slots_mapped : live_slots (store_of now) + title_slots kept.items
        ≡ live_slots (store_of kept) + title_slots (map f kept.items)
    slots_mapped = omega (arith, length-map kept.items f)

    -- where titles are titles and the slots are not too many, they are rows of a store
    pub rows_mapped : (targets : VisitId → List Visit) → All (λ (i : Item). IsTitle i.title) (map f kept.items)
        → live_slots (store_of now) ≤ slot_limit → AreRows kept targets → AreRows now targets
    rows_mapped targets titles few h =
        subst (λ (js : List Item). AreRows (with_items js kept) targets) (sym (items_are kept.items))
        (record {
          well = record {
            day = h.well.day;
            page_ids = h.well.page_ids;
            visit_ids = h.well.visit_ids;
            item_ids =
                subst (AreIds 7 kept.ids.item) (sym (map-map (λ (i : Item). i.id.0) g kept.items)) h.well.item_ids;
            urls = h.well.urls;
            distinct_urls = h.well.distinct_urls;
            titles = h.well.titles;
            visits = h.well.visits;
            sources = h.well.sources;
            origins = record {
              distinct = h.well.origins.distinct;
              some = h.well.origins.some;
              known = h.well.origins.known;
              used = h.well.origins.used;
              same = h.well.origins.same;
            };
            live =
                subst (λ (js : List Item). live_slots (store_of (with_items js kept)) ≤ slot_limit)
                (items_are kept.items) few;
          };
          targeted =
              λ source.
              let t = h.targeted source in
              record {
                redirects = t.redirects;
                others = t.others;
                is = t.is;
                all_redirects = t.all_redirects;
                all_others = t.all_others;
              };
          titles = subst (All (λ (i : Item). IsTitle i.title)) (items_are kept.items) titles;
          own = All-map (λ (i : Item). IfSome i.page (λ id. has_page kept id ≡ true)) g kept.items h.own;
          children =
              All-map (λ (i : Item). All (λ c. has_item (map g kept.items) c ≡ true) i.children) g kept.items
              (λ k d within j e inside.
              list_any-map (λ (i : Item). i.id.0 == (get_or (get_or kept.items k d).children j e).0) g kept.items
              ∙ h.children k d within j e inside);
          once =
              subst (λ (ids : List ItemId). AllPairs (λ (a b : ItemId). a ≢ b) ids)
              (sym (flat_map-map (λ (i : Item). i.children) g kept.items)) h.once;
        })

    -- ---- chains and slots, wherever titles lie

    module _ (at : Layout) (titles : ItemId → List ℕ) where
      abbrev bt : Layout
      bt = with_titles_at titles at

      pub live_mapped : (pages : Pages) → HasLive at kept pages → HasLive bt now pages
      live_mapped pages live =
          record {
            origins = live.origins;
            places = live.places;
            visits = live.visits;
            items =
                subst (λ (ids : List ItemId). Lists Live (Header kinds.Item) (item_slots at ids) pages)
                (sym (ids_same kept.items)) live.items;
          }

      pub chains_mapped : (targets : VisitId → List Visit) (pages : Pages) → HasChains at kept targets pages
          → HasChains bt now targets pages
      chains_mapped targets pages chains =
          record {
            origins = chains.origins;
            visits = chains.visits;
            references = λ k d within.
                let id : PageId = (slice_index_or kept.pages k d).page.id in
                subst (λ (ids : List ItemId). Lists References (At (at.page id)) (item_slots at ids) pages)
                (sym (references_same kept.items id)) (chains.references k d within);
            targeted = chains.targeted;
            children =
                subst (λ (js : List Item). All (λ (i : Item).
                Lists Children (At (at.item i.id)) (item_slots at i.children) pages) js)
                (sym (items_are kept.items))
                (All-map (λ (i : Item). Lists Children (At (at.item i.id)) (item_slots at i.children) pages) g
                kept.items chains.children);
          }

      pub alone_mapped : (pages : Pages) → HasAlone at kept pages → HasAlone bt now pages
      alone_mapped pages alone =
          subst (λ (js : List Item). HasAlone bt (with_items js kept) pages) (sym (items_are kept.items))
          (record {
            visits = alone.visits;
            roots =
                All-map (λ (i : Item). parent_of (map g kept.items) i.id ≡ None → IsAlone Children (at.item i.id) pages)
                g kept.items
                (λ k d within is.
                alone.roots k d within
                (sym (ap (λ (js : List Item). parent_of js (slice_index_or kept.items k d).id)
                (sym (items_are kept.items))
                ∙ parent_same kept.items (slice_index_or kept.items k d).id) ∙ is));
            others =
                All-map (λ (i : Item). i.page ≡ None → IsAlone References (at.item i.id) pages) g kept.items
                alone.others;
          })

      pub entries_mapped : (ps vs is : Entries) → AreIndexed at kept ps vs is → AreIndexed bt now ps vs is
      entries_mapped ps vs is indexed =
          record {
            pages = indexed.pages;
            visits = indexed.visits;
            items =
                indexed.items
                ∙ sym (ap (map (λ (i : Item). (i.id.0, at.item i.id))) (items_are kept.items)
                ∙ map-map (λ (i : Item). (i.id.0, at.item i.id)) g kept.items);
          }

      pub row_slots_same : row_slots bt now ≡ row_slots at kept
      row_slots_same =
          ap (λ (ns : List ℕ).
          map (λ (o : KeptOrigin). o.origin.0) kept.origins ++ map (λ (p : KeptPage). (at.page p.page.id).0) kept.pages
          ++ map (λ (v : Visit). (at.visit v.id).0) kept.visits ++ ns)
          (ap (map (λ (i : Item). (at.item i.id).0)) (items_are kept.items)
          ∙ map-map (λ (i : Item). (at.item i.id).0) g kept.items)

    -- each slot holds one thing, where titles lie as before
    pub once_mapped : (at : Layout) (pages : Pages) → HoldsOnce at kept pages → HoldsOnce at now pages
    once_mapped at pages once =
        record {
          once = subst (λ (slots : List ℕ). IsDistinct eqb slots) (sym all_same) once.once;
          whole = λ n live. subst (λ (slots : List ℕ). is_among n slots ≡ true) (sym all_same) (once.whole n live);
        }
      where
        all_same : row_slots at now ++ text_slots at now ≡ row_slots at kept ++ text_slots at kept
        all_same =
            ap (λ (ns : List ℕ). ns ++ text_slots at now) (row_slots_same at at.item_title)
            ∙ ap (λ (ns : List ℕ).
            row_slots at kept ++ (flat_map (λ (p : KeptPage). at.url p.page.id ++ at.title p.page.id) kept.pages ++ ns))
            (ap (flat_map (λ (i : Item). at.item_title i.id)) (items_are kept.items)
            ∙ flat_map-map (λ (i : Item). at.item_title i.id) g kept.items)

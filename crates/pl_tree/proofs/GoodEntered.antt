-- A new entry in a tag folder keeps the items those of a good store, where the other tag folders
-- have entries.
use Rattle.std.proofs.Common.{◌≡◌, ◌≢◌, ◌<◌, ◌≤◌, inl, inr, List, [], Some, arith, refl, subst, sym}
use Rattle.std.specs.Prelude.{IsTrue}
use Rattle.std.proofs.lemmas.Bool.{cases_eq, ne_eqb}
use Rattle.std.proofs.lemmas.Str.{IsUtf8-nil}
use Rattle.pl_base.specs.declared.date.Micros.{Micros}
use Rattle.pl_base.specs.declared.id.Ids.{Ids}
use Rattle.pl_base.specs.declared.id.ItemId.{ItemId}
use Rattle.pl_base.specs.declared.id.PageId.{PageId}
use Rattle.pl_base.specs.Date.{IsDate}
use Rattle.pl_base.specs.Good.{HasGoodItems, child_ids, has_page_at}
use Rattle.pl_base.specs.Store.{Item, Store}
use Rattle.pl_base.specs.Tags.{tags_root}
use Rattle.pl_base.specs.Tree.{child_items, children_of, item_at}
use Rattle.pl_base.proofs.ItemLaws.{bare}
use Rattle.pl_base.proofs.Among.{In, in_map, not_empty}
use Rattle.pl_base.proofs.ItemLookUps.{same_item_number}
use Rattle.pl_tree.specs.declared.place.Place.TheVariants.{End}
use Rattle.pl_tree.specs.Changes.{item_of, put, with_new}
use Rattle.pl_tree.specs.Tagged.{new_entry}
use Rattle.pl_base.proofs.KeyCounts.{Ascends}
use Rattle.pl_tree.proofs.ChildLists.{grown, grown_new}
use Rattle.pl_tree.proofs.GoodRows.{HasGoodRows, with_tags}
use Rattle.pl_tree.proofs.InsertedChildren.{from_children}
use Rattle.pl_tree.proofs.InsertedRows.{IsFolderAt, inserted_rows}
use Rattle.pl_tree.proofs.LookedUp.{item_key}
use Rattle.pl_tree.proofs.MappedItems.{changed_other}
use Rattle.pl_tree.proofs.PutPlaces.{row_of_new}
use Rattle.pl_tree.proofs.RootItems.{no_root_below, no_tags, top_folder}
use Rattle.pl_tree.proofs.TaggedRows.{rows_with_entry}
use Rattle.pl_tree.proofs.TagRows.{AreUsed, HasTagRows, child_at, child_rows, has_tags}
use Rattle.pl_tree.proofs.TreeLaws.{child_below}

-- a tag folder is not the tags root
pub no_tags_root : (store : Store) → HasGoodRows store → (c : ItemId) → In c (children_of store.items tags_root)
    → c.0 ≢ 4
no_tags_root store good c h =
    no_tags c (no_root_below store tags_root c good.roots good.tree (λ same. omega arith) h)

module _ (old : Store) (ids : Ids) (id : ItemId) (page : PageId) (date : Micros) (tag : Item)
    (up : Ascends item_key old.items) (good : HasGoodRows old) (rows : HasTagRows old.items)
    (fresh : (i : Item) → In i old.items → i.id.0 < id.0) (late : 7 ≤ id.0)
    (tagged : In tag (child_items old.items tags_root))
    (other_pages : (i : Item) → In i (child_rows old.items tag.id) → i.page ≢ Some page)
    (used : (t : Item) → In t (child_items old.items tags_root) → t.id.0 ≢ tag.id.0 → t.children ≢ []) where
  abbrev items : List Item
  items = old.items

  abbrev store : Store
  store = record old { ids = ids; items = with_new id tag.id End (new_entry page date) items }

  child : In tag.id (children_of items tags_root)
  child = (child_at items tags_root tag tagged).0

  there : item_at items tag.id ≡ Some tag
  there = (child_at items tags_root tag tagged).1

  known : (c : ItemId) → In c (child_ids items) → c.0 < id.0
  known = child_below items id.0 good.tree fresh

  folder : IsFolderAt items tag.id
  folder =
      record {
        folder = tag;
        there = there;
        kind = (rows.folders (bare tag) (in_map bare (child_items items tags_root) tag tagged)).kind;
        not_first =
            no_root_below old tags_root tag.id good.roots good.tree (λ same. omega arith) child 1 (inl refl);
      }

  new_rows : HasTagRows store.items
  new_rows =
      let root = top_folder old 4 good.roots (inr (inr (inl refl))) in
      rows_with_entry items id date up fresh known rows root.0 root.1 (omega arith) (no_tags_root old good) page tag
      there child other_pages

  still_used : AreUsed store.items
  still_used j h =
      elim (from_children items id tag.id (item_of id (new_entry page date)) refl refl up fresh known tags_root j
      (omega arith) h) as (λ _. j.children ≢ []) [
        | inl (i, g, e) ↦ subst (λ (k : Item). k.children ≢ []) (sym e) (some i g)
        | inr (same, e) ↦ absurd (no_tags_root old good tag.id child (sym same))
      ]
    where
      some : (i : Item) → In i (child_items items tags_root) → (grown tag.id End id i).children ≢ []
      some i g =
          elim (cases_eq i.id.0 tag.id.0) as (λ _. (grown tag.id End id i).children ≢ []) [
            | inl e ↦
                not_empty (grown tag.id End id i).children id
                (grown_new tag.id End id i (same_item_number i.id tag.id e))
            | inr other ↦
                subst (λ (k : Item). k.children ≢ [])
                (sym (changed_other tag.id (λ (k : Item). record k { children = put End id k.children }) i
                (ne_eqb i.id.0 tag.id.0 other)))
                (used i g other)
          ]

  pub entered_good : IsDate date → IsTrue (has_page_at old page) → HasGoodItems store
  entered_good dated has =
      with_tags store
      (inserted_rows old ids id tag.id End (row_of_new tag.id (new_entry page date)) [] up good folder fresh late
      (IsUtf8-nil, omega arith) dated dated (λ _. refl, λ _. refl) has)
      (has_tags store new_rows still_used)

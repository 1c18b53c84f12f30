-- Without an entry, and without its tag folder where it was the last one, the items are those of a
-- good store.
use Rattle.std.proofs.Common.{◌≡◌, ◌≢◌, ◌==◌, ◌∷◌, ◌∙◌, inl, inr, true, List, []}
use Rattle.std.proofs.Common.{Some, ap, arith, eq-eqb, refl, subst, sym}
use Rattle.std.proofs.lemmas.Bool.{both_ways, cases_eq, eqb-true}
use Rattle.std.proofs.lemmas.Option.{same_Some}
use Rattle.pl_base.specs.declared.id.ItemId.{ItemId}
use Rattle.pl_base.specs.declared.item.ItemKind.TheVariants.{Bookmark}
use Rattle.pl_base.specs.Good.{HasGoodItems}
use Rattle.pl_base.specs.Store.{Item, Store}
use Rattle.pl_base.specs.Tags.{tags_root}
use Rattle.pl_base.specs.Tree.{child_items, children_of, has_item, item_at, parent_of, removed}
use Rattle.pl_base.proofs.ItemLaws.{bare}
use Rattle.pl_base.proofs.Among.{In, in_map, not_empty}
use Rattle.pl_base.proofs.ItemLookUps.{same_item_number}
use Rattle.pl_base.proofs.KeyCounts.{Ascends}
use Rattle.pl_base.proofs.Truths.{no_elements}
use Rattle.pl_tree.specs.Tagged.{if_none_left}
use Rattle.pl_tree.proofs.ChildLists.{left_other, without_other}
use Rattle.pl_tree.proofs.GoodEntered.{no_tags_root}
use Rattle.pl_tree.proofs.GoodRows.{HasGoodRows, good_rows, with_tags}
use Rattle.pl_tree.proofs.Insides.{LiesLaws}
use Rattle.pl_tree.proofs.KeptItems.{good_item}
use Rattle.pl_tree.proofs.LookedUp.{at_id, child_of, children_in, found_at, has_parent, id_key}
use Rattle.pl_tree.proofs.LookedUp.{in_child_ids, item_key, one_parent, parent_of_child}
use Rattle.pl_tree.proofs.RemovedChildren.{ascends_left, children_left, from_left}
use Rattle.pl_tree.proofs.RemovedRows.{removed_rows}
use Rattle.pl_tree.proofs.RootItems.{IsNoRoot, no_root_below, no_tags}
use Rattle.pl_tree.proofs.TagItems.{Bookmark≢Folder}
use Rattle.pl_tree.proofs.TagRows.{AreUsed, HasTagRows, are_used, child_at, has_tags, tag_rows}
use Rattle.pl_tree.proofs.TreeLaws.{child_known, child_once}
use Rattle.pl_tree.proofs.UntaggedRows.{rows_without}

-- a removal of an item without children
pub leaf_removed : (old : Store) (item : ItemId) → Ascends item_key old.items → HasGoodRows old
    → has_item old.items item ≡ true → IsNoRoot item
    → ((i : Item) → In i old.items → i.id ≡ item → i.children ≡ [])
    → HasGoodRows (record old { items = removed item old.items })
leaf_removed old item up good there no_root leaf =
    removed_rows old item up good (λ (c : ItemId). c.0 == item.0) there no_root alone
  where
    alone : LiesLaws old.items item (λ (c : ItemId). c.0 == item.0)
    alone =
        record {
          itself = λ has. eq-eqb item.0 item.0 refl;
          child =
              λ c p is within.
              let r = has_parent old.items c p is in
              let none : (r.0).children ≡ [] =
              leaf r.0 r.1 (r.2 ∙ same_item_number p item (eqb-true p.0 item.0 within))
              in
              absurd (subst (In c) none r.3);
          parent = λ c within other. absurd (both_ways (c.0 == item.0) other within);
        }

module _ (old : Store) (up : Ascends item_key old.items) (good : HasGoodItems old) (tag entry : Item)
    (tagged : In tag (child_items old.items tags_root)) (entered : In entry (child_items old.items tag.id)) where
  abbrev items : List Item
  items = old.items

  abbrev rows : HasGoodRows old
  rows = good_rows old good

  -- ---- without the entry

  abbrev pub mid : Store
  mid = record old { items = removed entry.id items }

  tag_child : In tag.id (children_of items tags_root)
  tag_child = (child_at items tags_root tag tagged).0

  pub entry_child : In entry.id (children_of items tag.id)
  entry_child = (child_at items tag.id entry entered).0

  no_root_tag : IsNoRoot tag.id
  no_root_tag = no_root_below old tags_root tag.id good.roots good.tree (λ same. omega arith) tag_child

  no_root_entry : IsNoRoot entry.id
  no_root_entry = no_root_below old tag.id entry.id good.roots good.tree (no_root_tag 1 (inl refl)) entry_child

  entry_kind : entry.kind ≡ Bookmark
  entry_kind =
      let row = (tag_rows old good.tags).folders (bare tag) (in_map bare (child_items items tags_root) tag tagged) in
      (row.entries (bare entry) (in_map bare (child_items items tag.id) entry entered)).0

  pub no_children : (i : Item) → In i items → i.id ≡ entry.id → i.children ≡ []
  no_children i h e =
      let same : i ≡ entry =
      same_Some i entry (sym (at_id items i entry.id up h e) ∙ (child_at items tag.id entry entered).1)
      in
      no_elements i.children (λ some.
      Bookmark≢Folder
      (sym (ap (λ (k : Item). k.kind) same ∙ entry_kind) ∙ (good_item old i good.items h).children some))

  pub has_child : (store : Store) (p c : ItemId) → HasGoodRows store → In c (children_of store.items p)
      → has_item store.items c ≡ true
  has_child store p c r h =
      let q = child_of store.items p c h in
      child_known store.items r.tree c (in_child_ids store.items q.0 c q.1 q.3)

  mid_up : Ascends item_key mid.items
  mid_up = ascends_left items entry.id up

  pub mid_good : HasGoodRows mid
  mid_good =
      leaf_removed old entry.id up rows (has_child old tag.id entry.id rows entry_child) no_root_entry no_children

  mid_rows : HasTagRows mid.items
  mid_rows = rows_without items entry.id (no_tags entry.id no_root_entry) (tag_rows old good.tags)

  -- the other tags have their entries
  mid_used : (j : Item) → In j (child_items mid.items tags_root) → j.id.0 ≢ tag.id.0 → j.children ≢ []
  mid_used j h other =
      let r = from_left items entry.id tags_root j up h in
      let i : Item = r.0 in
      let found = found_at items i.id i (child_at items tags_root i r.1).1 in
      let apart : In entry.id i.children → ⊥ =
      λ g.
      let same = one_parent items i tag.id entry.id (child_once items good.tree) found.0 g entry_child in
      other (ap item_key r.2 ∙ ap id_key same)
      in
      subst (λ (k : Item). k.children ≢ []) (sym (left_other entry.id i apart) ∙ sym r.2)
      (are_used old good.tags i r.1)

  still_used : (c : ItemId) (cs : List ItemId) → children_of mid.items tag.id ≡ c ∷ cs → AreUsed mid.items
  still_used c cs is j h =
      elim (cases_eq j.id.0 tag.id.0) as (λ _. j.children ≢ []) [
        | inl e ↦
            let at : item_at mid.items tag.id ≡ Some j =
            ap (item_at mid.items) (sym (same_item_number j.id tag.id e)) ∙ (child_at mid.items tags_root j h).1
            in
            let all : c ∷ cs ≡ j.children = sym is ∙ ap children_in at in
            not_empty j.children c (subst (In c) all (inl refl))
        | inr other ↦ mid_used j h other
      ]

  -- ---- without the folder

  abbrev last : Store
  last = record old { items = removed tag.id mid.items }

  pub mid_child : In tag.id (children_of mid.items tags_root)
  mid_child =
      let apart : tag.id.0 ≢ entry.id.0 = λ same.
      no_tags tag.id no_root_tag
      (ap id_key
      (same_Some tag.id tags_root
      (sym (parent_of_child items tag.id entry.id (child_once items good.tree) entry_child)
      ∙ ap (parent_of items) (sym (same_item_number tag.id entry.id same))
      ∙ parent_of_child items tags_root tag.id (child_once items good.tree) tag_child)))
      in
      subst (In tag.id)
      (sym (children_left items entry.id tags_root (λ same. no_tags entry.id no_root_entry (sym same))))
      (without_other entry.id (children_of items tags_root) tag.id tag_child apart)

  last_good : children_of mid.items tag.id ≡ [] → HasGoodRows last
  last_good none =
      leaf_removed mid tag.id mid_up mid_good (has_child mid tags_root tag.id mid_good mid_child) no_root_tag
      (λ i h e. sym (ap children_in (at_id mid.items i tag.id mid_up h e)) ∙ none)

  last_rows : HasTagRows last.items
  last_rows = rows_without mid.items tag.id (no_tags tag.id no_root_tag) mid_rows

  last_used : AreUsed last.items
  last_used j h =
      let r = from_left mid.items tag.id tags_root j mid_up h in
      let i : Item = r.0 in
      let at = child_at mid.items tags_root i r.1 in
      let found = found_at mid.items i.id i at.1 in
      let apart : In tag.id i.children → ⊥ =
      λ g.
      no_tags_root mid mid_good i.id at.0
      (ap id_key (one_parent mid.items i tags_root tag.id (child_once mid.items mid_good.tree) found.0 g mid_child))
      in
      subst (λ (k : Item). k.children ≢ []) (sym (left_other tag.id i apart) ∙ sym r.2) (mid_used i r.1 r.3)

  -- ---- either

  pub unused_good : HasGoodItems (record old {
    items = if_none_left (children_of mid.items tag.id) (removed tag.id mid.items) mid.items;
  })
  unused_good = choose (children_of mid.items tag.id) refl
    where
      choose : (ids : List ItemId) → children_of mid.items tag.id ≡ ids
          → HasGoodItems (record old { items = if_none_left ids (removed tag.id mid.items) mid.items })
      choose [] is = with_tags last (last_good is) (has_tags last last_rows last_used)
      choose (c ∷ cs) is = with_tags mid mid_good (has_tags mid mid_rows (still_used c cs is))

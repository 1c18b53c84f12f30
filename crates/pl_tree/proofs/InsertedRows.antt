-- A new item keeps the items good but for the tags, whatever folder gets it.
use Rattle.std.proofs.Common.{◌≡◌, ◌≢◌, ◌<◌, ◌≤◌, ◌++◌, ◌==◌, ◌∙◌, inl, inr, ℕ, Bool, true, false, List, []}
use Rattle.std.proofs.Common.{◌∷◌, Some, ap, sym, subst, arith, refl, if◌then◌else◌, map}
use Rattle.std.specs.Prelude.{◌↔◌, IsTrue}
use Rattle.std.specs.Option.{IfSome, IsSome, option_map}
use Rattle.std.proofs.lemmas.Bool.{eqb-true, ne_eqb}
use Rattle.pl_base.specs.declared.id.Ids.{Ids}
use Rattle.pl_base.specs.declared.id.ItemId.{ItemId}
use Rattle.pl_base.specs.declared.item.ItemKind.TheVariants.{Bookmark, Folder}
use Rattle.pl_base.specs.declared.item.ItemRow.{ItemRow}
use Rattle.pl_base.specs.Date.{IsDate}
use Rattle.pl_base.specs.Good.{HasRoots, IsGoodItem, IsTitle, IsTree, child_ids, has_page_at}
use Rattle.pl_base.specs.Store.{Item, Store, item_id}
use Rattle.pl_base.specs.Tree.{has_item, item_at, new_item}
use Rattle.pl_base.proofs.ItemLaws.{bare}
use Rattle.pl_base.proofs.ItemLookUps.{has_in}
use Rattle.pl_base.proofs.ListLaws.{list_any_push}
use Rattle.pl_base.proofs.Among.{In, from_map, in_back, in_either, in_front, in_map}
use Rattle.pl_tree.specs.declared.place.Place.{Place}
use Rattle.pl_tree.specs.Changes.{put, with_child}
use Rattle.pl_base.proofs.KeyCounts.{Ascends, Once, count, count-append}
use Rattle.pl_base.proofs.KeyCounts.{not_counted}
use Rattle.pl_tree.proofs.ChildLists.{bare_grown, count_grown, from_grown, grown, grown_id, grown_new, grown_old}
use Rattle.pl_tree.proofs.GoodRows.{HasGoodRows}
use Rattle.pl_tree.proofs.KeptItems.{all_good, good_children, good_item, good_still}
use Rattle.pl_tree.proofs.KeptRoots.{kept_roots, top_range}
use Rattle.pl_tree.proofs.LookedUp.{found_at, from_child_ids, id_key, in_child_ids}
use Rattle.pl_tree.proofs.LookedUp.{item_key, one_of_id}
use Rattle.pl_tree.proofs.MappedItems.{at_push, bare_at, changed_other, has_map, same_at}
use Rattle.pl_tree.proofs.TreeLaws.{Reaches, child_below, child_known, each_once, is_tree, once_more, reaches}

-- the folder by this id, which is not the root over all
pub record IsFolderAt (items : List Item) (id : ItemId) : Type 0 where
  pub folder : Item
  pub there : item_at items id ≡ Some folder
  pub kind : folder.kind ≡ Folder
  pub not_first : id.0 ≢ 1

module _ (old : Store) (ids : Ids) (id parent : ItemId) (place : Place) (row : ItemRow) (title : List ℕ)
    (up : Ascends item_key old.items) (good : HasGoodRows old) (t : IsFolderAt old.items parent)
    (fresh : (i : Item) → In i old.items → i.id.0 < id.0) (late : 7 ≤ id.0) where
  abbrev pub items : List Item
  items = old.items

  abbrev pub grow : Item → Item
  grow = grown parent place id

  abbrev pub new : Item
  new = new_item id row title

  abbrev pub news : List Item
  news = map grow items ++ new ∷ []

  abbrev pub store : Store
  store = record old { ids = ids; items = with_child parent place id items ++ new ∷ [] }

  -- an item that is not the folder
  pub found_as_before : (x : ItemId) → x.0 < id.0 → x.0 ≢ parent.0 → item_at news x ≡ item_at items x
  found_as_before x below other =
      at_push (map grow items) new x (ne_eqb id.0 x.0 (λ same. omega arith))
      ∙ same_at grow (grown_id parent place id) items x (λ i h e.
      changed_other parent (λ (j : Item). record j { children = put place id j.children }) i
      (ne_eqb i.id.0 parent.0 (λ same. other (ap id_key (sym e) ∙ same))))

  -- ---- roots

  roots : HasRoots store
  roots =
      kept_roots old store
      (found_as_before (item_id 1) (omega arith) (λ same. t.not_first (sym same)))
      (λ n h.
      let range = top_range n h in
      ap (option_map bare) (at_push (map grow items) new (item_id n) (ne_eqb id.0 n (λ same. omega arith)))
      ∙ bare_at grow (grown_id parent place id) items (item_id n) (λ i _ _. bare_grown parent place id i))
      good.roots

  -- ---- the tree

  has_old : (c : ItemId) → has_item items c ≡ true → has_item news c ≡ true
  has_old c has =
      list_any_push (λ (i : Item). i.id.0 == c.0) (map grow items) new
      (has_map grow (grown_id parent place id) items c ∙ has)

  has_new : has_item news id ≡ true
  has_new = has_in news new (in_back (map grow items) (new ∷ []) new (inl refl))

  known : (c : ItemId) → In c (child_ids news) → has_item news c ≡ true
  known c h =
      let r = from_child_ids news c h in
      let j : Item = r.0 in
      elim (in_either (map grow items) (new ∷ []) j r.1) as (λ _. has_item news c ≡ true) [
        | inl g ↦
            let s = from_map grow items j g in
            let i : Item = s.0 in
            elim (from_grown parent place id i c (subst (λ (k : Item). In c k.children) s.2 r.2))
            as (λ _. has_item news c ≡ true) [
              | inl f ↦ has_old c (child_known items good.tree c (in_child_ids items i c s.1 f))
              | inr e ↦ ap (has_item news) e ∙ has_new
            ]
        | inr (inl e) ↦ absurd (subst (λ (k : Item). In c k.children) e r.2)
        | inr (inr g) ↦ absurd g
      ]

  child_ids_new : (k : ℕ) (is : List Item) → count id_key k (child_ids (is ++ new ∷ [])) ≡ count id_key k (child_ids is)
  child_ids_new k [] = refl
  child_ids_new k (i ∷ is) =
      omega (
        arith,
        count-append id_key k i.children (child_ids (is ++ new ∷ [])),
        count-append id_key k i.children (child_ids is),
        child_ids_new k is,
      )

  once : Once id_key (item_id 1 ∷ child_ids news)
  once =
      once_more id (child_ids items) (child_ids news) (each_once items good.tree) (λ same. omega arith)
      (not_counted id_key id.0 (child_ids items) (λ c h same.
      let below = child_below items id.0 good.tree fresh c h in
      omega arith))
      (λ k. omega (arith, child_ids_new k (map grow items), count_grown parent place id k items up))

  reach : Reaches news
  reach holds one closed j h =
      let before : (i : Item) → In i items → holds i.id ≡ true =
      reaches items good.tree holds one (λ i g there c f.
      closed (grow i) (in_front (map grow items) (new ∷ []) (grow i) (in_map grow items i g))
      (ap holds (grown_id parent place id i) ∙ there) c (grown_old parent place id i c f))
      in
      elim (in_either (map grow items) (new ∷ []) j h) as (λ _. holds j.id ≡ true) [
        | inl g ↦
            let s = from_map grow items j g in
            let i : Item = s.0 in
            ap (λ (k : Item). holds k.id) s.2 ∙ ap holds (grown_id parent place id i) ∙ before i s.1
        | inr (inl e) ↦
            let found = found_at items parent t.folder t.there in
            ap (λ (k : Item). holds k.id) e
            ∙ closed (grow t.folder)
            (in_front (map grow items) (new ∷ []) (grow t.folder) (in_map grow items t.folder found.0))
            (ap holds (grown_id parent place id t.folder) ∙ before t.folder found.0) id
            (grown_new parent place id t.folder found.1)
        | inr (inr g) ↦ absurd g
      ]

  tree : IsTree store.items
  tree = is_tree news known once reach

  -- ---- each item

  good_grown : (i : Item) → In i items → IsGoodItem store (grow i)
  good_grown i h = choose (i.id.0 == parent.0) refl
    where
      choose : (b : Bool) → (i.id.0 == parent.0) ≡ b
          → IsGoodItem store (if b then record i { children = put place id i.children } else i)
      choose true is =
          let found = found_at items parent t.folder t.there in
          let at_parent : i.id ≡ t.folder.id =
          ap (λ (n : ℕ). record { 0 = n }) (eqb-true i.id.0 parent.0 is) ∙ sym found.1
          in
          let same : i ≡ t.folder = one_of_id items i t.folder up h found.0 at_parent in
          good_children old store i (put place id i.children) refl (λ _. ap (λ (k : Item). k.kind) same ∙ t.kind)
          (good_item old i good.items h)
      choose false is = good_still old store i refl (good_item old i good.items h)

  pub inserted_rows : IsTitle title → IsDate row.added → IsDate row.modified
      → (IsSome row.page ↔ (row.kind ≡ Bookmark)) → IfSome row.page (λ page. IsTrue (has_page_at old page))
      → HasGoodRows store
  inserted_rows named added modified bookmark page =
      let new_good : IsGoodItem store new =
      record {
        title = named;
        added = added;
        modified = modified;
        bookmark = bookmark;
        page = page;
        children = λ some. absurd (some refl);
      }
      in
      record {
        items =
            all_good store (λ j h.
            elim (in_either (map grow items) (new ∷ []) j h) as (λ _. IsGoodItem store j) [
              | inl g ↦
                  let s = from_map grow items j g in
                  subst (IsGoodItem store) (sym s.2) (good_grown s.0 s.1)
              | inr (inl e) ↦ subst (IsGoodItem store) (sym e) new_good
              | inr (inr g) ↦ absurd g
            ]);
        roots = roots;
        tree = tree;
      }

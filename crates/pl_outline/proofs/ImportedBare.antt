-- The import of a tree into a store without bookmarks gives a store with the same nodes, their tags
-- aside.
use Rattle.std.proofs.Common.{◌≡◌, ◌∙◌, ◌++◌, List, [], ap, arith, inl, inr, length, map, refl}
use Rattle.pl_base.specs.declared.id.ItemId.{ItemId}
use Rattle.pl_base.specs.Store.{Item, Store, item_id, roots}
use Rattle.pl_nbread.specs.declared.tree.Node.{Node}
use Rattle.pl_nbread.specs.declared.tree.Tree.{Tree}
use Rattle.pl_graft.specs.Import.{imported, with_list}
use Rattle.pl_outline.specs.Outline.{preorder, whole_node}
use Rattle.pl_outline.proofs.Bare.{AreStorable, bare, whole_below}
use Rattle.pl_outline.proofs.FirstStores.{IsFirst}
use Rattle.pl_outline.proofs.ListAdded.{AreAdded, list_added}
use Rattle.pl_outline.proofs.Preorders.{mapped, shown_alike}
use Rattle.pl_outline.proofs.ShownNodes.{shown, shown_is}
use Rattle.pl_outline.proofs.TagsBelow.{below_of}

-- what stands below a root, without tags
pub bare_below : (store : Store) (root : ItemId) → map bare (whole_below store root) ≡ below_of store root
bare_below store root =
    mapped bare (whole_node store) (length store.items) store.items 0 root
    ∙ shown_alike (λ d i. bare (whole_node store d i)) (shown store.pages) store.items (λ c i is d. shown_is store d i)
    (length store.items) 0 root

-- the four lists, one after another
module _ (tree : Tree) (menu : AreStorable tree.menu) (toolbar : AreStorable tree.toolbar)
    (unfiled : AreStorable tree.unfiled) (mobile : AreStorable tree.mobile) (start : Store) (first : IsFirst start) where
  abbrev menu_in : Store
  menu_in = with_list (item_id 2) tree.menu start

  abbrev toolbar_in : Store
  toolbar_in = with_list (item_id 3) tree.toolbar menu_in

  abbrev unfiled_in : Store
  unfiled_in = with_list (item_id 5) tree.unfiled toolbar_in

  -- nothing stood below a root
  none_at : (root : ItemId) → preorder (shown start.pages) (length roots) roots 0 root ≡ [] → below_of start root ≡ []
  none_at root none =
      ap (λ (js : List Item). preorder (shown start.pages) (length js) js 0 root) first.items ∙ none

  menu_added : AreAdded start menu_in 2 tree.menu
  menu_added = list_added 2 (inl refl) tree.menu start first.ready first.pages menu

  toolbar_added : AreAdded menu_in toolbar_in 3 tree.toolbar
  toolbar_added = list_added 3 (inr (inl refl)) tree.toolbar menu_in menu_added.ready menu_added.pages toolbar

  unfiled_added : AreAdded toolbar_in unfiled_in 5 tree.unfiled
  unfiled_added =
      list_added 5 (inr (inr (inl refl))) tree.unfiled toolbar_in toolbar_added.ready toolbar_added.pages unfiled

  mobile_added : AreAdded unfiled_in (imported tree start) 6 tree.mobile
  mobile_added =
      list_added 6 (inr (inr (inr refl))) tree.mobile unfiled_in unfiled_added.ready unfiled_added.pages mobile

  pub imported_menu : below_of (imported tree start) (item_id 2) ≡ map bare tree.menu
  imported_menu =
      mobile_added.others 2 (inl refl) (λ same. omega arith)
      ∙ unfiled_added.others 2 (inl refl) (λ same. omega arith)
      ∙ toolbar_added.others 2 (inl refl) (λ same. omega arith)
      ∙ menu_added.below
      ∙ ap (λ (ks : List Node). ks ++ map bare tree.menu) (none_at (item_id 2) refl)

  pub imported_toolbar : below_of (imported tree start) (item_id 3) ≡ map bare tree.toolbar
  imported_toolbar =
      mobile_added.others 3 (inr (inl refl)) (λ same. omega arith)
      ∙ unfiled_added.others 3 (inr (inl refl)) (λ same. omega arith)
      ∙ toolbar_added.below
      ∙ ap (λ (ks : List Node). ks ++ map bare tree.toolbar)
      (menu_added.others 3 (inr (inl refl)) (λ same. omega arith) ∙ none_at (item_id 3) refl)

  pub imported_unfiled : below_of (imported tree start) (item_id 5) ≡ map bare tree.unfiled
  imported_unfiled =
      mobile_added.others 5 (inr (inr (inl refl))) (λ same. omega arith)
      ∙ unfiled_added.below
      ∙ ap (λ (ks : List Node). ks ++ map bare tree.unfiled)
      (toolbar_added.others 5 (inr (inr (inl refl))) (λ same. omega arith)
      ∙ menu_added.others 5 (inr (inr (inl refl))) (λ same. omega arith) ∙ none_at (item_id 5) refl)

  pub imported_mobile : below_of (imported tree start) (item_id 6) ≡ map bare tree.mobile
  imported_mobile =
      mobile_added.below
      ∙ ap (λ (ks : List Node). ks ++ map bare tree.mobile)
      (unfiled_added.others 6 (inr (inr (inr refl))) (λ same. omega arith)
      ∙ toolbar_added.others 6 (inr (inr (inr refl))) (λ same. omega arith)
      ∙ menu_added.others 6 (inr (inr (inr refl))) (λ same. omega arith) ∙ none_at (item_id 6) refl)

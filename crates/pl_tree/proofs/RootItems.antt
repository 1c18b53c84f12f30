-- The root over all has the five folders below it as its children, and no others.
use Rattle.std.proofs.Common.{◌≡◌, ◌≢◌, ◌<◌, ◌∙◌, ◌∷◌, inl, inr, ℕ, Option, Some, None, ap, refl, sym, subst, arith}
use Rattle.std.specs.Option.{IsSomeAnd}
use Rattle.std.proofs.lemmas.List.Elements.{recursion_from_All}
use Rattle.std.proofs.lemmas.Option.{same_Some}
use Rattle.pl_base.specs.declared.id.ItemId.{ItemId}
use Rattle.pl_base.specs.declared.item.ItemKind.TheVariants.{Folder}
use Rattle.pl_base.specs.Good.{HasRoots, IsTopFolder, IsTree}
use Rattle.pl_base.specs.Store.{Item, Store, item_id, root_folder, top_folders}
use Rattle.pl_base.specs.Tree.{children_of, item_at, parent_of}
use Rattle.pl_base.proofs.Among.{In, at_in, from_map, in_map}
use Rattle.pl_base.proofs.ItemLookUps.{same_item_number}
use Rattle.pl_base.proofs.KeyCounts.{Ascends}
use Rattle.pl_tree.proofs.KeptRoots.{top_range, tops}
use Rattle.pl_tree.proofs.LookedUp.{at_id, child_of, found_at, id_key, item_key, parent_is, parent_of_child}
use Rattle.pl_tree.proofs.TreeLaws.{child_once, first_no_child}

-- the item is none of the six
abbrev pub IsNoRoot : ItemId → Type 0
IsNoRoot item = (n : ℕ) → In n (1 ∷ tops) → item.0 ≢ n

-- the tags root is one of them
pub no_tags : (item : ItemId) → IsNoRoot item → item.0 ≢ 4
no_tags item no_root = no_root 4 (inr (inr (inr (inl refl))))

pub no_root_above : (item : ItemId) → 6 < item.0 → IsNoRoot item
no_root_above item above n (inl e) same = omega arith
no_root_above item above n (inr h) same = let range = top_range n h in omega arith

-- no other item is a child of the root over all
pub no_child_of_root : (store : Store) (item : ItemId) (i : Item) → Ascends item_key store.items → HasRoots store
    → IsNoRoot item → In i store.items → i.id ≡ item_id 1 → In item i.children → ⊥
no_child_of_root store item i up roots no_root h e c =
    let same : i ≡ root_folder 1 top_folders =
    same_Some i (root_folder 1 top_folders) (sym (at_id store.items i (item_id 1) up h e) ∙ roots.root)
    in
    let r = from_map item_id tops item (subst (λ (j : Item). In item j.children) same c) in
    no_root r.0 (inr r.1) (ap id_key r.2)

-- the five are its children
pub parent_of_top : (store : Store) (n : ℕ) → HasRoots store → IsTree store.items → In n tops
    → parent_of store.items (item_id n) ≡ Some (item_id 1)
parent_of_top store n roots tree h =
    let found = found_at store.items (item_id 1) (root_folder 1 top_folders) roots.root in
    parent_is store.items (root_folder 1 top_folders) (item_id n) (child_once store.items tree) found.0
    (in_map item_id tops n h)

top_in : (n : ℕ) (o : Option Item) → IsSomeAnd o (λ (i : Item). i ≡ root_folder n i.children)
    → (i : Item) × (o ≡ Some i) × (i.kind ≡ Folder)
top_in n None top = absurd top
top_in n (Some i) top = (i, refl, ap (λ (j : Item). j.kind) top)

-- each of the five is a folder
pub top_folder : (store : Store) (n : ℕ) → HasRoots store → In n tops
    → (i : Item) × (item_at store.items (item_id n) ≡ Some i) × (i.kind ≡ Folder)
top_folder store n roots h =
    top_in n (item_at store.items (item_id n))
    (at_in (IsTopFolder store) tops n (recursion_from_All (IsTopFolder store) tops roots.top) h)

-- a child of another item than the root over all is no root
pub no_root_below : (store : Store) (p c : ItemId) → HasRoots store → IsTree store.items → p.0 ≢ 1
    → In c (children_of store.items p) → IsNoRoot c
no_root_below store p c roots tree other child m (inl e) same =
    let r = child_of store.items p c child in
    first_no_child store.items tree r.0 r.1
    (subst (λ (d : ItemId). In d (r.0).children) (same_item_number c (item_id 1) (same ∙ e)) r.3)
no_root_below store p c roots tree other child m (inr g) same =
    let above : parent_of store.items c ≡ Some p =
    parent_of_child store.items p c (child_once store.items tree) child
    in
    let top : parent_of store.items c ≡ Some (item_id 1) =
    ap (parent_of store.items) (same_item_number c (item_id m) same) ∙ parent_of_top store m roots tree g
    in
    other (ap id_key (same_Some p (item_id 1) (sym above ∙ top)))

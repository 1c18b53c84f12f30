-- Items of which none has a child any more: which parents, children and references they have then.
use Rattle.std.proofs.Common.{◌≡◌, ◌≢◌, ◌==◌, ◌++◌, ◌∙◌, All, true, false}
use Rattle.std.proofs.Common.{List, [], ◌∷◌, Option, None, Some, ap, eqb-true, filter, find, map, not, refl, subst, sym}
use Rattle.std.specs.List.{AllPairs}
use Rattle.std.specs.Option.{option_map}
use Rattle.std.proofs.lemmas.List.Elements.{All-from_recursion, All-map, All-weaker, filter-append, recursion_from_All}
use Rattle.std.proofs.lemmas.List.Kept.{AllPairs-filter}
use Rattle.std.proofs.lemmas.Map.Views.{any-filter_same}
use Rattle.pl_base.specs.declared.id.ItemId.{ItemId}
use Rattle.pl_base.specs.declared.id.PageId.{PageId}
use Rattle.pl_base.specs.Good.{child_ids}
use Rattle.pl_base.specs.Store.{Item}
use Rattle.pl_base.specs.Tree.{children_of, has_child, has_item, is_page, item_at, leaving, parent_of, references}
use Rattle.pl_base.specs.Tree.{without_id}
use Rattle.pl_base.proofs.ListLaws.{filter-map, find-map, list_any-map, map-map}
use Rattle.pl_base.proofs.LookUps.{find-alike, where_passes}
use Rattle.pl_base.proofs.OneParent.{is_among}

module _ (id : ItemId) where
  abbrev f : Item → Item
  f = leaving id

  -- ---- parents

  -- others are among ids as before
  pub among_left : (other : ItemId) (cs : List ItemId) → (other.0 == id.0) ≡ false
      → is_among other (without_id id cs) ≡ is_among other cs
  among_left other cs apart =
      any-filter_same (λ (c : ItemId). c.0 == other.0) (λ (c : ItemId). not (c.0 == id.0)) true
      (λ c same. ap not (ap (λ n. n == id.0) (eqb-true c.0 other.0 same) ∙ apart)) cs

  -- the one is not
  pub not_left : (cs : List ItemId) → is_among id (without_id id cs) ≡ false
  not_left cs =
      any-filter_same (λ (c : ItemId). c.0 == id.0) (λ (c : ItemId). not (c.0 == id.0)) false (λ c same. ap not same) cs

  id_still : (o : Option Item) → option_map (λ (i : Item). i.id) (option_map f o) ≡ option_map (λ (i : Item). i.id) o
  id_still None = refl
  id_still (Some i) = refl

  -- the parents of others are those of before
  pub parent_left : (items : List Item) (other : ItemId) → (other.0 == id.0) ≡ false
      → parent_of (map f items) other ≡ parent_of items other
  parent_left items other apart =
      ap (option_map (λ (i : Item). i.id)) (find-map (has_child other) f items)
      ∙ id_still (find (λ (i : Item). has_child other (f i)) items)
      ∙ ap (option_map (λ (i : Item). i.id))
      (find-alike (λ (i : Item). has_child other (f i)) (has_child other) items
      (λ i. among_left other i.children apart))

  -- ---- what is there

  pub item_left : (items : List Item) (other : ItemId)
      → item_at (map f items) other ≡ option_map f (item_at items other)
  item_left items other = find-map (λ (i : Item). i.id.0 == other.0) f items

  pub there_left : (items : List Item) (other : ItemId) → has_item (map f items) other ≡ has_item items other
  there_left items other = list_any-map (λ (i : Item). i.id.0 == other.0) f items

  -- the children of an item but for the one
  pub children_left : (items : List Item) (other : ItemId)
      → children_of (map f items) other ≡ without_id id (children_of items other)
  children_left items other = choose (item_at items other) refl
    where
      choose : (o : Option Item) → item_at items other ≡ o
          → children_of (map f items) other ≡ without_id id (children_of items other)
      choose None here = rw (item_left items other, here) refl
      choose (Some i) here = rw (item_left items other, here) refl

  pub references_left : (items : List Item) (page : PageId) → references (map f items) page ≡ references items page
  references_left items page =
      ap (map (λ (i : Item). i.id)) (filter-map (λ (i : Item). is_page page i.page) f items)
      ∙ map-map (λ (i : Item). i.id) f (filter (λ (i : Item). is_page page i.page) items)

  -- ---- all children

  pub child_ids_left : (items : List Item) → child_ids (map f items) ≡ without_id id (child_ids items)
  child_ids_left [] = refl
  child_ids_left (i ∷ items) =
      ap (λ (cs : List ItemId). without_id id i.children ++ cs) (child_ids_left items)
      ∙ sym (filter-append (λ (c : ItemId). not (c.0 == id.0)) i.children (child_ids items))

  pub once_left : (items : List Item) → AllPairs (λ (a b : ItemId). a ≢ b) (child_ids items)
      → AllPairs (λ (a b : ItemId). a ≢ b) (child_ids (map f items))
  once_left items pairs =
      subst (AllPairs (λ (a b : ItemId). a ≢ b)) (sym (child_ids_left items))
      (AllPairs-filter (λ (a b : ItemId). a ≢ b) (λ (c : ItemId). not (c.0 == id.0)) (child_ids items) pairs)

  -- it is no child
  pub orphaned : (items : List Item) → is_among id (child_ids (map f items)) ≡ false
  orphaned items = ap (is_among id) (child_ids_left items) ∙ not_left (child_ids items)

  -- what holds of each other child holds of all that are left
  pub others_all : (P : ItemId → Type 0) (items : List Item)
      → All (λ (i : Item). All (λ (c : ItemId). not (c.0 == id.0) ≡ true → P c) i.children) items
      → All (λ (i : Item). All P i.children) (map f items)
  others_all P items all =
      All-map (λ (i : Item). All P i.children) f items
      (All-weaker (λ (i : Item). All (λ (c : ItemId). not (c.0 == id.0) ≡ true → P c) i.children)
      (λ (i : Item). All P (f i).children)
      (λ i each.
      All-from_recursion P (without_id id i.children)
      (where_passes P (λ (c : ItemId). not (c.0 == id.0)) i.children
      (recursion_from_All (λ (c : ItemId). not (c.0 == id.0) ≡ true → P c) i.children each)))
      items all)

-- The references of other pages where an item is removed with all below it: what stays has the
-- parent that it had.
use Rattle.std.proofs.Common.{◌≡◌, ◌≢◌, ◌∙◌, ◌&&◌, Bool, true, false, not, List, Some, None}
use Rattle.std.proofs.Common.{ap, refl}
use Rattle.std.specs.Option.{option_map}
use Rattle.std.proofs.lemmas.Bool.{both_ways, not_from_false}
use Rattle.pl_base.specs.declared.id.ItemId.{ItemId}
use Rattle.pl_base.specs.declared.id.PageId.{PageId}
use Rattle.pl_base.specs.Good.{HasGoodItems, IsTree}
use Rattle.pl_base.specs.Rows.{Kept, store_of}
use Rattle.pl_base.specs.Store.{Item}
use Rattle.pl_base.specs.Tree.{has_item, is_page, lies_in, parent_of}
use Rattle.pl_base.proofs.Among.{In, at_in}
use Rattle.pl_base.proofs.ItemLookUps.{same_item_number}
use Rattle.pl_base.proofs.LookUps.{none_pass}
use Rattle.pl_base.proofs.OneParent.{IsParent, parents}
use Rattle.pl_base.proofs.Truths.{no_test}
use Rattle.pl_tree.specs.declared.tree_change.TreeChange.TheVariants.{Remove}
use Rattle.pl_tree.specs.Changes.{loses_item, with_removed}
use Rattle.pl_tree.specs.Refused.{refusal}
use Rattle.pl_tree.proofs.AncestorLaws.{lies_in_child, lies_in_self}
use Rattle.pl_marks.specs.Alike.{is_one_of}
use Rattle.pl_bearing.specs.References.{AreReferencesAlike, references_of}
use Rattle.pl_bearing.proofs.LeftReferences.{references_left}
use Rattle.pl_bearing.proofs.MovedReferences.{may_change}

-- ---- a removal

module _ (items : List Item) (item : ItemId) (tree : IsTree items) (there : has_item items item ≡ true) where
  abbrev stays : Item → Bool
  stays i = not (lies_in items item i.id)

  -- what does not lie in the item is another one
  outside_other : (c : ItemId) → lies_in items item c ≡ false → c.0 ≢ item.0
  outside_other c out same =
      both_ways (lies_in items item c) out
      (ap (lies_in items item) (same_item_number c item same) ∙ lies_in_self items item there)

  -- a parent of what does not lie in the item does not either
  parent_outside : (c p : ItemId) → lies_in items item c ≡ false → parent_of items c ≡ Some p
      → lies_in items item p ≡ false
  parent_outside c p out is =
      no_test (lies_in items item p) (λ inside.
      both_ways (lies_in items item c) out (lies_in_child items item c p tree is inside))

  removal_alike : (page : PageId) → loses_item items item page ≡ false
      → references_of (with_removed item items) page ≡ references_of items page
  removal_alike page keeps =
      references_left items item stays (λ (c : ItemId). lies_in items item c ≡ false) outside_other
      (λ c i h out has.
      parent_outside c i.id out
      (ap (option_map (λ (j : Item). j.id)) (at_in (IsParent items) items i (parents items tree) h c has)))
      (λ i h out. not_from_false (lies_in items item i.id) out) page outside
    where
      -- no item that lies in it has the page
      outside : (i : Item) → In i items → is_page page i.page ≡ true → lies_in items item i.id ≡ false
      outside i h has =
          no_test (lies_in items item i.id) (λ inside.
          both_ways (lies_in items item i.id && is_page page i.page)
          (at_in (λ (j : Item). (lies_in items item j.id && is_page page j.page) ≡ false) items i
          (none_pass (λ (j : Item). lies_in items item j.id && is_page page j.page) items keeps) h)
          (rw (inside, has) refl))

pub removed_alike : (kept : Kept) (item : ItemId) (ids : List PageId) → HasGoodItems (store_of kept)
    → refusal kept.items (Remove item) ≡ None
    → ((page : PageId) → loses_item kept.items item page ≡ true → is_one_of ids page ≡ true)
    → AreReferencesAlike ids kept.items (with_removed item kept.items)
removed_alike kept item ids good none each page out =
    removal_alike kept.items item good.tree (may_change kept.items item none).0 page
    (no_test (loses_item kept.items item page) (λ loses. both_ways (is_one_of ids page) out (each page loses)))

-- What is told where some items go, and one id no longer stands among the children of those that
-- stay.
use Rattle.std.proofs.Common.{◌≡◌, ◌≢◌, ◌∙◌, ◌==◌, Bool, true, List, Some, ap, filter, map, refl, subst, sym}
use Rattle.std.specs.List.{AllByRecursion}
use Rattle.std.specs.Option.{option_map}
use Rattle.std.proofs.lemmas.Bool.{ne_eqb}
use Rattle.pl_base.specs.declared.id.ItemId.{ItemId}
use Rattle.pl_base.specs.declared.id.PageId.{PageId}
use Rattle.pl_base.specs.Store.{Item}
use Rattle.pl_base.specs.Tags.{is_tags_root}
use Rattle.pl_base.specs.Tree.{has_child, is_page, item_title, leaving, parent_of}
use Rattle.pl_base.proofs.Among.{In, all_from_in, from_filter}
use Rattle.pl_base.proofs.ItemLookUps.{same_item}
use Rattle.pl_marks.specs.TagFolders.{tag_title}
use Rattle.pl_bearing.specs.References.{reference, references_of}
use Rattle.pl_bearing.proofs.FoundItems.{filter_among, find_among, parent_there}
use Rattle.pl_bearing.proofs.MappedReferences.{any_without, parent_mapped, reference_alike, references_mapped}
use Rattle.pl_bearing.proofs.MappedReferences.{tag_title_alike, title_mapped}

-- the ids of those that stay are closed upwards, and the one that leaves is none of them
module _ (items : List Item) (id : ItemId) (stays : Item → Bool) (Stays : ItemId → Type 0)
    (apart : (c : ItemId) → Stays c → c.0 ≢ id.0)
    (above : (c : ItemId) (i : Item) → In i items → Stays c → has_child c i ≡ true → Stays i.id)
    (stay : (i : Item) → In i items → Stays i.id → stays i ≡ true) where
  abbrev left : List Item
  left = map (leaving id) (filter stays items)

  -- what passes the test stays
  kept : (test : Item → Bool) → ((i : Item) → In i items → test i ≡ true → Stays i.id)
      → AllByRecursion (λ (i : Item). test i ≡ true → stays i ≡ true) items
  kept test each =
      all_from_in (λ (i : Item). test i ≡ true → stays i ≡ true) items (λ i h is. stay i h (each i h is))

  parent_left : (c : ItemId) → Stays c → parent_of left c ≡ parent_of items c
  parent_left c is =
      parent_mapped (leaving id) c (filter stays items) (λ i. refl)
      (λ i.
      any_without (λ (d : ItemId). d.0 == c.0) id i.children (ne_eqb id.0 c.0 (λ same. apart c is (sym same))))
      ∙ ap (option_map (λ (i : Item). i.id))
      (find_among stays (has_child c) items (kept (has_child c) (λ i h has. above c i h is has)))

  title_left : (c : ItemId) → Stays c → item_title left c ≡ item_title items c
  title_left c is =
      title_mapped (leaving id) c (filter stays items) (λ i. refl) (λ i _. refl)
      ∙ ap (option_map (λ (i : Item). i.title))
      (find_among stays (λ (i : Item). i.id.0 == c.0) items
      (kept (λ (i : Item). i.id.0 == c.0) (λ i h same. subst Stays (sym (same_item i.id c same)) is)))

  parent_stays : (c p : ItemId) → Stays c → parent_of items c ≡ Some p → Stays p
  parent_stays c p is within =
      let r = parent_there items c p within in
      subst Stays r.2 (above c r.0 r.1 is r.3)

  -- each of them gives the tag that it gave
  tag_title_left : (c : ItemId) → Stays c → tag_title left c ≡ tag_title items c
  tag_title_left c is =
      tag_title_alike items left c (parent_left c is)
      (λ p within. ap is_tags_root (parent_left p (parent_stays c p is within)))
      (λ p within _. title_left p (parent_stays c p is within))

  -- a page is told of as before where all its items stay
  pub references_left : (page : PageId) → ((i : Item) → In i items → is_page page i.page ≡ true → Stays i.id)
      → references_of left page ≡ references_of items page
  references_left page each =
      let test : Item → Bool = λ (i : Item). is_page page i.page in
      references_mapped (reference left) (reference items) (leaving id) test (filter stays items) (λ i h. refl)
      (λ i h has.
      reference_alike items left i (leaving id i) refl refl refl
      (tag_title_left i.id (each i (from_filter stays items i h).0 has)))
      ∙ ap (map (reference items)) (filter_among stays test items (kept test each))

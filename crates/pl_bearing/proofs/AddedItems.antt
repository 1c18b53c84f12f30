-- Items that come behind those that are there, each as a child of any item: what was there keeps
-- its parent, and all that it tells of its page.
use Rattle.std.proofs.Common.{◌≡◌, ◌∙◌, ◌<◌, ◌≤◌, ◌==◌, ◌&&◌, ◌++◌, ℕ, All, Bool, false, List, [], ◌∷◌}
use Rattle.std.proofs.Common.{Some, ap, append_assoc, arith, filter}
use Rattle.std.proofs.Common.{map, nat_le, refl, subst, sym}
use Rattle.std.specs.List.{AllByRecursion, list_any}
use Rattle.std.specs.Option.{option_map}
use Rattle.std.proofs.lemmas.Bool.{le-leb, ne_eqb, or_parts}
use Rattle.std.proofs.lemmas.List.{append-nil, map-append}
use Rattle.std.proofs.lemmas.List.Elements.{All-map, All-nil, All-push, All-weaker}
use Rattle.std.proofs.lemmas.List.Elements.{recursion_from_All}
use Rattle.std.proofs.lemmas.List.Folds.{list_any-append}
use Rattle.pl_base.specs.declared.id.ItemId.{ItemId}
use Rattle.pl_base.specs.declared.id.PageId.{PageId}
use Rattle.pl_base.specs.Store.{Item}
use Rattle.pl_base.specs.Tags.{is_tags_root}
use Rattle.pl_base.specs.Tree.{is_page, item_title, parent_of}
use Rattle.pl_base.proofs.Among.{at_in}
use Rattle.pl_base.proofs.ItemLaws.{bare}
use Rattle.pl_base.proofs.ListLaws.{map-alike, map-map, weaker}
use Rattle.pl_base.proofs.LookUps.{both, none_pass}
use Rattle.pl_marks.specs.TagFolders.{tag_title}
use Rattle.pl_tree.specs.declared.place.Place.{Place}
use Rattle.pl_tree.specs.Changes.{with_child}
use Rattle.pl_graft.specs.Gained.{has_new_item}
use Rattle.pl_bearing.specs.References.{reference, references_of}
use Rattle.pl_bearing.proofs.FoundItems.{filter_front, find_front, parent_there}
use Rattle.pl_bearing.proofs.MappedReferences.{grown, grown_same, reference_alike, references_mapped, tag_title_alike}
use Rattle.pl_bearing.proofs.MappedReferences.{title_mapped}
use Rattle.pl_bearing.proofs.NewReferences.{parent_stays}

-- a child more changes nothing else
pub bare_grown : (parent : ItemId) (place : Place) (id : ItemId) (i : Item) → bare (grown parent place id i) ≡ bare i
bare_grown parent place id i = grown_same parent place id bare (λ j. refl) i

-- ---- items behind those that are there

-- the old items but for their children, and behind them items from this id on; what is below that
-- id has the parent that it had
pub record AddsItems (first : ℕ) (old new : List Item) : Type 0 where
  pub front : List Item
  pub added : List Item
  pub is : new ≡ front ++ added
  pub same : map bare front ≡ map bare old
  pub ids : All (λ (i : Item). first ≤ i.id.0) added
  pub parents : (id : ItemId) → id.0 < first → parent_of new id ≡ parent_of old id

pub no_items : (first : ℕ) (items : List Item) → AddsItems first items items
no_items first items =
    record {
      front = items;
      added = [];
      is = sym (append-nil items);
      same = refl;
      ids = All-nil (λ (i : Item). first ≤ i.id.0);
      parents = λ id below. refl;
    }

-- one more, as a child of any item
pub one_item : (first : ℕ) (old items : List Item) (parent : ItemId) (place : Place) (new : Item) → first ≤ new.id.0
    → new.children ≡ [] → AddsItems first old items
    → AddsItems first old (with_child parent place new.id items ++ new ∷ [])
one_item first old items parent place new above leaf a =
    let grow : Item → Item = grown parent place new.id in
    record {
      front = map grow a.front;
      added = map grow a.added ++ new ∷ [];
      is =
          ap (λ (is : List Item). map grow is ++ new ∷ []) a.is
          ∙ ap (λ (is : List Item). is ++ new ∷ []) (map-append grow a.front a.added)
          ∙ append_assoc (map grow a.front) (map grow a.added) (new ∷ []);
      same =
          map-map bare grow a.front
          ∙ map-alike (λ (i : Item). bare (grow i)) bare a.front (bare_grown parent place new.id)
          ∙ a.same;
      ids =
          All-push (λ (i : Item). first ≤ i.id.0) (map grow a.added) new
          (All-map (λ (i : Item). first ≤ i.id.0) grow a.added
          (All-weaker (λ (i : Item). first ≤ i.id.0) (λ (i : Item). first ≤ (grow i).id.0)
          (λ i high.
          subst (λ (b : Item). first ≤ b.id.0) (sym (bare_grown parent place new.id i)) high)
          a.added a.ids))
          above;
      parents =
          λ id below.
          parent_stays items new.id parent place new refl leaf id (λ same. omega arith)
          ∙ a.parents id below;
    }

-- ---- what they tell

module _ (first : ℕ) (old new : List Item) (below : All (λ (i : Item). i.id.0 < first) old)
    (a : AddsItems first old new) where
  title_kept : (id : ItemId) → id.0 < first → item_title new id ≡ item_title old id
  title_kept id within =
      let test : Item → Bool = λ (i : Item). i.id.0 == id.0 in
      ap (λ (is : List Item). item_title is id) a.is
      ∙ ap (option_map (λ (i : Item). i.title))
      (find_front test a.front a.added
      (weaker (λ (i : Item). first ≤ i.id.0) (λ (i : Item). test i ≡ false) a.added
      (λ i high. ne_eqb i.id.0 id.0 (λ same. omega arith))
      (recursion_from_All (λ (i : Item). first ≤ i.id.0) a.added a.ids)))
      ∙ sym (title_mapped bare id a.front (λ i. refl) (λ i _. refl))
      ∙ ap (λ (is : List Item). item_title is id) a.same
      ∙ title_mapped bare id old (λ i. refl) (λ i _. refl)

  parent_below : (id parent : ItemId) → parent_of old id ≡ Some parent → parent.0 < first
  parent_below id parent is =
      let r = parent_there old id parent is in
      subst (λ (p : ItemId). p.0 < first) r.2
      (at_in (λ (i : Item). i.id.0 < first) old r.0 (recursion_from_All (λ (i : Item). i.id.0 < first) old below) r.1)

  -- the tag of an old item
  tag_kept : (id : ItemId) → id.0 < first → tag_title new id ≡ tag_title old id
  tag_kept id within =
      tag_title_alike old new id (a.parents id within)
      (λ p is. ap is_tags_root (a.parents p (parent_below id p is)))
      (λ p is _. title_kept p (parent_below id p is))

  -- no item of the page is among those that came
  none_added : (page : PageId) → has_new_item first new page ≡ false
      → AllByRecursion (λ (i : Item). is_page page i.page ≡ false) a.added
  none_added page none =
      let test : Item → Bool = λ (i : Item). nat_le first i.id.0 && is_page page i.page in
      let apart : (list_any test a.front ≡ false) × (list_any test a.added ≡ false) =
      or_parts (list_any test a.front) (list_any test a.added)
      (sym (list_any-append test a.front a.added) ∙ ap (list_any test) (sym a.is) ∙ none) in
      both (λ (i : Item). first ≤ i.id.0) (λ (i : Item). test i ≡ false)
      (λ (i : Item). is_page page i.page ≡ false) a.added
      (λ i high fails. sym (ap (λ (b : Bool). b && is_page page i.page) (le-leb first i.id.0 high)) ∙ fails)
      (recursion_from_All (λ (i : Item). first ≤ i.id.0) a.added a.ids) (none_pass test a.added apart.1)

  -- a page that no new item has is told of as before
  pub references_kept : (page : PageId) → has_new_item first new page ≡ false
      → references_of new page ≡ references_of old page
  references_kept page none =
      let test : Item → Bool = λ (i : Item). is_page page i.page in
      ap (λ (is : List Item). map (reference new) (filter test is)) a.is
      ∙ ap (map (reference new)) (filter_front test a.front a.added (none_added page none))
      ∙ sym (references_mapped (reference new) (reference new) bare test a.front (λ i h. refl) (λ i h has. refl))
      ∙ ap (λ (is : List Item). map (reference new) (filter test is)) a.same
      ∙ references_mapped (reference new) (reference old) bare test old (λ i h. refl)
      (λ i h has.
      reference_alike old new i (bare i) refl refl refl
      (tag_kept i.id
      (at_in (λ (j : Item). j.id.0 < first) old i (recursion_from_All (λ (j : Item). j.id.0 < first) old below) h)))

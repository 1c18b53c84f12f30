-- What holds of the rows with new items that have one page or none, once that page is refreshed.
use Rattle.std.proofs.Common.{◌≡◌, ◌∙◌, ◌+◌, ◌-◌, ◌==◌, ◌||◌, ℕ, ℤ, Bool, true, false, IsTrue, List, [], ◌∷◌}
use Rattle.std.proofs.Common.{Some, ap, eq-eqb, get_or, refl, subst, sym}
use Rattle.std.specs.Option.{option_map}
use Rattle.std.proofs.lemmas.Bool.{or_parts, or_right}
use Rattle.pl_base.specs.declared.date.Micros.{Micros}
use Rattle.pl_base.specs.declared.id.Ids.{Ids}
use Rattle.pl_base.specs.declared.id.ItemId.{ItemId}
use Rattle.pl_base.specs.declared.id.PageId.{PageId}
use Rattle.pl_base.specs.declared.row.Mark.{Mark}
use Rattle.pl_base.specs.Good.{HasGoodItems, is_visited}
use Rattle.pl_base.specs.Marks.{visit_count}
use Rattle.pl_base.specs.Rows.{HaveSums, IsRight, IsSound, IsWellKept, Kept, mark_of, page_at, store_of}
use Rattle.pl_base.specs.Store.{Item, item_id}
use Rattle.pl_base.specs.Tree.{is_page}
use Rattle.pl_base.proofs.IdsLaws.{same_page}
use Rattle.pl_base.proofs.ListLaws.{list_any_last}
use Rattle.pl_base.proofs.OriginSums.{sums_still, totals_of_sums}
use Rattle.pl_tree.specs.declared.new_item.NewItem.{NewItem}
use Rattle.pl_tree.specs.declared.place.Place.{Place}
use Rattle.pl_tree.specs.declared.place.Place.TheVariants.{End}
use Rattle.pl_tree.specs.Changes.{item_of, with_child, with_new}
use Rattle.pl_tree.specs.Tagged.{new_entry, new_items, tag_id, tagged_items, with_tag}
use Rattle.pl_history.specs.Sound.{AreStanding}
use Rattle.pl_base.specs.Removal.{is_standing}
use Rattle.pl_history.specs.Ready.{IsReady}
use Rattle.pl_marks.specs.Refreshed.{AreRightBut, HaveCounts, Refreshes}
use Rattle.pl_history.proofs.GoodRows.{good_of}
use Rattle.pl_history.proofs.ItemMarks.{has_reference, right_alike, with_tree}
use Rattle.pl_history.proofs.ItemPages.{folder_still, reference_inserted}
use Rattle.pl_history.proofs.KeptMark.{count_at, mark_at}
use Rattle.pl_history.proofs.RightAfter.{other_way, right_refreshed}
use Rattle.pl_history.proofs.SourcePage.{source_store}
use Rattle.pl_history.proofs.VisitedPages.{standing_alike}

-- an item has the page, and each other page has one or not as before
pub record Adds (page : PageId) (old new : List Item) : Type 0 where
  pub own : has_reference new page ≡ true
  pub others : (id : PageId) → (id.0 == page.0) ≡ false → has_reference new id ≡ has_reference old id

-- a new item of the page, among items that have each page as the old ones
pub adds_new : (id parent : ItemId) (place : Place) (new : NewItem) (page : PageId) (old items : List Item)
    → new.page ≡ Some page → ((other : PageId) → has_reference items other ≡ has_reference old other)
    → Adds page old (with_new id parent place new items)
adds_new id parent place new page old items has same =
    record {
      own =
          list_any_last (λ (i : Item). is_page page i.page) (with_child parent place id items) (item_of id new)
          (ap (is_page page) has ∙ eq-eqb page.0 page.0 refl);
      others =
          λ other apart.
          reference_inserted id parent place new items other (ap (is_page other) has ∙ other_way other page apart)
          ∙ same other;
    }

-- the entry of a new tag
pub adds_tagged : (next : ℕ) (page : PageId) (name : List ℕ) (date : Micros) (items : List Item)
    → Adds page items (tagged_items next page name date items)
adds_tagged next page name date items =
    adds_new (item_id (next + (new_items name items - 1))) (tag_id next name items) End (new_entry page date) page items
    (with_tag next name date items) refl (λ other. folder_still next name date items other)

module _ (old : Kept) (ids : Ids) (items : List Item) (page : PageId) (is_place : Bool)
    (adds : Adds page old.items items) (r : IsReady page is_place old) where
  right_grown : AreRightBut (page ∷ []) (with_tree ids items old)
  right_grown =
      right_alike old ids items (page ∷ [])
      (λ k d within other.
      let id : PageId = (get_or old.pages k d).page.id in
      adds.others id (or_parts (id.0 == page.0) false other).0) r.right

  standing_grown : AreStanding (with_tree ids items old)
  standing_grown =
      record { by_row = λ k d within. stands (get_or old.pages k d).page.id (r.by_row k d within); typed = r.typed }
    where
      choose : (id : PageId) (b : Bool) → (id.0 == page.0) ≡ b → (b ≡ false → IsTrue (is_standing (store_of old) id))
          → IsTrue (is_standing (store_of (with_tree ids items old)) id)
      choose id true is others =
          or_right (is_visited (store_of old) id) (has_reference items id)
          (ap (has_reference items) (same_page id page is) ∙ adds.own)
      choose id false is others =
          ap (λ (b : Bool). is_visited (store_of old) id || b) (adds.others id is) ∙ others refl

      stands : (id : PageId) → ((id.0 == page.0) ≡ false → IsTrue (is_standing (store_of old) id))
          → IsTrue (is_standing (store_of (with_tree ids items old)) id)
      stands id others = choose id (id.0 == page.0) refl (λ is. others is)

-- the mark of the page is counted right
pub mark_counted : (old made : Kept) (ids : Ids) (items : List Item) (page : PageId) (is_place : Bool) (mark : Mark)
    → IsReady page is_place old → made ≡ with_tree ids items old → Some mark ≡ option_map mark_of (page_at made page)
    → mark.count ≡ visit_count (store_of made) page
mark_counted old made ids items page is_place mark r is some =
    count_at made page mark (subst HaveCounts (sym is) r.counts) (mark_at made page mark some)

-- items leave the sums
pub sums_grown : (old made : Kept) (ids : Ids) (items : List Item) → made ≡ with_tree ids items old → HaveSums old
    → HaveSums made
sums_grown old made ids items is sums =
    sums_still old made (ap (λ (k : Kept). k.pages) is) (ap (λ (k : Kept). k.origins) is) sums

pub sound_grown : (old made now : Kept) (ids : Ids) (items : List Item) (page : PageId) (is_place : Bool) (mark : Mark)
    (frecency : ℤ) → Adds page old.items items → IsReady page is_place old → made ≡ with_tree ids items old
    → IsWellKept made → HasGoodItems (store_of made) → Some mark ≡ option_map mark_of (page_at made page)
    → Refreshes page mark is_place made now frecency → IsWellKept now → HaveSums now → IsSound now
sound_grown old made now ids items page is_place mark frecency adds r is h good some f well sums =
    let same : store_of now ≡ store_of made = source_store made now page mark is_place frecency h some f in
    let right : AreRightBut [] now =
    right_refreshed [] page mark is_place made now frecency
    (subst (AreRightBut (page ∷ [])) (sym is) (right_grown old ids items page is_place adds r)) f
    (mark_counted old made ids items page is_place mark r is some) (rw is r.place) in
    let all : IsRight now =
    record {
      frecencies = λ k d within. (right k d within refl).0;
      counts = λ k d within. (right k d within refl).1;
      hidden = λ k d within. (right k d within refl).2;
    } in
    record {
      good =
          good_of now well (subst HasGoodItems (sym same) good)
          (standing_alike made now same
          (subst AreStanding (sym is) (standing_grown old ids items page is_place adds r)));
      right = all;
      totals = totals_of_sums now all sums;
    }

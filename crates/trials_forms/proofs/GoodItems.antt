-- A change of pages or visits leaves the items those of a good store.
use Rattle.std.proofs.Common.{◌≡◌, ◌∙◌, ◌==◌, Bool, true, false, ℕ, IfSome, IsTrue, List, [], ◌∷◌}
use Rattle.std.proofs.Common.{Some, None, ap, if◌then◌else◌, refl, subst, sym}
use Rattle.std.specs.List.{AllByRecursion}
use Rattle.std.proofs.lemmas.List.Elements.{All-from_recursion, recursion_from_All}
use Rattle.pl_base.specs.declared.date.Micros.{Micros}
use Rattle.pl_base.specs.declared.id.ItemId.{ItemId}
use Rattle.pl_base.specs.declared.id.PageId.{PageId}
use Rattle.pl_base.specs.Date.{IsDate}
use Rattle.pl_base.specs.Good.{HasGoodItems, IsGoodItem, has_page_at}
use Rattle.pl_base.specs.Marks.{is_referenced}
use Rattle.pl_base.specs.Rows.{IsWellKept, Kept, KeptPage, WithoutPage, has_page, next_page, store_of}
use Rattle.pl_base.specs.Rows.{titled, with_items, with_new_page, with_origin, with_title}
use Rattle.pl_base.specs.Store.{Item}
use Rattle.pl_base.specs.Tree.{has_item, is_page, redated, retitled}
use Rattle.pl_base.proofs.ListLaws.{list_any-alike, list_any-map, list_any_push}
use Rattle.pl_base.proofs.LookUps.{apart_increasing, both, found_holds, found_one, none_pass}
use Rattle.pl_tree.specs.declared.tree_change.TreeChange.TheVariants.{Retitle}
use Rattle.pl_tree.specs.Refused.{refusal}
use Rattle.pl_tree.proofs.GoodChanges.{good_retitled}
use Rattle.pl_history.specs.declared.find.Target.{Target}
use Rattle.pl_history.specs.declared.find.Target.TheVariants.{Known, New}
use Rattle.pl_history.specs.Target.{WithTarget}
use Rattle.pl_graft.proofs.TagsKept.{has_by_store}
use Rattle.pl_history.proofs.Dropped.{item_page_left, page_left}
use Rattle.pl_history.proofs.GoodRows.{items_still, items_with}
use Rattle.pl_record.proofs.NamedSlots.{found_of}

-- the same items, and each page is still there
pub good_still : (old made new : Kept) → new ≡ made → old.items ≡ made.items
    → ((id : PageId) → has_page old id ≡ true → has_page made id ≡ true) → HasGoodItems (store_of old)
    → HasGoodItems (store_of new)
good_still old made new is same stays good =
    subst (λ (k : Kept). HasGoodItems (store_of k)) (sym is)
    (items_still (store_of old) (store_of made) same
    (λ id there. has_by_store made id ∙ stays id (sym (has_by_store old id) ∙ there)) good)

-- ---- a new page

pub good_target : (url : List ℕ) (target : Target) (old new : Kept) (page : PageId)
    → WithTarget url target old new page → HasGoodItems (store_of old) → HasGoodItems (store_of new)
good_target url (Known known) old new page with good =
    subst (λ (k : Kept). HasGoodItems (store_of k)) (sym with.1) good
good_target url (New (Some origin)) old new page with good =
    good_still old (with_new_page url origin old) new with.1 refl
    (λ id there.
    list_any_push (λ (p : KeptPage). p.page.id.0 == id.0) old.pages (next_page url origin old) there) good
good_target url (New None) old new page with good =
    let origin = with.1.0 in
    good_still old (with_new_page url origin (with_origin origin old)) new with.1.1 refl
    (λ id there.
    list_any_push (λ (p : KeptPage). p.page.id.0 == id.0) old.pages (next_page url origin old) there) good

-- ---- a title

pub has_titled : (kept : Kept) (page : PageId) (title : List ℕ) (id : PageId)
    → has_page (with_title page title kept) id ≡ has_page kept id
has_titled kept page title id =
    list_any-map (λ (p : KeptPage). p.page.id.0 == id.0)
    (λ (p : KeptPage). if p.page.id.0 == page.0 then titled title p else p) kept.pages
    ∙ list_any-alike (λ (p : KeptPage). (if p.page.id.0 == page.0 then titled title p else p).page.id.0 == id.0)
    (λ (p : KeptPage). p.page.id.0 == id.0) kept.pages (λ p. choose (p.page.id.0 == page.0) p)
  where
    choose : (b : Bool) (p : KeptPage) → ((if b then titled title p else p).page.id.0 == id.0) ≡ (p.page.id.0 == id.0)
    choose true p = refl
    choose false p = refl

-- ---- a page that goes

pub good_left : (page : PageId) (old new : Kept) → WithoutPage page old new
    → is_referenced (store_of old) page ≡ false → HasGoodItems (store_of old) → HasGoodItems (store_of new)
good_left page old new left none good =
    let P : Item → Type 0 = λ (i : Item). IfSome i.page (λ id. IsTrue (has_page_at (store_of new) id)) in
    items_with (store_of old) (store_of new) (sym left.items)
    (All-from_recursion P old.items
    (both (IsGoodItem (store_of old)) (λ (i : Item). is_page page i.page ≡ false) P old.items
    (λ i fine other.
    item_page_left page (store_of old) (store_of new) i.page other
    (λ id apart there.
    has_by_store new id ∙ page_left page id old.pages new.pages left.pages apart ∙ sym (has_by_store old id) ∙ there)
    fine.page)
    (recursion_from_All (IsGoodItem (store_of old)) old.items good.items)
    (none_pass (λ (i : Item). is_page page i.page) old.items none)))
    good

-- ---- a date

-- another date is the same title with another date, where only this item has the id
same_title : (item : ItemId) (date : Micros) (one : Item) (is : List Item)
    → AllByRecursion (λ (i : Item). (i.id.0 == item.0) ≡ true → i ≡ one) is
    → redated item date is ≡ retitled item one.title date is
same_title item date one [] all = refl
same_title item date one (i ∷ is) all = choose (i.id.0 == item.0) all.0 (same_title item date one is all.1)
  where
    choose : (b : Bool) → (b ≡ true → i ≡ one) → redated item date is ≡ retitled item one.title date is
        → ((if b then record i { modified = date } else i) ∷ redated item date is)
        ≡ ((if b then record i { title = one.title; modified = date } else i) ∷ retitled item one.title date is)
    choose true same rest =
        ap (λ (t : List ℕ). record i { title = t; modified = date } ∷ redated item date is)
        (ap (λ (j : Item). j.title) (same refl))
        ∙ ap (λ (js : List Item). record i { title = one.title; modified = date } ∷ js) rest
    choose false same rest = ap (λ (js : List Item). i ∷ js) rest

pub good_redated : (kept : Kept) (item : ItemId) (date : Micros) → IsWellKept kept → has_item kept.items item ≡ true
    → refusal kept.items (Retitle item) ≡ None → IsDate date → HasGoodItems (store_of kept)
    → HasGoodItems (store_of (with_items (redated item date kept.items) kept))
good_redated kept item date h there none dated good =
    let number : Item → ℕ = λ (i : Item). i.id.0 in
    let one = found_of (λ (i : Item). i.id.0 == item.0) kept.items there in
    let fine : IsGoodItem (store_of kept) one.0 =
    found_holds (IsGoodItem (store_of kept)) (λ (i : Item). i.id.0 == item.0) kept.items one.0
    (recursion_from_All (IsGoodItem (store_of kept)) kept.items good.items) one.1 in
    subst (λ (items : List Item). HasGoodItems (store_of (with_items items kept)))
    (sym (same_title item date one.0 kept.items
    (found_one number item.0 kept.items one.0
    (apart_increasing number kept.items h.item_ids.ascending) one.1)))
    (good_retitled kept item one.0.title date h good fine.title dated none)

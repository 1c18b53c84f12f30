-- No item has a page with the next id, so it has no tag.
use Rattle.std.proofs.Common.{◌≡◌, ◌∙◌, ◌==◌, false, true, Bool, IfSome, IsTrue, List, [], ◌∷◌, Option, Some, None}
use Rattle.std.proofs.Common.{arith, find, refl, sym, ℕ, ◌<◌}
use Rattle.std.specs.List.{AllByRecursion}
use Rattle.std.specs.Option.{option_and_then}
use Rattle.std.proofs.lemmas.List.Elements.{recursion_from_All}
use Rattle.pl_base.specs.declared.id.PageId.{PageId}
use Rattle.pl_base.specs.Good.{HasGoodItems, IsGoodItem, has_page_at}
use Rattle.pl_base.specs.Rows.{IsWellKept, Kept, KeptPage, store_of}
use Rattle.pl_base.specs.Store.{Item, Page}
use Rattle.pl_base.specs.Tree.{child_items, is_page}
use Rattle.pl_base.proofs.ListLaws.{list_any-map, weaker}
use Rattle.pl_base.proofs.PageLaws.{ids_below}
use Rattle.pl_base.proofs.PagesRun.{not_equal}
use Rattle.pl_tree.specs.Tagged.{entry_in, tag_entry, tag_named}
use Rattle.pl_done.proofs.ChildItems.{children_too}
use Rattle.pl_history.proofs.ReadyPage.{id_below}

none_found : (test : Item → Bool) (items : List Item) → AllByRecursion (λ (i : Item). test i ≡ false) items
    → find test items ≡ None
none_found test [] none = refl
none_found test (i ∷ items) none = rw none.0 (none_found test items none.1)

-- no item has it
items_apart : (kept : Kept) (page : PageId) → IsWellKept kept → HasGoodItems (store_of kept)
    → page.0 ≡ kept.ids.page → AllByRecursion (λ (i : Item). is_page page i.page ≡ false) kept.items
items_apart kept page h good is =
    weaker (IsGoodItem (store_of kept)) (λ (i : Item). is_page page i.page ≡ false) kept.items
    (λ i fine. apart i.page fine.page)
    (recursion_from_All (IsGoodItem (store_of kept)) kept.items good.items)
  where
    below : (id : PageId) → has_page_at (store_of kept) id ≡ true → id.0 < kept.ids.page
    below id there =
        id_below kept.pages kept.ids.page id.0
        (recursion_from_All (λ (p : KeptPage). p.page.id.0 < kept.ids.page) kept.pages (ids_below kept h))
        (sym (list_any-map (λ (p : Page). p.id.0 == id.0) (λ (p : KeptPage). p.page) kept.pages) ∙ there)

    apart : (of : Option PageId) → IfSome of (λ id. IsTrue (has_page_at (store_of kept) id)) → is_page page of ≡ false
    apart None there = refl
    apart (Some id) there = not_equal id.0 page.0 (omega (arith, below id there, is))

pub no_entry : (kept : Kept) (page : PageId) (name : List ℕ) → IsWellKept kept → HasGoodItems (store_of kept)
    → page.0 ≡ kept.ids.page → tag_entry page name kept.items ≡ None
no_entry kept page name h good is = choose (tag_named name kept.items)
  where
    choose : (tag : Option Item) → option_and_then (entry_in kept.items page) tag ≡ None
    choose None = refl
    choose (Some t) =
        none_found (λ (i : Item). is_page page i.page) (child_items kept.items t.id)
        (children_too (λ (i : Item). is_page page i.page ≡ false) kept.items t.id (items_apart kept page h good is))

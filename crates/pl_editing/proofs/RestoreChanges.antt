-- The pages that a restore bore on, and the store that it came from.
use Rattle.std.proofs.Common.{◌≡◌, ◌∙◌, ◌<◌, ◌++◌, ◌==◌, ◌||◌, All, Bool, true, false, List, [], ap, arith}
use Rattle.std.proofs.Common.{map, refl, subst, sym}
use Rattle.std.specs.List.{list_any}
use Rattle.std.proofs.lemmas.Bool.{false_from_ne_true, false≢true, or_left, or_right}
use Rattle.std.proofs.lemmas.List.Elements.{All-from_recursion, All-weaker}
use Rattle.std.proofs.lemmas.List.Folds.{list_any-append}
use Rattle.pl_base.specs.declared.id.PageId.{PageId}
use Rattle.pl_base.specs.Good.{HasGoodItems, IsGood}
use Rattle.pl_base.specs.Marks.{is_referenced}
use Rattle.pl_base.specs.Removal.{without_idle_pages}
use Rattle.pl_base.specs.Rows.{Kept, store_of, with_items}
use Rattle.pl_base.specs.Store.{Item, Page, Store, roots}
use Rattle.pl_base.specs.Tree.{is_page}
use Rattle.pl_base.proofs.ListLaws.{list_any-alike}
use Rattle.pl_base.proofs.LookUps.{none_kept, none_pass}
use Rattle.pl_marks.specs.Alike.{DifferOnlyOn, HaveSamePages, is_one_of}
use Rattle.pl_history.specs.Addresses.{HaveAddresses}
use Rattle.pl_history.proofs.KeptAddresses.{addresses_known, addresses_same}
use Rattle.pl_nbread.specs.declared.tree.Tree.{Tree}
use Rattle.pl_graft.specs.Gained.{gained, has_new_item}
use Rattle.pl_graft.specs.Import.{imported}
use Rattle.pl_graft.specs.Restored.{emptied, restored}
use Rattle.pl_known.specs.declared.known.Known.{Known}
use Rattle.pl_known.specs.Known.{Knows}
use Rattle.pl_changes.specs.CameFrom.{CameByItems}
use Rattle.pl_bearing.specs.References.{AreReferencesAlike, reference, references_of}
use Rattle.pl_bearing.proofs.DifferByItems.{differ_by_items, same_pages_by_items}
use Rattle.pl_bearing.proofs.ImportedReferences.{AddsPages, held_gained, imported_alike, imported_pages}
use Rattle.pl_editing.proofs.ImportChanges.{imported_is}
use Rattle.pl_editing.proofs.ItemChanges.{came_by_items}
use Rattle.pl_editing.proofs.LostItems.{eqb_turned}

-- ---- the store

module _ (tree : Tree) (old : Store) (good : IsGood old) where
  abbrev first : Store
  first = emptied old

  abbrev made : Store
  made = imported tree first

  abbrev last : Store
  last = restored tree old

  comes : AddsPages first made
  comes = imported_pages tree first

  made_is : last ≡ without_idle_pages (record old { ids = made.ids; items = made.items; pages = old.pages ++ comes.added })
  made_is = ap without_idle_pages (imported_is tree first comes)

  -- a page that comes back is the one that was there
  pub restored_texts : HaveSamePages old last
  restored_texts = same_pages_by_items old last made.ids made.items comes.added good made_is comes.behind

  module _ (ids : List PageId) (items : HasGoodItems last)
      (lost : (page : PageId) → is_referenced old page ≡ true → is_one_of ids page ≡ true)
      (won : (page : PageId) → is_one_of (gained first last) page ≡ true → is_one_of ids page ≡ true) where
    with_new_item : (page : PageId) → has_new_item first.ids.item made.items page ≡ true → is_one_of ids page ≡ true
    with_new_item page some = won page (held_gained first last page items some)

    -- no item had it
    none_told : (page : PageId) → is_one_of ids page ≡ false → references_of old.items page ≡ []
    none_told page other =
        let test : Item → Bool = λ (i : Item). is_page page i.page in
        ap (map (reference old.items))
        (none_kept test old.items
        (none_pass test old.items
        (false_from_ne_true (list_any test old.items) (λ some. false≢true (sym other ∙ lost page some)))))

    below : All (λ (i : Item). i.id.0 < first.ids.item) roots
    below =
        let late = good.item_ids.next_first in
        All-from_recursion (λ (i : Item). i.id.0 < old.ids.item) roots
        (omega arith, (omega arith, (omega arith, (omega arith, (omega arith, (omega arith, tt))))))

    alike : AreReferencesAlike ids old.items made.items
    alike page other = imported_alike tree first ids below with_new_item page other ∙ sym (none_told page other)

    pub restored_differs : IsGood last → DifferOnlyOn ids old last
    restored_differs still =
        differ_by_items ids old last made.ids made.items comes.added good still made_is
        (All-weaker (λ (p : Page). has_new_item first.ids.item made.items p.id ≡ true)
        (λ (p : Page). is_one_of ids p.id ≡ true) (λ p some. with_new_item p.id some) comes.added comes.held)
        comes.behind alike

-- ---- what is known

-- the views tell the addresses of the pages that are there
pub restored_addresses : (tree : Tree) (old new : Kept) (known : Known) → IsGood (store_of old)
    → Knows (store_of old) known → store_of new ≡ restored tree (store_of old) → HaveAddresses known.views.items new
restored_addresses tree old new known good knows is =
    let mid : Kept = with_items old.items new in
    addresses_same known.views.items mid new refl
    (addresses_known known.views.items (store_of old) mid knows.views
    (record {
      items = refl;
      pages = subst (HaveSamePages (store_of old)) (sym is) (restored_texts tree (store_of old) good);
    }))

-- the pages that lost their items, and those that got one, in order
pub restored_came : (tree : Tree) (old new : Store) (known : Known) (lost ids : List PageId) → IsGood old → IsGood new
    → HasGoodItems (restored tree old) → Knows old known → new ≡ restored tree old
    → ((page : PageId) → list_any (λ (l : PageId). l.0 == page.0) lost ≡ is_referenced old page)
    → ((page : PageId) → list_any (λ (id : PageId). page.0 == id.0) ids
    ≡ list_any (λ (id : PageId). page.0 == id.0) (lost ++ gained (emptied old) (restored tree old)))
    → CameByItems ids known new
restored_came tree old new known lost ids good still items knows is losers both =
    came_by_items ids old new known knows
    (subst (DifferOnlyOn ids old) (sym is)
    (restored_differs tree old good ids items
    (λ page some. one_of page ∙ or_left (is_one_of lost page) (is_one_of won page) (turned page ∙ losers page ∙ some))
    (λ page some. one_of page ∙ or_right (is_one_of lost page) (is_one_of won page) some) (subst IsGood is still)))
  where
    won : List PageId
    won = gained (emptied old) (restored tree old)

    one_of : (page : PageId) → is_one_of ids page ≡ (is_one_of lost page || is_one_of won page)
    one_of page = both page ∙ list_any-append (λ (id : PageId). page.0 == id.0) lost won

    turned : (page : PageId) → is_one_of lost page ≡ list_any (λ (l : PageId). l.0 == page.0) lost
    turned page =
        list_any-alike (λ (id : PageId). page.0 == id.0) (λ (id : PageId). id.0 == page.0) lost
        (λ id. eqb_turned page.0 id.0)

-- The pages that an import bore on, and the store that it came from.
use Rattle.std.proofs.Common.{◌≡◌, ◌∙◌, ◌<◌, ◌++◌, ℕ, List, ap, get_or}
use Rattle.std.specs.List.{All}
use Rattle.pl_base.specs.declared.date.Day.{Day}
use Rattle.pl_base.specs.Good.{HasGoodItems, IsGood}
use Rattle.pl_base.specs.Rows.{IsSound, IsWellKept, Kept, store_of}
use Rattle.pl_base.specs.Store.{Item, Page, Store, Visit}
use Rattle.pl_base.proofs.ListLaws.{All-from_map}
use Rattle.pl_nbread.specs.declared.tree.Tree.{Tree}
use Rattle.pl_graft.specs.Gained.{gained}
use Rattle.pl_graft.specs.Import.{imported}
use Rattle.pl_known.specs.declared.known.Known.{Known}
use Rattle.pl_known.specs.Known.{Knows}
use Rattle.pl_changes.specs.CameFrom.{CameByItems}
use Rattle.pl_bearing.proofs.DifferByItems.{differ_by_items_kept}
use Rattle.pl_bearing.proofs.ImportedReferences.{AddsPages, gained_alike, held_gained, imported_pages}
use Rattle.pl_editing.proofs.ItemChanges.{came_by_items}

-- what the import makes, by what it makes of pages and items
pub imported_is : (tree : Tree) (store : Store) (a : AddsPages store (imported tree store)) → imported tree store
    ≡ record store {
      ids = (imported tree store).ids;
      items = (imported tree store).items;
      pages = store.pages ++ a.added;
    }
imported_is tree store a =
    let made : Store = imported tree store in
    ap (λ (day : Day). record made { day = day }) a.day
    ∙ ap (λ (pages : List Page). record made { day = store.day; pages = pages }) a.is
    ∙ ap
    (λ (visits : List Visit). record made { day = store.day; pages = store.pages ++ a.added; visits = visits })
    a.visits

pub imported_came : (tree : Tree) (old : Kept) (new : Store) (known : Known) → IsWellKept old → IsSound old → IsGood new
    → HasGoodItems (imported tree (store_of old)) → Knows (store_of old) known → new ≡ imported tree (store_of old)
    → CameByItems (gained (store_of old) (imported tree (store_of old))) known new
imported_came tree old new known well sound still good knows is =
    let store : Store = store_of old in
    let made : Store = imported tree store in
    let a : AddsPages store made = imported_pages tree store in
    let below : All (λ (i : Item). i.id.0 < store.ids.item) store.items =
    λ k d within.
    (All-from_map (λ (n : ℕ). (0 < n) × (n < old.ids.item)) (λ (i : Item). i.id.0) old.items well.item_ids.given k d
    within).1 in
    came_by_items (gained store made) store new known knows
    (differ_by_items_kept (gained store made) store new made.ids made.items a.added sound.good still
    (is ∙ imported_is tree store a)
    (λ k d within. held_gained store made (get_or a.added k d).id good (a.held k d within))
    (gained_alike tree store below good))

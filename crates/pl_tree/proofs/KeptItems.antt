-- Items stay good where they have other children, another title or another date.
use Rattle.std.proofs.Common.{◌≡◌, ◌≢◌, ◌==◌, ℕ, List, [], sym, subst}
use Rattle.std.specs.List.{All, list_any}
use Rattle.std.specs.Option.{IfSome}
use Rattle.std.specs.Prelude.{IsTrue}
use Rattle.std.proofs.lemmas.List.Elements.{All-from_recursion, recursion_from_All}
use Rattle.pl_base.specs.declared.date.Micros.{Micros}
use Rattle.pl_base.specs.declared.id.ItemId.{ItemId}
use Rattle.pl_base.specs.declared.id.PageId.{PageId}
use Rattle.pl_base.specs.declared.item.ItemKind.TheVariants.{Folder}
use Rattle.pl_base.specs.Date.{IsDate}
use Rattle.pl_base.specs.Good.{IsGoodItem, IsTitle}
use Rattle.pl_base.specs.Store.{Item, Page, Store}
use Rattle.pl_base.proofs.Among.{In, all_from_in, at_in}

pub good_item : (store : Store) (i : Item) → All (IsGoodItem store) store.items → In i store.items
    → IsGoodItem store i
good_item store i all h =
    at_in (IsGoodItem store) store.items i (recursion_from_All (IsGoodItem store) store.items all) h

pub all_good : (store : Store) → ((i : Item) → In i store.items → IsGoodItem store i)
    → All (IsGoodItem store) store.items
all_good store each =
    All-from_recursion (IsGoodItem store) store.items (all_from_in (IsGoodItem store) store.items each)

pub good_again : (old new : Store) (i : Item) (title : List ℕ) (modified : Micros) (children : List ItemId)
    → new.pages ≡ old.pages → IsGoodItem old i → IsTitle title → IsDate modified
    → (children ≢ [] → i.kind ≡ Folder)
    → IsGoodItem new (record i { title = title; modified = modified; children = children })
good_again old new i title modified children pages good named dated parents =
    record {
      title = named;
      added = good.added;
      modified = dated;
      bookmark = good.bookmark;
      page =
          subst
          (λ (ps : List Page). IfSome i.page (λ (id : PageId). IsTrue (list_any (λ (p : Page). p.id.0 == id.0) ps)))
          (sym pages) good.page;
      children = parents;
    }

-- the same item in a store with the same pages
pub good_still : (old new : Store) (i : Item) → new.pages ≡ old.pages → IsGoodItem old i → IsGoodItem new i
good_still old new i pages good =
    good_again old new i i.title i.modified i.children pages good good.title good.modified good.children

-- the same item with other children
pub good_children : (old new : Store) (i : Item) (children : List ItemId) → new.pages ≡ old.pages
    → (children ≢ [] → i.kind ≡ Folder) → IsGoodItem old i → IsGoodItem new (record i { children = children })
good_children old new i children pages parents good =
    good_again old new i i.title i.modified children pages good good.title good.modified parents

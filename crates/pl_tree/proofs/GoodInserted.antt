-- A new item keeps the items those of a good store.
use Rattle.std.proofs.Common.{◌<◌, ◌≤◌, ◌++◌, ◌∷◌, [], List, ℕ, inl, inr, arith}
use Rattle.std.specs.Prelude.{◌↔◌, ◌≡◌, IsTrue}
use Rattle.std.specs.Option.{IfSome, IsSome}
use Rattle.pl_base.specs.declared.id.Ids.{Ids}
use Rattle.pl_base.specs.declared.id.ItemId.{ItemId}
use Rattle.pl_base.specs.declared.item.ItemKind.TheVariants.{Bookmark}
use Rattle.pl_base.specs.declared.item.ItemRow.{ItemRow}
use Rattle.pl_base.specs.Date.{IsDate}
use Rattle.pl_base.specs.Good.{HasGoodItems, IsTitle, has_page_at}
use Rattle.pl_base.specs.Store.{Item, Store}
use Rattle.pl_base.specs.Tree.{new_item}
use Rattle.pl_base.proofs.Among.{In}
use Rattle.pl_tree.specs.declared.place.Place.{Place}
use Rattle.pl_tree.specs.Changes.{with_child}
use Rattle.pl_base.proofs.KeyCounts.{Ascends}
use Rattle.pl_tree.proofs.Causes.{Takes}
use Rattle.pl_tree.proofs.GoodRows.{HasGoodRows, good_rows, with_tags}
use Rattle.pl_tree.proofs.InsertedRows.{IsFolderAt, found_as_before, inserted_rows}
use Rattle.pl_tree.proofs.KeptTags.{kept_tags}
use Rattle.pl_tree.proofs.LookedUp.{item_key}
use Rattle.pl_tree.proofs.TagItems.{child_of_tags, takes_apart}
use Rattle.pl_tree.proofs.TreeLaws.{child_below, child_once}

pub inserted_good : (old : Store) (ids : Ids) (id parent : ItemId) (place : Place) (row : ItemRow) (title : List ℕ)
    → Ascends item_key old.items → HasGoodItems old → Takes old.items parent
    → ((i : Item) → In i old.items → i.id.0 < id.0) → 7 ≤ id.0 → IsTitle title → IsDate row.added
    → IsDate row.modified → (IsSome row.page ↔ (row.kind ≡ Bookmark))
    → IfSome row.page (λ page. IsTrue (has_page_at old page))
    → HasGoodItems (record old {
      ids = ids;
      items = with_child parent place id old.items ++ new_item id row title ∷ [];
    })
inserted_good old ids id parent place row title up good t fresh late named added modified bookmark page =
    let rows : HasGoodRows old = good_rows old good in
    let at : IsFolderAt old.items parent =
    record { folder = t.folder; there = t.there; kind = t.kind; not_first = t.not_first }
    in
    let store : Store =
    record old { ids = ids; items = with_child parent place id old.items ++ new_item id row title ∷ [] } in
    with_tags store
    (inserted_rows old ids id parent place row title up rows at fresh late named added modified bookmark page)
    (kept_tags old store (child_once old.items good.tree) (λ x is.
    found_as_before old ids id parent place row title up rows at fresh late x
    (elim (child_of_tags old.items x is) as (λ _. x.0 < id.0) [
      | inl root ↦ omega arith
      | inr child ↦ child_below old.items id.0 good.tree fresh x child
    ])
    (takes_apart old parent x up good.tags t is))
    good.tags)

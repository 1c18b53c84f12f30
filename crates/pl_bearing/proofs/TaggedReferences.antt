-- A page that gets a tag leaves what the items of all other pages tell.
use Rattle.std.proofs.Common.{◌≡◌, ◌<◌, ◌+◌, ◌-◌, ℕ, List}
use Rattle.std.proofs.Common.{true, Option, Some, None, arith, if◌then◌else◌, refl}
use Rattle.std.specs.Prelude.{unwrap_or}
use Rattle.std.specs.Option.{is_none, option_map}
use Rattle.pl_base.specs.declared.date.Micros.{Micros}
use Rattle.pl_base.specs.declared.id.ItemId.{ItemId}
use Rattle.pl_base.specs.declared.id.PageId.{PageId}
use Rattle.pl_base.specs.Rows.{IsWellKept, Kept}
use Rattle.pl_base.specs.Store.{Item, item_id}
use Rattle.pl_base.specs.Tags.{tags_root}
use Rattle.pl_base.proofs.Among.{In}
use Rattle.pl_tree.specs.declared.place.Place.TheVariants.{End}
use Rattle.pl_tree.specs.Changes.{item_of, with_new}
use Rattle.pl_tree.specs.Tagged.{new_entry, new_tag, tag_named, tagged_items}
use Rattle.pl_tree.proofs.GoodChanges.{below_next}
use Rattle.pl_tree.proofs.MoreItems.{fresh_more}
use Rattle.pl_marks.specs.Alike.{is_one_of}
use Rattle.pl_bearing.specs.References.{AreReferencesAlike}
use Rattle.pl_bearing.proofs.MappedReferences.{alike_then, other_page}
use Rattle.pl_bearing.proofs.NewReferences.{new_alike}

module _ (next : ℕ) (page : PageId) (name : List ℕ) (date : Micros) (ids : List PageId) (items : List Item)
    (fresh : (i : Item) → In i items → i.id.0 < next) (one : is_one_of ids page ≡ true) where
  -- with a new folder for the tag
  abbrev mid : List Item
  mid = with_new (item_id next) tags_root End (new_tag name date) items

  mid_fresh : (i : Item) → In i mid → i.id.0 < next + 1
  mid_fresh =
      let folder : Item = item_of (item_id next) (new_tag name date) in
      fresh_more items (item_id next) tags_root folder refl fresh

  mid_alike : AreReferencesAlike ids items mid
  mid_alike =
      new_alike ids items (item_id next) tags_root End (new_tag name date)
      (λ i h same. omega (arith, fresh i h)) (λ other none. refl)

  entry_alike : (olds : List Item) (n : ℕ) (folder : ItemId) → ((i : Item) → In i olds → i.id.0 < n)
      → AreReferencesAlike ids olds (with_new (item_id n) folder End (new_entry page date) olds)
  entry_alike olds n folder below =
      new_alike ids olds (item_id n) folder End (new_entry page date) (λ i h same. omega (arith, below i h))
      (λ other none. other_page ids other (Some page) none one)

  -- as `tagged_items` has it
  abbrev tagged_by : Option Item → List Item
  tagged_by tag =
      with_new (item_id (next + ((if is_none tag then 2 else 1) - 1)))
      (unwrap_or (option_map (λ (t : Item). t.id) tag) (item_id next)) End (new_entry page date)
      (if is_none tag then mid else items)

  by_alike : (tag : Option Item) → AreReferencesAlike ids items (tagged_by tag)
  by_alike None =
      alike_then ids items mid (tagged_by None) mid_alike
      (entry_alike mid (next + (2 - 1)) (item_id next) mid_fresh)
  by_alike (Some tag) =
      entry_alike items (next + (1 - 1)) tag.id (λ i h. omega (arith, fresh i h))

  -- of any items whose ids lie below the next one
  items_tagged_alike : AreReferencesAlike ids items (tagged_items next page name date items)
  items_tagged_alike = by_alike (tag_named name items)

pub tagged_alike : (kept : Kept) (page : PageId) (name : List ℕ) (date : Micros) (ids : List PageId)
    → IsWellKept kept → is_one_of ids page ≡ true
    → AreReferencesAlike ids kept.items (tagged_items kept.ids.item page name date kept.items)
tagged_alike kept page name date ids h one =
    items_tagged_alike kept.ids.item page name date ids kept.items (below_next kept h) one

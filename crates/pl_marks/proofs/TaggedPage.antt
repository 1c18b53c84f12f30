-- What a walk over the items of a page tells of its tags: whether it has one.
use Rattle.std.proofs.Common.{◌≡◌, ◌≢◌, ◌∙◌, ◌++◌, ◌||◌, Bool, true, false, List, [], ◌∷◌, Option, Some, None}
use Rattle.std.proofs.Common.{ap, is_some, not, refl, sym}
use Rattle.std.specs.List.{list_any}
use Rattle.std.specs.Option.{is_none}
use Rattle.std.proofs.lemmas.Bool.{or_from}
use Rattle.std.proofs.lemmas.List.Folds.{list_any-append}
use Rattle.pl_base.specs.declared.id.ItemId.{ItemId}
use Rattle.pl_base.specs.declared.id.PageId.{PageId}
use Rattle.pl_base.specs.Rows.{Kept, store_of}
use Rattle.pl_base.specs.Store.{Item, Store}
use Rattle.pl_base.specs.Tags.{is_tag_entry, is_tagged}
use Rattle.pl_base.specs.Tree.{is_page}
use Rattle.pl_base.proofs.PagesRun.{there}
use Rattle.pl_base.proofs.ReferencesRun.{having, item_names}
use Rattle.pl_base.proofs.Walk.{StandsAt, Walk, ends}
use Rattle.pl_marks.specs.TagFolders.{tag_folder}
use Rattle.pl_marks.proofs.PageTags.{any_filter, outside_is}

-- the item is in a tag folder
abbrev pub is_inside : List Item → Item → Bool
is_inside items i = is_some (tag_folder items i.id)

inside_is : (store : Store) (id : ItemId) → is_some (tag_folder store.items id) ≡ is_tag_entry store id
inside_is store id =
    turned (tag_folder store.items id) ∙ ap not (outside_is store id) ∙ twice (is_tag_entry store id)
  where
    turned : (o : Option ItemId) → is_some o ≡ not (is_none o)
    turned None = refl
    turned (Some folder) = refl

    twice : (b : Bool) → not (not b) ≡ b
    twice true = refl
    twice false = refl

tagged_if : (store : Store) (page : PageId)
    → is_tagged store page ≡ list_any (is_inside store.items) (having store.items page)
tagged_if store page =
    any_filter (λ (i : Item). is_page page i.page) (λ (i : Item). is_tag_entry store i.id) (is_inside store.items)
    store.items (λ i. inside_is store i.id)

-- no item so far is in a tag folder
abbrev pub NoneInside : List Item → List Item → Type 0
NoneInside items front = list_any (is_inside items) front ≡ false

pub none_inside_more : (items front : List Item) (i : Item) → NoneInside items front → is_inside items i ≡ false
    → NoneInside items (front ++ i ∷ [])
none_inside_more items front i none outside =
    list_any-append (is_inside items) front (i ∷ [])
    ∙ or_from (list_any (is_inside items) front) (is_inside items i || false) none
    (or_from (is_inside items i) false outside refl)

pub inside_here : (kept : Kept) (page : PageId) (id : ItemId) (P : List Item → Type 0)
    → (w : StandsAt item_names (having kept.items page) P id) → is_some (tag_folder kept.items id) ≡ true
    → true ≡ is_tagged (store_of kept) page
inside_here kept page id P w inside =
    sym (tagged_if (store_of kept) page
    ∙ ap (list_any (is_inside kept.items)) w.whole
    ∙ there (is_inside kept.items) w.front w.element w.rest
    (ap (λ (i : ItemId). is_some (tag_folder kept.items i)) w.is ∙ inside))

pub none_inside : (kept : Kept) (page : PageId) (next : Option ItemId)
    → Walk item_names (having kept.items page) (NoneInside kept.items) next → ((id : ItemId) → next ≢ Some id)
    → false ≡ is_tagged (store_of kept) page
none_inside kept page next w none =
    sym (tagged_if (store_of kept) page ∙ ends item_names (having kept.items page) (NoneInside kept.items) next w none)

-- A walk that looks for one that passes a test, and what it tells of the bookmarks of a page.
use Rattle.std.proofs.Common.{◌≡◌, ◌≢◌, ◌∙◌, ◌++◌, ◌==◌, ◌&&◌, ◌||◌, Bool, true, false, not, List, [], ◌∷◌}
use Rattle.std.proofs.Common.{Option, Some}
use Rattle.std.proofs.Common.{ap, filter, if◌then◌else◌, refl, sym}
use Rattle.std.specs.List.{list_any}
use Rattle.std.specs.Option.{is_none}
use Rattle.std.proofs.lemmas.Bool.{or_from}
use Rattle.std.proofs.lemmas.List.Folds.{list_any-append}
use Rattle.pl_base.specs.declared.id.ItemId.{ItemId}
use Rattle.pl_base.specs.declared.id.PageId.{PageId}
use Rattle.pl_base.specs.Rows.{Kept, store_of}
use Rattle.pl_base.specs.Store.{Item, Store}
use Rattle.pl_base.specs.Tags.{is_tag_entry}
use Rattle.pl_base.specs.Tree.{is_page, item_at}
use Rattle.pl_base.specs.View.{bookmarks_of}
use Rattle.pl_base.proofs.LookUps.{found_passes}
use Rattle.pl_base.proofs.ItemLookUps.{same_item}
use Rattle.pl_base.proofs.PagesRun.{there}
use Rattle.pl_base.proofs.ReferencesRun.{having, item_names}
use Rattle.pl_base.proofs.Walk.{StandsAt, Walk, ends}
use Rattle.pl_marks.specs.TagFolders.{tag_folder}
use Rattle.pl_marks.proofs.PageTags.{outside_is}
use Rattle.pl_conditions.specs.AskedParts.{is_mark_in}
use Rattle.pl_conditions.specs.Conditions.{is_in_parents}

-- none so far passes
abbrev pub NonePasses : {X : Type 0} → (X → Bool) → List X → Type 0
NonePasses test front = list_any test front ≡ false

pub none_more : {X : Type 0} (test : X → Bool) (front : List X) (x : X) → NonePasses test front → test x ≡ false
    → NonePasses test (front ++ x ∷ [])
none_more test front x none fails =
    list_any-append test front (x ∷ []) ∙ or_from (list_any test front) (test x || false) none
    (or_from (test x) false fails refl)

-- ---- bookmarks in folders

any_filters : {X : Type 0} (p q r : X → Bool) (xs : List X)
    → list_any (λ x. q x && r x) (filter p xs) ≡ list_any r (filter (λ x. p x && q x) xs)
any_filters p q r [] = refl
any_filters p q r (x ∷ xs) = choose (p x) (any_filters p q r xs)
  where
    Same : Bool → Type 0
    Same a =
        list_any (λ y. q y && r y) (if a then x ∷ filter p xs else filter p xs)
        ≡ list_any r (if a && q x then x ∷ filter (λ y. p y && q y) xs else filter (λ y. p y && q y) xs)

    inner : (b : Bool) → q x ≡ b → list_any (λ y. q y && r y) (filter p xs) ≡ list_any r (filter (λ y. p y && q y) xs)
        → ((b && r x) || list_any (λ y. q y && r y) (filter p xs))
        ≡ list_any r (if b then x ∷ filter (λ y. p y && q y) xs else filter (λ y. p y && q y) xs)
    inner true is rest = ap (λ (a : Bool). r x || a) rest
    inner false is rest = rest

    choose : (a : Bool) → list_any (λ y. q y && r y) (filter p xs) ≡ list_any r (filter (λ y. p y && q y) xs) → Same a
    choose true rest = inner (q x) refl rest
    choose false rest = rest

marks_in : (kept : Kept) (page : PageId) (parents : List ItemId)
    → list_any (is_mark_in (store_of kept) parents) (having kept.items page)
    ≡ list_any (is_in_parents (store_of kept) parents) (bookmarks_of (store_of kept) page)
marks_in kept page parents =
    any_filters (λ (i : Item). is_page page i.page) (λ (i : Item). not (is_tag_entry (store_of kept) i.id))
    (is_in_parents (store_of kept) parents) kept.items

-- a bookmark of the page is in a folder
pub mark_here : (kept : Kept) (page : PageId) (parents : List ItemId) (P : List Item → Type 0) (id : ItemId)
    → (w : StandsAt item_names (having kept.items page) P id) → is_mark_in (store_of kept) parents w.element ≡ true
    → true ≡ list_any (is_in_parents (store_of kept) parents) (bookmarks_of (store_of kept) page)
mark_here kept page parents P id w is =
    sym (ap (list_any (is_mark_in (store_of kept) parents)) w.whole
    ∙ there (is_mark_in (store_of kept) parents) w.front w.element w.rest is)
    ∙ marks_in kept page parents

-- or none is
pub no_mark : (kept : Kept) (page : PageId) (parents : List ItemId) (next : Option ItemId)
    → Walk item_names (having kept.items page) (NonePasses (is_mark_in (store_of kept) parents)) next →
    ((id : ItemId) → next ≢ Some id)
    → false ≡ list_any (is_in_parents (store_of kept) parents) (bookmarks_of (store_of kept) page)
no_mark kept page parents next w none =
    sym (ends item_names (having kept.items page) (NonePasses (is_mark_in (store_of kept) parents)) next w none) ∙
    marks_in kept page parents

-- an item is in no tag folder
pub outside_at : (store : Store) (id : ItemId) (i : Item) → item_at store.items id ≡ Some i
    → is_none (tag_folder store.items id) ≡ not (is_tag_entry store i.id)
outside_at store id i at =
    outside_is store id
    ∙ ap (λ (j : ItemId). not (is_tag_entry store j))
    (sym (same_item i.id id (found_passes (λ (j : Item). j.id.0 == id.0) store.items i at)))

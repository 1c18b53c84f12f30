-- An item that moved or got another title has the page that it had.
use Rattle.std.proofs.Common.{◌≡◌, ◌==◌, ◌∙◌, Bool, true, false, List, ℕ, Option, Some, None, ap, if◌then◌else◌}
use Rattle.std.proofs.Common.{map, option_to_list, refl, subst, sym}
use Rattle.std.specs.Option.{option_and_then, option_map}
use Rattle.pl_base.specs.declared.date.Micros.{Micros}
use Rattle.pl_base.specs.declared.id.ItemId.{ItemId}
use Rattle.pl_base.specs.declared.id.PageId.{PageId}
use Rattle.pl_base.specs.Rows.{Kept, with_items}
use Rattle.pl_base.specs.Store.{Item, Store}
use Rattle.pl_base.specs.Tree.{item_at, leaving, retitled, with_changed}
use Rattle.pl_base.proofs.ListLaws.{find-map}
use Rattle.pl_base.proofs.LookUps.{find-alike}
use Rattle.pl_tree.specs.declared.place.Place.{Place}
use Rattle.pl_tree.specs.Changes.{put, taken_out, with_child, with_moved}
use Rattle.pl_known.specs.declared.known.Known.{Known}
use Rattle.pl_changes.specs.CameFrom.{CameByItems}
use Rattle.pl_editing.specs.OwnPage.{own_page}

mapped : (f : Item → Item) (id : ItemId) (items : List Item) → ((i : Item) → (f i).id ≡ i.id)
    → ((i : Item) → (f i).page ≡ i.page) → own_page (map f items) id ≡ own_page items id
mapped f id items same page =
    ap (option_and_then (λ (i : Item). i.page))
    (find-map (λ (i : Item). i.id.0 == id.0) f items
    ∙ ap (option_map f)
    (find-alike (λ (i : Item). (f i).id.0 == id.0) (λ (i : Item). i.id.0 == id.0) items
    (λ i. ap (λ (d : ItemId). d.0 == id.0) (same i))))
    ∙ choose (item_at items id)
  where
    choose : (o : Option Item)
        → option_and_then (λ (i : Item). i.page) (option_map f o) ≡ option_and_then (λ (i : Item). i.page) o
    choose None = refl
    choose (Some i) = page i

changed : (at : ItemId) (change : Item → Item) (id : ItemId) (items : List Item)
    → ((i : Item) → (change i).id ≡ i.id) → ((i : Item) → (change i).page ≡ i.page)
    → own_page (with_changed at change items) id ≡ own_page items id
changed at change id items same page =
    mapped (λ (i : Item). if i.id.0 == at.0 then change i else i) id items
    (λ i. own_id i (i.id.0 == at.0)) (λ i. own i (i.id.0 == at.0))
  where
    own_id : (i : Item) (b : Bool) → (if b then change i else i).id ≡ i.id
    own_id i true = same i
    own_id i false = refl

    own : (i : Item) (b : Bool) → (if b then change i else i).page ≡ i.page
    own i true = page i
    own i false = refl

pub moved_own : (old new : Kept) (known : Known) (store : Store) (item parent : ItemId) (place : Place) (date : Micros)
    → new ≡ with_items (with_moved item parent place date old.items) old
    → CameByItems (option_to_list (own_page old.items item)) known store
    → CameByItems (option_to_list (own_page new.items item)) known store
moved_own old new known store item parent place date is came =
    let out : List Item = taken_out item old.items in
    subst (λ (own : Option PageId). CameByItems (option_to_list own) known store)
    (sym
    (ap (λ (k : Kept). own_page k.items item) is
    ∙ changed item (λ (i : Item). record i { modified = date }) item (with_child parent place item out) (λ i. refl)
    (λ i. refl)
    ∙ changed parent (λ (i : Item). record i { children = put place item i.children }) item out (λ i. refl) (λ i. refl)
    ∙ mapped (leaving item) item old.items (λ i. refl) (λ i. refl)))
    came

pub retitled_own : (old new : Kept) (known : Known) (store : Store) (item : ItemId) (title : List ℕ) (date : Micros)
    → new ≡ with_items (retitled item title date old.items) old
    → CameByItems (option_to_list (own_page old.items item)) known store
    → CameByItems (option_to_list (own_page new.items item)) known store
retitled_own old new known store item title date is came =
    subst (λ (own : Option PageId). CameByItems (option_to_list own) known store)
    (sym
    (ap (λ (k : Kept). own_page k.items item) is
    ∙ changed item (λ (i : Item). record i { title = title; modified = date }) item old.items (λ i. refl) (λ i. refl)))
    came

-- Cases of the bookmark tree and of what refuses its changes, worked out by hand.
use Rattle.std.proofs.Common.{◌≡◌, ℕ, List, [], ◌∷◌, map, Some, None, refl}
use Rattle.std.specs.Prelude.{codes}
use Rattle.pl_base.specs.declared.date.Micros.{Micros}
use Rattle.pl_base.specs.declared.id.ItemId.{ItemId}
use Rattle.pl_base.specs.declared.id.IdKind.TheVariants.{Item as ItemIds}
use Rattle.pl_base.specs.declared.item.ItemKind.TheVariants.{Bookmark, Folder, Separator}
use Rattle.pl_base.specs.declared.refusal.Refusal.TheVariants.{BadPlace, Fixed, Inside, NoIds, NoItem, NotAFolder}
use Rattle.pl_base.specs.Good.{end_of_ids}
use Rattle.pl_base.specs.Rows.{Kept, opening_with}
use Rattle.pl_base.specs.Store.{Item, item_id, opening, root_folder}
use Rattle.pl_base.specs.Tree.{children_of, item_at}
use Rattle.pl_tree.specs.declared.new_item.NewItem.{NewItem}
use Rattle.pl_tree.specs.declared.place.Place.TheVariants.{End, Number}
use Rattle.pl_tree.specs.declared.tree_change.TreeChange.TheVariants.{Insert, Move, Remove, Retitle}
use Rattle.pl_tree.specs.Changes.{put, with_inserted, with_moved, with_removed}
use Rattle.pl_tree.specs.Places.{before}
use Rattle.pl_tree.specs.Refused.{insert_refusal, refusal}

abbrev ids : List ℕ → List ItemId
ids ns = map item_id ns

abbrev date : ℕ → Micros
date n = record { 0 = n }

abbrev folder : ℕ → List ℕ → Item
folder n children = root_folder n (ids children)

abbrev bookmark : ℕ → ℕ → Item
bookmark n page = record (root_folder n []) { kind = Bookmark; page = Some (record { 0 = page }) }

-- the menu has a folder with a bookmark in it, a bookmark and a separator; page 1 has a tag
abbrev tree : List Item
tree =
    folder 1 (2 ∷ 3 ∷ 4 ∷ 5 ∷ 6 ∷ []) ∷ folder 2 (7 ∷ 8 ∷ 9 ∷ []) ∷ folder 3 [] ∷ folder 4 (11 ∷ []) ∷ folder 5 []
    ∷ folder 6 [] ∷ folder 7 (10 ∷ []) ∷ bookmark 8 1 ∷ record (root_folder 9 []) { kind = Separator }
    ∷ bookmark 10 1 ∷ record (folder 11 (12 ∷ [])) { title = codes "t" } ∷ bookmark 12 1 ∷ []

-- ---- the store before its first command

opening_tree : map (λ (i : Item). i.id.0) opening.items ≡ 1 ∷ 2 ∷ 3 ∷ 4 ∷ 5 ∷ 6 ∷ []
opening_tree = refl

opening_children : map (λ n. children_of opening.items (item_id n)) (1 ∷ 2 ∷ 6 ∷ [])
    ≡ ids (2 ∷ 3 ∷ 4 ∷ 5 ∷ 6 ∷ []) ∷ [] ∷ [] ∷ []
opening_children = refl

opening_root : item_at opening.items (item_id 4)
    ≡ Some (record {
      id = item_id 4;
      kind = Folder;
      title = [];
      page = None;
      added = date 0;
      modified = date 0;
      children = [];
    })
opening_root = refl

-- ---- places

-- the length of a list is a place, and so is 0 in an empty one
last_places :
    put (Number 2) (item_id 9) (ids (7 ∷ 8 ∷ [])) ∷ put (Number 0) (item_id 9) [] ∷ put End (item_id 9) [] ∷ []
    ≡ ids (7 ∷ 8 ∷ 9 ∷ []) ∷ ids (9 ∷ []) ∷ ids (9 ∷ []) ∷ []
last_places = refl

-- the child behind which a place is
behind_places : map (λ place. before place (ids (7 ∷ 8 ∷ []))) (Number 0 ∷ Number 1 ∷ Number 2 ∷ End ∷ [])
    ≡ None ∷ Some (item_id 7) ∷ Some (item_id 8) ∷ Some (item_id 8) ∷ []
behind_places = refl

-- ---- a new item

abbrev new : NewItem
new = record { kind = Folder; title = codes "F"; page = None; date = date 5 }

abbrev rows : Kept
rows = record (opening_with (record { page = 1; visit = 1; item = 13 })) { items = tree }

-- it has the next id and both dates, and no child; its folder keeps its dates
abbrev grown : Kept
grown = with_inserted (item_id 2) (Number 1) new rows

new_item : item_at grown.items (item_id 13)
    ≡ Some (record {
      id = item_id 13;
      kind = Folder;
      title = codes "F";
      page = None;
      added = date 5;
      modified = date 5;
      children = [];
    })
new_item = refl

its_folder : item_at grown.items (item_id 2) ≡ Some (folder 2 (7 ∷ 13 ∷ 8 ∷ 9 ∷ []))
its_folder = refl

next_ids : grown.ids ≡ record { page = 1; visit = 1; item = 14 }
next_ids = refl

-- ---- a move

-- the item was modified, and neither folder
abbrev moved : List Item
moved = with_moved (item_id 8) (item_id 7) (Number 0) (date 5) tree

moved_item : item_at moved (item_id 8) ≡ Some (record (bookmark 8 1) { modified = date 5 })
moved_item = refl

both_folders : map (item_at moved) (ids (2 ∷ 7 ∷ []))
    ≡ Some (folder 2 (7 ∷ 9 ∷ [])) ∷ Some (folder 7 (8 ∷ 10 ∷ [])) ∷ []
both_folders = refl

-- to the place where it stands
same_place : children_of (with_moved (item_id 8) (item_id 2) (Number 1) (date 5) tree) (item_id 2)
    ≡ ids (7 ∷ 8 ∷ 9 ∷ [])
same_place = refl

-- ---- a removal

leaf_gone : map (λ (i : Item). i.id.0) (with_removed (item_id 9) tree)
    ≡ 1 ∷ 2 ∷ 3 ∷ 4 ∷ 5 ∷ 6 ∷ 7 ∷ 8 ∷ 10 ∷ 11 ∷ 12 ∷ []
leaf_gone = refl

-- ---- what refuses a new item

-- no such folder, a bookmark, a separator, an entry of a tag, the root over all, the tags root, a
-- tag
parents_refused : map (λ n. refusal tree (Insert (item_id n) (Number 99))) (0 ∷ 13 ∷ 8 ∷ 9 ∷ 12 ∷ 1 ∷ 4 ∷ 11 ∷ [])
    ≡ Some (NoItem (item_id 0)) ∷ Some (NoItem (item_id 13)) ∷ Some (NotAFolder (item_id 8))
    ∷ Some (NotAFolder (item_id 9)) ∷ Some (NotAFolder (item_id 12)) ∷ Some (Fixed (item_id 1))
    ∷ Some (Fixed (item_id 4)) ∷ Some (Fixed (item_id 11)) ∷ []
parents_refused = refl

-- the length is the last position
places_refused : map (λ place. refusal tree (Insert (item_id 2) place)) (End ∷ Number 0 ∷ Number 3 ∷ Number 4 ∷ [])
    ≡ None ∷ None ∷ None ∷ Some (BadPlace 4 3) ∷ []
places_refused = refl

-- roots below the first one take items, but for the tags root
roots_that_take_items : map (λ n. refusal tree (Insert (item_id n) (Number 0))) (2 ∷ 3 ∷ 5 ∷ 6 ∷ 7 ∷ [])
    ≡ None ∷ None ∷ None ∷ None ∷ None ∷ []
roots_that_take_items = refl

-- the last id is never given, and a bad place goes before it
abbrev with_next : ℕ → Kept
with_next next = record (opening_with (record { page = 1; visit = 1; item = next })) { items = tree }

ids_refused :
    insert_refusal (item_id 2) End (with_next 4_294_967_294) ∷ insert_refusal (item_id 2) End (with_next end_of_ids)
    ∷ insert_refusal (item_id 2) (Number 4) (with_next end_of_ids) ∷ []
    ≡ None ∷ Some (NoIds ItemIds) ∷ Some (BadPlace 4 3) ∷ []
ids_refused = refl

-- ---- what refuses another title, and a removal

items_refused : map (λ n. refusal tree (Retitle (item_id n))) (0 ∷ 13 ∷ 1 ∷ 6 ∷ 11 ∷ 12 ∷ 7 ∷ 8 ∷ 9 ∷ [])
    ≡ Some (NoItem (item_id 0)) ∷ Some (NoItem (item_id 13)) ∷ Some (Fixed (item_id 1)) ∷ Some (Fixed (item_id 6))
    ∷ Some (Fixed (item_id 11)) ∷ Some (Fixed (item_id 12)) ∷ None ∷ None ∷ None ∷ []
items_refused = refl

removals_refused : map (λ n. refusal tree (Remove (item_id n))) (13 ∷ 4 ∷ 11 ∷ 12 ∷ 7 ∷ [])
    ≡ Some (NoItem (item_id 13)) ∷ Some (Fixed (item_id 4)) ∷ Some (Fixed (item_id 11)) ∷ Some (Fixed (item_id 12))
    ∷ None ∷ []
removals_refused = refl

-- ---- what refuses a move

-- the item goes before the parent, what the parent is before what lies inside, and that before the
-- place
moves_refused :
    refusal tree (Move (item_id 13) (item_id 14) (Number 9)) ∷ refusal tree (Move (item_id 12) (item_id 14) (Number 9))
    ∷ refusal tree (Move (item_id 8) (item_id 14) (Number 9)) ∷ refusal tree (Move (item_id 8) (item_id 9) (Number 9))
    ∷ refusal tree (Move (item_id 7) (item_id 10) (Number 9)) ∷ refusal tree (Move (item_id 8) (item_id 11) (Number 9))
    ∷ refusal tree (Move (item_id 8) (item_id 8) End) ∷ refusal tree (Move (item_id 7) (item_id 7) (Number 9)) ∷ []
    ≡ Some (NoItem (item_id 13)) ∷ Some (Fixed (item_id 12)) ∷ Some (NoItem (item_id 14))
    ∷ Some (NotAFolder (item_id 9)) ∷ Some (NotAFolder (item_id 10)) ∷ Some (Fixed (item_id 11))
    ∷ Some (NotAFolder (item_id 8)) ∷ Some (Inside (item_id 7)) ∷ []
moves_refused = refl

-- in its own folder of three two are left, and in another one all count
places_of_moves :
    refusal tree (Move (item_id 8) (item_id 2) (Number 2)) ∷ refusal tree (Move (item_id 8) (item_id 2) (Number 3))
    ∷ refusal tree (Move (item_id 10) (item_id 2) (Number 3)) ∷ refusal tree (Move (item_id 10) (item_id 2) (Number 4))
    ∷ refusal tree (Move (item_id 8) (item_id 2) End) ∷ []
    ≡ None ∷ Some (BadPlace 3 2) ∷ None ∷ Some (BadPlace 4 3) ∷ None ∷ []
places_of_moves = refl

-- Rows of changes of the bookmark tree, worked out by hand.
use Rattle.std.proofs.Common.{◌≡◌, ℕ, true, false, List, [], ◌∷◌, Some, None, map, refl}
use Rattle.pl_base.specs.declared.date.Micros.{Micros}
use Rattle.pl_base.specs.declared.id.ItemId.{ItemId}
use Rattle.pl_base.specs.declared.refusal.Refusal.TheVariants.{BadPlace, Fixed, Inside, NoItem, NotAFolder}
use Rattle.pl_base.specs.declared.item.ItemKind.TheVariants.{Bookmark}
use Rattle.pl_base.specs.Store.{Item, item_id, root_folder, roots}
use Rattle.pl_base.specs.Tree.{children_of, lies_in}
use Rattle.pl_tree.specs.declared.place.Place.TheVariants.{End, Number}
use Rattle.pl_tree.specs.declared.tree_change.TreeChange.TheVariants.{Insert, Move, Remove, Retitle}
use Rattle.pl_tree.specs.Changes.{loses_item, put, with_moved, with_removed}
use Rattle.pl_tree.specs.Refused.{refusal}

abbrev ids : List ℕ → List ItemId
ids ns = map item_id ns

-- a folder by its number, with these children
abbrev folder : ℕ → List ℕ → Item
folder n children = root_folder n (ids children)

-- a bookmark of a page
abbrev bookmark : ℕ → ℕ → Item
bookmark n page = record (root_folder n []) { kind = Bookmark; page = Some (record { 0 = page }) }

-- folders 7, 8 and 9 each in the one before, with a bookmark in 9 and another beside 8
abbrev nested : List Item
nested =
    folder 1 (2 ∷ 4 ∷ []) ∷ folder 2 (7 ∷ []) ∷ folder 4 [] ∷ folder 7 (8 ∷ 11 ∷ []) ∷ folder 8 (9 ∷ [])
    ∷ folder 9 (10 ∷ []) ∷ bookmark 10 1 ∷ bookmark 11 2 ∷ []

-- a folder of five
abbrev five : List Item
five =
    folder 1 (7 ∷ []) ∷ folder 7 (8 ∷ 9 ∷ 10 ∷ 11 ∷ 12 ∷ []) ∷ folder 8 [] ∷ folder 9 [] ∷ folder 10 []
    ∷ folder 11 [] ∷ folder 12 [] ∷ []

abbrev date : Micros
date = record { 0 = 5 }

-- ---- places

at_the_front : put (Number 0) (item_id 9) (ids (7 ∷ 8 ∷ [])) ≡ ids (9 ∷ 7 ∷ 8 ∷ [])
at_the_front = refl

in_the_middle : put (Number 1) (item_id 9) (ids (7 ∷ 8 ∷ [])) ≡ ids (7 ∷ 9 ∷ 8 ∷ [])
in_the_middle = refl

at_the_end : put End (item_id 9) (ids (7 ∷ 8 ∷ [])) ≡ ids (7 ∷ 8 ∷ 9 ∷ [])
at_the_end = refl

-- ---- moves in a folder of five: the position counts without the item

first_to_third : children_of (with_moved (item_id 8) (item_id 7) (Number 3) date five) (item_id 7)
    ≡ ids (9 ∷ 10 ∷ 11 ∷ 8 ∷ 12 ∷ [])
first_to_third = refl

last_to_second : children_of (with_moved (item_id 12) (item_id 7) (Number 1) date five) (item_id 7)
    ≡ ids (8 ∷ 12 ∷ 9 ∷ 10 ∷ 11 ∷ [])
last_to_second = refl

past_the_others : refusal five (Move (item_id 8) (item_id 7) (Number 5)) ≡ Some (BadPlace 5 4)
past_the_others = refl

-- ---- what lies below

below : lies_in nested (item_id 7) (item_id 10) ≡ true
below = refl

itself : lies_in nested (item_id 8) (item_id 8) ≡ true
itself = refl

beside : lies_in nested (item_id 8) (item_id 11) ≡ false
beside = refl

into_its_grandchild : refusal nested (Move (item_id 7) (item_id 9) (Number 9)) ≡ Some (Inside (item_id 7))
into_its_grandchild = refl

into_a_bookmark : refusal nested (Move (item_id 7) (item_id 10) End) ≡ Some (NotAFolder (item_id 10))
into_a_bookmark = refl

-- ---- what goes

left_without_7 : map (λ (i : Item). i.id) (with_removed (item_id 8) nested) ≡ ids (1 ∷ 2 ∷ 4 ∷ 7 ∷ 11 ∷ [])
left_without_7 = refl

left_in_7 : children_of (with_removed (item_id 8) nested) (item_id 7) ≡ ids (11 ∷ [])
left_in_7 = refl

page_1_loses : loses_item nested (item_id 8) (record { 0 = 1 }) ≡ true
page_1_loses = refl

page_2_keeps : loses_item nested (item_id 8) (record { 0 = 2 }) ≡ false
page_2_keeps = refl

-- ---- what is refused

root_stays : refusal roots (Remove (item_id 6)) ≡ Some (Fixed (item_id 6))
root_stays = refl

tags_take_nothing : refusal nested (Insert (item_id 4) (Number 9)) ≡ Some (Fixed (item_id 4))
tags_take_nothing = refl

item_before_parent : refusal nested (Move (item_id 20) (item_id 10) End) ≡ Some (NoItem (item_id 20))
item_before_parent = refl

seven_may_change : refusal nested (Retitle (item_id 7)) ≡ None
seven_may_change = refl

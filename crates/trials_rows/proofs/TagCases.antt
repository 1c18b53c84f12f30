-- Cases of tags that pages get and lose, worked out by hand.
use Rattle.std.proofs.Common.{◌≡◌, ℕ, List, [], ◌∷◌, map, Some, None, refl}
use Rattle.std.specs.Prelude.{codes}
use lib.Utf8.{encode}
use Rattle.std.specs.Option.{option_map}
use Rattle.std.specs.Str.{chars}
use Rattle.caseless.proofs.Computing.{caseless}
use Rattle.pl_base.specs.declared.date.Micros.{Micros}
use Rattle.pl_base.specs.declared.id.ItemId.{ItemId}
use Rattle.pl_base.specs.declared.id.IdKind.TheVariants.{Item as ItemIds}
use Rattle.pl_base.specs.declared.id.PageId.{PageId}
use Rattle.pl_base.specs.declared.item.ItemKind.TheVariants.{Bookmark}
use Rattle.pl_base.specs.declared.refusal.Refusal.TheVariants.{DupTag, NoIds, NoTag}
use Rattle.pl_base.specs.Rows.{Kept, opening_with}
use Rattle.pl_base.specs.Store.{Item, item_id, opening, root_folder}
use Rattle.pl_base.specs.Tree.{children_of}
use Rattle.pl_tree.specs.Refused.{tag_refusal, untag_refusal}
use Rattle.pl_tree.specs.Tagged.{tag_entry, tag_named, tagged_items, untagged_items, with_tagged}

abbrev ids : List ℕ → List ItemId
ids ns = map item_id ns

abbrev page : ℕ → PageId
page n = record { 0 = n }

abbrev date : Micros
date = record { 0 = 5 }

abbrev dated : Item → Item
dated i = record i { added = date; modified = date }

abbrev entry : ℕ → ℕ → Item
entry n of = record (root_folder n []) { kind = Bookmark; page = Some (page of) }

-- the tag `Red` of page 1
abbrev red : List Item
red =
    root_folder 1 (ids (4 ∷ [])) ∷ root_folder 4 (ids (7 ∷ []))
    ∷ record (root_folder 7 (ids (8 ∷ []))) { title = codes "Red" } ∷ entry 8 1 ∷ []

-- and of page 2
abbrev red_twice : List Item
red_twice =
    root_folder 1 (ids (4 ∷ [])) ∷ root_folder 4 (ids (7 ∷ []))
    ∷ record (root_folder 7 (ids (8 ∷ 9 ∷ []))) { title = codes "Red" } ∷ entry 8 1 ∷ dated (entry 9 2) ∷ []

-- ---- looking up

-- in any case, and no part of the name
by_name :
    map (λ name. option_map (λ (t : Item). t.id) (tag_named name red)) (codes "Red" ∷ codes "rED" ∷ codes "Re" ∷ [])
    ≡ Some (item_id 7) ∷ Some (item_id 7) ∷ None ∷ []
unfolding caseless chars encode
by_name = refl

entries : map (λ n. option_map (λ (i : Item). i.id) (tag_entry (page n) (codes "RED") red)) (1 ∷ 2 ∷ [])
    ≡ Some (item_id 8) ∷ None ∷ []
unfolding caseless chars encode
entries = refl

-- ---- a page gets a tag

-- the folder is made behind the tags that are there, and the entry in it, both with the date
new_tag : tagged_items 9 (page 1) (codes "blue") date red
    ≡ root_folder 1 (ids (4 ∷ [])) ∷ root_folder 4 (ids (7 ∷ 9 ∷ []))
    ∷ record (root_folder 7 (ids (8 ∷ []))) { title = codes "Red" } ∷ entry 8 1
    ∷ dated (record (root_folder 9 (ids (10 ∷ []))) { title = codes "blue" }) ∷ dated (entry 10 1) ∷ []
unfolding caseless chars encode
new_tag = refl

-- the folder keeps its first spelling and its dates; the entry stands at its end
known_tag : tagged_items 9 (page 2) (codes "RED") date red ≡ red_twice
unfolding caseless chars encode
known_tag = refl

-- an id for the entry, and one for a folder
abbrev rows : ℕ → Kept
rows next = record (opening_with (record { page = 3; visit = 1; item = next })) { items = red }

next_ids : map (λ name. (with_tagged (page 2) name date (rows 9)).ids.item) (codes "red" ∷ codes "blue" ∷ [])
    ≡ 10 ∷ 11 ∷ []
unfolding caseless chars encode
next_ids = refl

first_tag : children_of (tagged_items 7 (page 1) (codes "a") date opening.items) (item_id 4) ≡ ids (7 ∷ [])
unfolding caseless chars encode
first_tag = refl

-- ---- a page loses a tag

-- the folder stays with its other entry, and goes with its last one
one_entry_left : untagged_items (page 2) (codes "red") red_twice ≡ red
unfolding caseless chars encode
one_entry_left = refl

last_entry : untagged_items (page 1) (codes "RED") red ≡ root_folder 1 (ids (4 ∷ [])) ∷ root_folder 4 [] ∷ []
unfolding caseless chars encode
last_entry = refl

-- no such tag, and a tag of another page
not_there :
    untagged_items (page 1) (codes "blue") red ∷ untagged_items (page 2) (codes "Red") red ∷ [] ≡ red ∷ red ∷ []
unfolding caseless chars encode
not_there = refl

-- ---- what refuses them

-- a tag that the page has, by any spelling, goes before an id that is not there; an entry takes the
-- last id, and a folder wants one more
tags_refused :
    tag_refusal (page 1) (codes "RED") (rows 4_294_967_295) ∷ tag_refusal (page 2) (codes "red") (rows 4_294_967_295)
    ∷ tag_refusal (page 2) (codes "red") (rows 4_294_967_294) ∷ tag_refusal (page 2) (codes "blue") (rows 4_294_967_294)
    ∷ tag_refusal (page 2) (codes "blue") (rows 4_294_967_293) ∷ []
    ≡ Some DupTag ∷ Some (NoIds ItemIds) ∷ None ∷ Some (NoIds ItemIds) ∷ None ∷ []
unfolding caseless chars encode
tags_refused = refl

untags_refused :
    untag_refusal (page 1) (codes "RED") red ∷ untag_refusal (page 2) (codes "red") red
    ∷ untag_refusal (page 1) (codes "blue") red ∷ []
    ≡ None ∷ Some NoTag ∷ Some NoTag ∷ []
unfolding caseless chars encode
untags_refused = refl

-- Worked rows of the bookmark tree: the definitions compute to values that were worked out by hand.
use Rattle.std.proofs.Common.{◌≡◌, ℕ, List, [], ◌∷◌, map, Some, None, true, false, refl}
use Rattle.std.specs.Prelude.{codes, length}
use lib.Utf8.{encode}
use Rattle.std.specs.Str.{chars}
use Rattle.caseless.proofs.Computing.{caseless}
use Rattle.pl_base.specs.declared.id.ItemId.{ItemId}
use Rattle.pl_base.specs.declared.item.ItemKind.{ItemKind}
use Rattle.pl_base.specs.declared.item.ItemKind.TheVariants.{Bookmark, Folder, Separator}
use Rattle.pl_base.specs.declared.item.ItemRow.{ItemRow}
use Rattle.pl_base.specs.ItemKind.{item_kind_at}
use Rattle.pl_base.specs.Marks.{is_referenced}
use Rattle.pl_base.specs.Store.{Item, Store, item_id, opening, root_folder}
use Rattle.pl_base.specs.Tags.{is_bookmarked, is_tag_entry, tag_text, tags_of}
use Rattle.pl_base.specs.Tree.{children_of, inserted, moved, parent_of, put_behind, reference_behind}
use Rattle.pl_base.specs.Tree.{references, removed, sibling_behind}

abbrev ids : List ℕ → List ItemId
ids ns = map item_id ns

-- an item of no page, with the first moment of 1970 as its dates
abbrev item : ℕ → ItemKind → List ℕ → List ℕ → Item
item id kind title children =
    record {
      id = item_id id;
      kind = kind;
      title = title;
      page = None;
      added = record { 0 = 0 };
      modified = record { 0 = 0 };
      children = ids children;
    }

-- a bookmark of the page
abbrev bookmark : ℕ → ℕ → Item
bookmark id page = record (item id Bookmark [] []) { page = Some (record { 0 = page }) }

-- the menu has the folder 7, page 1 and a separator; page 1 has the tags `b` and `A`, page 2 the tag `b`
abbrev tree : List Item
tree =
    root_folder 1 (ids (2 ∷ 3 ∷ 4 ∷ 5 ∷ 6 ∷ [])) ∷ root_folder 2 (ids (7 ∷ 9 ∷ 8 ∷ []))
    ∷ root_folder 3 [] ∷ root_folder 4 (ids (11 ∷ 10 ∷ [])) ∷ root_folder 5 [] ∷ root_folder 6 []
    ∷ item 7 Folder (codes "F") [] ∷ item 8 Separator [] [] ∷ bookmark 9 1
    ∷ item 10 Folder (codes "A") (12 ∷ []) ∷ item 11 Folder (codes "b") (14 ∷ 13 ∷ [])
    ∷ bookmark 12 1 ∷ bookmark 13 1 ∷ bookmark 14 2 ∷ []

abbrev store : Store
store = record opening { items = tree }

-- ---- looking up

order_of_children : children_of tree (item_id 2) ≡ ids (7 ∷ 9 ∷ 8 ∷ [])
order_of_children = refl

no_such_item : children_of tree (item_id 99) ≡ []
no_such_item = refl

parents : map (λ n. parent_of tree (item_id n)) (1 ∷ 4 ∷ 9 ∷ 13 ∷ 99 ∷ [])
    ≡ None ∷ Some (item_id 1) ∷ Some (item_id 2) ∷ Some (item_id 11) ∷ None ∷ []
parents = refl

siblings : map (λ n. sibling_behind tree (item_id n)) (7 ∷ 9 ∷ 8 ∷ 1 ∷ [])
    ≡ Some (item_id 9) ∷ Some (item_id 8) ∷ None ∷ None ∷ []
siblings = refl

references_of_page : references tree (record { 0 = 1 }) ≡ ids (9 ∷ 12 ∷ 13 ∷ [])
references_of_page = refl

next_references : map (λ n. reference_behind tree (item_id n)) (9 ∷ 12 ∷ 13 ∷ 14 ∷ 7 ∷ [])
    ≡ Some (item_id 12) ∷ Some (item_id 13) ∷ None ∷ None ∷ None ∷ []
next_references = refl

-- ---- changes

behind_or_first : put_behind None (item_id 5) (ids (7 ∷ 8 ∷ [])) ≡ ids (5 ∷ 7 ∷ 8 ∷ [])
behind_or_first = refl

behind_another : put_behind (Some (item_id 7)) (item_id 5) (ids (7 ∷ 8 ∷ [])) ≡ ids (7 ∷ 5 ∷ 8 ∷ [])
behind_another = refl

-- within one folder to its end, out of a folder, and to the front of another
to_the_end : children_of (moved (item_id 7) (item_id 2) (Some (item_id 8)) tree) (item_id 2) ≡ ids (9 ∷ 8 ∷ 7 ∷ [])
to_the_end = refl

to_the_front : children_of (moved (item_id 8) (item_id 2) None tree) (item_id 2) ≡ ids (8 ∷ 7 ∷ 9 ∷ [])
to_the_front = refl

left_behind : children_of (moved (item_id 9) (item_id 7) None tree) (item_id 2) ≡ ids (7 ∷ 8 ∷ [])
left_behind = refl

arrived : children_of (moved (item_id 9) (item_id 7) None tree) (item_id 7) ≡ ids (9 ∷ [])
arrived = refl

abbrev separator_row : ℕ → ItemRow
separator_row parent =
    record {
      kind = Separator;
      parent = Some (item_id parent);
      page = None;
      added = record { 0 = 5 };
      modified = record { 0 = 5 };
    }

one_more : children_of (inserted (item_id 15) (separator_row 2) [] (Some (item_id 7)) tree) (item_id 2)
    ≡ ids (7 ∷ 15 ∷ 9 ∷ 8 ∷ [])
one_more = refl

one_less : children_of (removed (item_id 9) tree) (item_id 2) ≡ ids (7 ∷ 8 ∷ [])
one_less = refl

one_item_less : length (removed (item_id 9) tree) ≡ 13
one_item_less = refl

-- ---- bookmarks and tags

in_a_tag : map (λ n. is_tag_entry store (item_id n)) (1 ∷ 4 ∷ 7 ∷ 9 ∷ 11 ∷ 13 ∷ [])
    ≡ false ∷ false ∷ false ∷ false ∷ false ∷ true ∷ []
in_a_tag = refl

-- page 1 has a bookmark, page 2 a tag alone, page 3 neither
bookmarked : map (λ n. is_bookmarked store (record { 0 = n })) (1 ∷ 2 ∷ 3 ∷ []) ≡ true ∷ false ∷ false ∷ []
bookmarked = refl

referenced : map (λ n. is_referenced store (record { 0 = n })) (1 ∷ 2 ∷ 3 ∷ []) ≡ true ∷ true ∷ false ∷ []
referenced = refl

tag_folders : map (λ (t : Item). t.id) (tags_of store) ≡ ids (11 ∷ 10 ∷ [])
tag_folders = refl

-- ---- kinds

kinds : map item_kind_at (0 ∷ 1 ∷ 2 ∷ 3 ∷ 4 ∷ []) ≡ None ∷ Some Bookmark ∷ Some Folder ∷ Some Separator ∷ None ∷ []
kinds = refl

-- ---- folds, which the kit's case folding computes

tags_of_page_1 : tag_text store (record { 0 = 1 }) ≡ codes "A,b"
unfolding caseless chars encode
tags_of_page_1 = refl

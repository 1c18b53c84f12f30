-- Worked rows of imports and exports: the whole store that the worked file makes, its file again,
-- and what is refused.
use Rattle.std.proofs.Common.{◌≡◌, ℕ, false, true, List, [], ◌∷◌, Option, None, Some, map, refl, replicate}
use Rattle.std.specs.Prelude.{codes}
use Rattle.std.specs.Option.{option_map}
use Rattle.std.specs.Str.{chars}
use lib.Utf8.{encode}
use Rattle.caseless.proofs.Computing.{caseless}
use Rattle.url.proofs.OnLiterals.{url_on_literals}
use Rattle.pl_base.specs.declared.id.IdKind.TheVariants.{Item as ItemIds, Page as PageIds}
use Rattle.pl_base.specs.declared.item.ItemKind.{ItemKind}
use Rattle.pl_base.specs.declared.item.ItemKind.TheVariants.{Bookmark, Folder, Separator}
use Rattle.pl_base.specs.declared.refusal.Refusal.TheVariants.{Full, NoIds, TooMany}
use Rattle.pl_base.specs.Store.{Item, Page, item_id, opening, root_folder}
use Rattle.pl_nbread.specs.declared.tree.Node.{Node}
use Rattle.pl_nbread.specs.declared.tree.Tree.{Tree}
use Rattle.pl_nbread.specs.BookmarkTree.{micros}
use Rattle.pl_nbwrite.proofs.TextRows.{bookmark, folder}
use Rattle.pl_graft.specs.Import.{imported, row_count, tags_made}
use Rattle.pl_outline.specs.Outline.{bookmarks}
use Rattle.pl_step.specs.Step.{import_refusal, is_full}

abbrev separator : Node
separator = record (folder 0 [] 0 0) { kind = Separator }

abbrev empty : Tree
empty = record { menu = []; toolbar = []; unfiled = []; mobile = []; skipped = 0 }

-- what the worked file holds, with its tags in the order of the file or of their folds
abbrev worked : List (List ℕ) → ℕ → Tree
worked tags skipped = record {
  menu = bookmark 0 (codes "https://c.example/") (codes "D") 0 tags ∷ [];
  toolbar =
      bookmark 0 (codes "https://a.example/") (codes "A & B") 1_700_000_000 []
      ∷ folder 0 (codes "Sub") 1_700_000_001 1_700_000_002
      ∷ bookmark 1 (codes "https://b.example/x") (codes "B") 1_700_000_003 [] ∷ [];
  unfiled = [];
  mobile = [];
  skipped = skipped;
}

abbrev read : Tree
read = worked (codes "red" ∷ codes "Blue" ∷ []) 1

-- ---- the store

abbrev page : ℕ → List ℕ → Page
page id url = record { id = record { 0 = id }; url = url; title = []; typed = false }

abbrev item : ℕ → ItemKind → List ℕ → Option ℕ → ℕ → ℕ → List ℕ → Item
item id kind title of added modified children =
    record {
      id = item_id id;
      kind = kind;
      title = title;
      page = option_map (λ n. record { 0 = n }) of;
      added = micros added;
      modified = micros modified;
      children = map item_id children;
    }

abbrev root : ℕ → List ℕ → Item
root n children = root_folder n (map item_id children)

-- the menu comes first, and behind each bookmark a folder for a new tag and its entry
whole_store : imported read opening
    ≡ record opening {
      ids = record { page = 4; visit = 1; item = 15 };
      pages =
          page 1 (codes "https://c.example/") ∷ page 2 (codes "https://a.example/")
          ∷ page 3 (codes "https://b.example/x") ∷ [];
      items =
          root 1 (2 ∷ 3 ∷ 4 ∷ 5 ∷ 6 ∷ []) ∷ root 2 (7 ∷ []) ∷ root 3 (12 ∷ 13 ∷ []) ∷ root 4 (8 ∷ 10 ∷ []) ∷ root 5 []
          ∷ root 6 [] ∷ item 7 Bookmark (codes "D") (Some 1) 0 0 [] ∷ item 8 Folder (codes "red") None 0 0 (9 ∷ [])
          ∷ item 9 Bookmark [] (Some 1) 0 0 [] ∷ item 10 Folder (codes "Blue") None 0 0 (11 ∷ [])
          ∷ item 11 Bookmark [] (Some 1) 0 0 []
          ∷ item 12 Bookmark (codes "A & B") (Some 2) 1_700_000_000 1_700_000_000 []
          ∷ item 13 Folder (codes "Sub") None 1_700_000_001 1_700_000_002 (14 ∷ [])
          ∷ item 14 Bookmark (codes "B") (Some 3) 1_700_000_003 1_700_000_003 [] ∷ [];
    }
unfolding caseless chars encode
whole_store = refl

told : row_count read ∷ tags_made read opening ∷ [] ≡ 4 ∷ 2 ∷ []
unfolding caseless chars encode
told = refl

-- a tag's folder and entry have the date on which its bookmark was added, and a tag that the page
-- has is passed over
abbrev dated : Tree
dated = record empty {
  mobile =
      record (bookmark 0 (codes "about:a") (codes "a") 5 (codes "t" ∷ [])) { modified = micros 7 }
      ∷ bookmark 0 (codes "about:a") (codes "b") 6 (codes "T" ∷ []) ∷ [];
}

dates_of_tags : imported dated opening
    ≡ record opening {
      ids = record { page = 2; visit = 1; item = 11 };
      pages = page 1 (codes "about:a") ∷ [];
      items =
          root 1 (2 ∷ 3 ∷ 4 ∷ 5 ∷ 6 ∷ []) ∷ root 2 [] ∷ root 3 [] ∷ root 4 (8 ∷ []) ∷ root 5 [] ∷ root 6 (7 ∷ 10 ∷ [])
          ∷ item 7 Bookmark (codes "a") (Some 1) 5 7 [] ∷ item 8 Folder (codes "t") None 5 5 (9 ∷ [])
          ∷ item 9 Bookmark [] (Some 1) 5 5 [] ∷ item 10 Bookmark (codes "b") (Some 1) 6 6 [] ∷ [];
    }
unfolding caseless chars encode
dates_of_tags = refl

one_tag_of_two : tags_made dated opening ≡ 1
unfolding caseless chars encode
one_tag_of_two = refl

-- ---- and its file

-- no bookmark was left out, and tags go by their folds
brought_back : bookmarks (imported read opening) ≡ worked (codes "Blue" ∷ codes "red" ∷ []) 0
unfolding caseless chars encode
brought_back = refl

no_bookmarks : bookmarks opening ≡ empty
no_bookmarks = refl

-- ---- what is refused

-- more slots than the limit and than before: at the limit, past it, and past it before too
slots : map (λ after. is_full 10 9 after) (10 ∷ 11 ∷ []) ≡ false ∷ true ∷ []
slots = refl

slots_past_the_limit : map (λ after. is_full 8 10 after) (9 ∷ 10 ∷ 11 ∷ []) ≡ false ∷ false ∷ true ∷ []
slots_past_the_limit = refl

-- three pages, three origins, fourteen items, three addresses and six titles
exactly_full : map (λ limit. import_refusal limit opening read (imported read opening)) (28 ∷ 29 ∷ [])
    ≡ Some (Full 29) ∷ None ∷ []
unfolding caseless chars encode url_on_literals
exactly_full = refl

-- ids of pages before those of items; the id before the last number of 32 bits is the last one
ids_first :
    map
    (λ next. import_refusal 0 opening empty (record opening { ids = next }))
    (record { page = 4_294_967_296; visit = 1; item = 4_294_967_296 }
    ∷ record { page = 4_294_967_295; visit = 1; item = 4_294_967_296 } ∷ [])
    ≡ Some (NoIds PageIds) ∷ Some (NoIds ItemIds) ∷ []
ids_first = refl

-- rows before ids: 50,000 may be, and one more may not
many_rows :
    map
    (λ rows. import_refusal 0 opening (record empty { menu = replicate rows separator })
    (record opening { ids = record { page = 4_294_967_296; visit = 1; item = 7 } }))
    (50_000 ∷ 50_001 ∷ [])
    ≡ Some (NoIds PageIds) ∷ Some (TooMany 50_001) ∷ []
many_rows = refl

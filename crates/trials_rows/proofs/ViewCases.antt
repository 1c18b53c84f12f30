-- Cases of bookmarks, tags and titles as they are told of a page, worked out by hand.
use Rattle.std.proofs.Common.{◌≡◌, ℕ, List, [], ◌∷◌, map, Some, true, false, refl}
use Rattle.std.specs.Prelude.{codes}
use lib.Utf8.{encode}
use Rattle.std.specs.Str.{chars}
use Rattle.caseless.proofs.Computing.{caseless}
use Rattle.pl_base.specs.declared.id.ItemId.{ItemId}
use Rattle.pl_base.specs.declared.item.ItemKind.TheVariants.{Bookmark}
use Rattle.pl_base.specs.Store.{Item, Store, item_id, opening, root_folder}
use Rattle.pl_base.specs.Tags.{comma_joined, is_bookmarked, is_tagged, tag_text}
use Rattle.pl_base.specs.View.{mark_title}

abbrev ids : List ℕ → List ItemId
ids ns = map item_id ns

abbrev tag : ℕ → List ℕ → List ℕ → Item
tag n title children = record (root_folder n (ids children)) { title = title }

-- a bookmark with a title, and when it was modified
abbrev bookmark : ℕ → ℕ → List ℕ → ℕ → Item
bookmark n page title modified =
    record (root_folder n []) {
      kind = Bookmark;
      title = title;
      page = Some (record { 0 = page });
      modified = record { 0 = modified };
    }

-- page 1 has two bookmarks modified at one date, an older one and all three tags; page 2 a tag
-- alone; page 3 a bookmark without a title, and an older one with one; page 4 nothing
abbrev store : Store
store =
    record opening {
      items =
          root_folder 1 (ids (2 ∷ 4 ∷ [])) ∷ root_folder 2 (ids (9 ∷ 8 ∷ 7 ∷ 10 ∷ 11 ∷ []))
          ∷ root_folder 4 (ids (12 ∷ 13 ∷ 14 ∷ [])) ∷ bookmark 7 1 (codes "old") 3 ∷ bookmark 8 1 (codes "less") 5
          ∷ bookmark 9 1 (codes "greater") 5 ∷ bookmark 10 3 (codes "titled") 1 ∷ bookmark 11 3 [] 2
          ∷ tag 12 (codes "B") (15 ∷ 18 ∷ []) ∷ tag 13 (codes "ab") (16 ∷ []) ∷ tag 14 (codes "a") (17 ∷ [])
          ∷ bookmark 15 1 [] 9 ∷ bookmark 16 1 [] 9 ∷ bookmark 17 1 [] 9 ∷ bookmark 18 2 [] 9 ∷ [];
    }

-- the one modified last, of two the one with the greater id, whatever their order in the folder;
-- entries of tags are no bookmarks; an empty title is the one that is told
titles_of_bookmarks : map (λ n. mark_title store (record { 0 = n })) (1 ∷ 2 ∷ 3 ∷ 4 ∷ [])
    ≡ codes "greater" ∷ [] ∷ [] ∷ [] ∷ []
titles_of_bookmarks = refl

bookmarked : map (λ n. is_bookmarked store (record { 0 = n })) (1 ∷ 2 ∷ 3 ∷ 4 ∷ []) ≡ true ∷ false ∷ true ∷ false ∷ []
bookmarked = refl

tagged : map (λ n. is_tagged store (record { 0 = n })) (1 ∷ 2 ∷ 3 ∷ 4 ∷ []) ≡ true ∷ true ∷ false ∷ false ∷ []
tagged = refl

-- by the bytes of their folds, where `B` stands behind `a` and a name before the longer one that
-- begins with it
tags_by_their_folds : map (λ n. tag_text store (record { 0 = n })) (1 ∷ 2 ∷ 3 ∷ [])
    ≡ codes "a,ab,B" ∷ codes "B" ∷ [] ∷ []
unfolding caseless chars encode
tags_by_their_folds = refl

commas : map comma_joined ([] ∷ (codes "a" ∷ []) ∷ (codes "a" ∷ [] ∷ codes "b" ∷ []) ∷ [])
    ≡ [] ∷ codes "a" ∷ codes "a,,b" ∷ []
commas = refl

-- Worked rows of the address bar: which title is searched, which pages are candidates, where the
-- tiers end, and which group is filled in.
use Rattle.std.proofs.Common.{◌≡◌, ◌==◌, ◌++◌, ℕ, Bool, true, false, List, [], ◌∷◌, None, Some}
use Rattle.std.proofs.Common.{if◌then◌else◌, map, refl}
use Rattle.std.specs.Prelude.{codes, pos, ℤ}
use lib.Utf8.{encode}
use Rattle.std.specs.Str.{chars, is_utf8}
use Rattle.std.specs.Str.Lossy.{utf8_error_len, utf8_lossy, utf8_valid_len}
use Rattle.caseless.proofs.Computing.{caseless}
use Rattle.percent_encoding.specs.Percent.{percent_decode}
use Rattle.url.proofs.OnLiterals.{url_on_literals}
use Rattle.pl_base.specs.declared.item.ItemKind.TheVariants.{Bookmark}
use Rattle.pl_base.specs.declared.transition.Transition.{Transition}
use Rattle.pl_base.specs.declared.transition.Transition.TheVariants.{Link, Reload}
use Rattle.pl_base.specs.Store.{Item, Page, Store, Visit, item_id, opening, roots}
use Rattle.pl_base.specs.Totals.{Scored, group_passes}
use Rattle.pl_words.specs.declared.bar_text.Marks.{Marks}
use Rattle.pl_bar.specs.AddressBar.{offered, word_matches}
use Rattle.pl_bar.specs.Filled.{filled}

-- ---- a word

abbrev page : ℕ → List ℕ → List ℕ → Page
page id url title = record { id = record { 0 = id }; url = url; title = title; typed = false }

abbrev asking : Bool → Bool → Marks
asking title address =
    record { history = false; bookmark = false; tag = false; title = title; address = address }

-- of `#` and `$` at once both places have to be on a boundary; of neither one is enough
abbrev matches : Bool → List Bool
matches boundary =
    map
    (λ (marks : Marks).
    word_matches opening marks boundary (page 1 (codes "https://a.test/hotdog") (codes "Dogs")) (codes "dog"))
    (asking false false ∷ asking true false ∷ asking false true ∷ asking true true ∷ [])

half_on_a_boundary : map matches (true ∷ false ∷ [])
    ≡ (true ∷ true ∷ false ∷ false ∷ []) ∷ (true ∷ true ∷ true ∷ true ∷ []) ∷ []
unfolding caseless chars encode is_utf8 percent_decode url_on_literals utf8_error_len utf8_lossy utf8_valid_len
half_on_a_boundary = refl

-- ---- a store

abbrev visit : ℕ → ℕ → Transition → Visit
visit id of transition =
    record {
      id = record { 0 = id };
      page = record { 0 = of };
      date = record { 0 = 0 };
      transition = transition;
      source = None;
    }

abbrev bookmark : ℕ → ℕ → List ℕ → ℕ → Item
bookmark id of title modified =
    record {
      id = item_id id;
      kind = Bookmark;
      title = title;
      page = Some (record { 0 = of });
      added = record { 0 = 0 };
      modified = record { 0 = modified };
      children = [];
    }

-- all bookmarks in the menu
abbrev marked : List Item
marked =
    map (λ (i : Item). if i.id.0 == 2 then record i { children = map item_id (7 ∷ 8 ∷ 9 ∷ 10 ∷ 11 ∷ []) } else i) roots

-- Page 1 has a bookmark with a title and a fresher one without. Of the bookmarks of page 2 the one
-- with the lesser id is fresher. Page 3 is a query, and so hidden. Page 4 has a bookmark and was
-- reloaded, which does not count. They have 175, 175, 100 and 140.
abbrev some : Store
some =
    record opening {
      pages =
          page 1 (codes "https://a.test/") (codes "Own") ∷ page 2 (codes "https://b.test/") (codes "Mine")
          ∷ page 3 (codes "place:sort=8") (codes "Query") ∷ page 4 (codes "https://d.test/") [] ∷ [];
      visits = visit 1 1 Link ∷ visit 2 2 Link ∷ visit 3 3 Link ∷ visit 4 4 Reload ∷ [];
      items =
          marked ++ bookmark 7 1 (codes "Older") 5 ∷ bookmark 8 1 [] 9 ∷ bookmark 9 2 (codes "Newer") 9
          ∷ bookmark 10 2 (codes "Last") 5 ∷ bookmark 11 4 [] 0 ∷ [];
    }

abbrev ids : ℕ → List ℕ → List ℕ
ids most text = map (λ (p : Page). p.id.0) (offered some text most)

-- the freshest bookmark has no title, so the page's own is searched, and that of an older bookmark
-- is not
without_a_title : map (ids 10) (codes "own" ∷ codes "older" ∷ []) ≡ (1 ∷ []) ∷ [] ∷ []
unfolding caseless chars encode is_utf8 percent_decode url_on_literals utf8_error_len utf8_lossy utf8_valid_len
without_a_title = refl

-- the date counts before the id
freshest_title : map (ids 10) (codes "newer" ∷ codes "last" ∷ codes "mine" ∷ []) ≡ (2 ∷ []) ∷ [] ∷ [] ∷ []
unfolding caseless chars encode is_utf8 percent_decode url_on_literals utf8_error_len utf8_lossy utf8_valid_len
freshest_title = refl

-- a query is offered, by its title and by what stands behind `place:`
hidden_query : map (ids 10) (codes "query" ∷ codes "$ sort=8" ∷ codes "place" ∷ []) ≡ (3 ∷ []) ∷ (3 ∷ []) ∷ [] ∷ []
unfolding caseless chars encode is_utf8 percent_decode url_on_literals utf8_error_len utf8_lossy utf8_valid_len
hidden_query = refl

-- a page that was only reloaded is none of history
counted_alone : map (ids 10) ([] ∷ codes "^" ∷ codes "*" ∷ codes "* ^" ∷ codes "+" ∷ [])
    ≡ (2 ∷ 1 ∷ 4 ∷ 3 ∷ []) ∷ (2 ∷ 1 ∷ 3 ∷ []) ∷ (2 ∷ 1 ∷ 4 ∷ []) ∷ (2 ∷ 1 ∷ []) ∷ [] ∷ []
unfolding caseless chars encode is_utf8 percent_decode url_on_literals utf8_error_len utf8_lossy utf8_valid_len
counted_alone = refl

-- the first tier has the least frecency of all, and `max` cuts behind it or within the second
across_the_tiers : map (λ most. ids most (codes "s")) (1 ∷ 2 ∷ 3 ∷ 4 ∷ 1_000 ∷ [])
    ≡ (3 ∷ []) ∷ (3 ∷ 2 ∷ []) ∷ (3 ∷ 2 ∷ 1 ∷ []) ∷ (3 ∷ 2 ∷ 1 ∷ 4 ∷ []) ∷ (3 ∷ 2 ∷ 1 ∷ 4 ∷ []) ∷ []
unfolding caseless chars encode is_utf8 percent_decode url_on_literals utf8_error_len utf8_lossy utf8_valid_len
across_the_tiers = refl

-- ---- what is filled in

abbrev secure : List ℕ → ℤ → Scored
secure host frecency = ((codes "https://", host), frecency)

-- three origins with 200 in all: the group `cow.example` has 160, and `dog.example` less than a
-- third
abbrev pages : List Scored
pages =
    secure (codes "cow.example") (pos 100) ∷ secure (codes "www.cow.example") (pos 60)
    ∷ secure (codes "dog.example") (pos 40) ∷ []

fills : map (filled pages) (codes "c" ∷ codes "WWW.Cow" ∷ codes "COW.EXAMPLE" ∷ [])
    ≡ Some (codes "cow.example", 160) ∷ Some (codes "cow.example", 160) ∷ Some (codes "cow.example", 160) ∷ []
fills = refl

-- nothing, nothing behind `www.`, one `www.` more, a name that goes on, and a group that does not
-- pass
fills_not :
    map (filled pages) ([] ∷ codes "www." ∷ codes "www.www.cow" ∷ codes "cow.example/" ∷ codes "d" ∷ [])
    ≡ None ∷ None ∷ None ∷ None ∷ None ∷ []
fills_not = refl

-- a host `www.` makes the group with the empty name, which passes and is never filled in
nameless : group_passes (secure (codes "www.") (pos 100) ∷ []) [] ≡ true
nameless = refl

never_nameless : map (filled (secure (codes "www.") (pos 100) ∷ [])) ([] ∷ codes "w" ∷ codes "www." ∷ [])
    ≡ None ∷ None ∷ None ∷ []
never_nameless = refl

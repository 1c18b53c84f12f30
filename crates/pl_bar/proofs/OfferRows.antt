-- Worked rows of the address bar: the definitions compute to values that were worked out by hand.
use Rattle.std.proofs.Common.{◌≡◌, ◌==◌, ◌++◌, ℕ, Bool, true, false, List, [], ◌∷◌, Option, Some, None}
use Rattle.std.proofs.Common.{if◌then◌else◌, map, refl}
use Rattle.std.specs.Prelude.{codes}
use lib.Utf8.{encode}
use Rattle.std.specs.Str.{chars, is_utf8}
use Rattle.std.specs.Str.Lossy.{utf8_error_len, utf8_lossy, utf8_valid_len}
use Rattle.caseless.proofs.Computing.{caseless}
use Rattle.percent_encoding.specs.Percent.{percent_decode}
use Rattle.url.proofs.OnLiterals.{url_on_literals}
use Rattle.pl_base.specs.declared.id.PageId.{PageId}
use Rattle.pl_base.specs.declared.item.ItemKind.{ItemKind}
use Rattle.pl_base.specs.declared.item.ItemKind.TheVariants.{Bookmark, Folder}
use Rattle.pl_base.specs.declared.transition.Transition.{Transition}
use Rattle.pl_base.specs.declared.transition.Transition.TheVariants.{Embed, Link, RedirectPermanent}
use Rattle.pl_base.specs.Store.{Item, Page, Store, Visit, item_id, opening, roots}
use Rattle.pl_words.specs.declared.bar_text.Marks.{Marks}
use Rattle.pl_bar.specs.AddressBar.{offered, word_matches}
use Rattle.pl_bar.specs.Filled.{host_text}

-- ---- a word, by the marks

abbrev page : ℕ → List ℕ → List ℕ → Page
page id url title = record { id = record { 0 = id }; url = url; title = title; typed = false }

abbrev asking : Bool → Bool → Marks
asking title address =
    record { history = false; bookmark = false; tag = false; title = title; address = address }

abbrev one : Page
one = page 1 (codes "https://a.test/Cat%20food") (codes "Dogs and Bees")

-- none of `#` and `$`, the first, the second, and both
abbrev by_marks : Bool → List ℕ → List Bool
by_marks boundary word =
    map (λ (marks : Marks). word_matches opening marks boundary one word)
    (asking false false ∷ asking true false ∷ asking false true ∷ asking true true ∷ [])

of_the_title : by_marks true (codes "dog") ≡ true ∷ true ∷ false ∷ false ∷ []
unfolding caseless chars encode is_utf8 percent_decode url_on_literals utf8_error_len utf8_lossy utf8_valid_len
of_the_title = refl

of_the_address : by_marks true (codes "cat food") ≡ true ∷ false ∷ true ∷ false ∷ []
unfolding caseless chars encode is_utf8 percent_decode url_on_literals utf8_error_len utf8_lossy utf8_valid_len
of_the_address = refl

of_both : by_marks false (codes "s") ≡ true ∷ true ∷ true ∷ true ∷ []
unfolding caseless chars encode is_utf8 percent_decode url_on_literals utf8_error_len utf8_lossy utf8_valid_len
of_both = refl

-- the prefix is not searched
not_of_the_prefix : by_marks true (codes "https") ≡ false ∷ false ∷ false ∷ false ∷ []
unfolding caseless chars encode is_utf8 percent_decode url_on_literals utf8_error_len utf8_lossy utf8_valid_len
not_of_the_prefix = refl

-- ---- a store

abbrev visit : ℕ → ℕ → Transition → Visit
visit id of transition =
    record {
      id = record { 0 = id };
      page = record { 0 = of };
      date = record { 0 = 0 };
      transition = transition;
      source = None;
    }

abbrev item : ℕ → ItemKind → List ℕ → Option PageId → Item
item id kind title of =
    record {
      id = item_id id;
      kind = kind;
      title = title;
      page = of;
      added = record { 0 = 0 };
      modified = record { 0 = 0 };
      children = [];
    }

-- the roots with these children of 2 and of `tags________`
abbrev rooted : ℕ → ℕ → List Item
rooted marked tag =
    map (λ (i : Item). if i.id.0 == 2 then record i { children = item_id marked ∷ [] } else
    if i.id.0 == 4 then record i { children = item_id tag ∷ [] } else i) roots

-- 1 and 3 have a frecency of 100, 2 of 300, 4 of 0 and 5, whose redirect came from an embedded visit, of -1; 6 has a
-- bookmark with another title than its own, and 7 a tag; both have 140
abbrev some : Store
some =
    record opening {
      pages =
          page 1 (codes "https://a.test/") (codes "Dog show") ∷ page 2 (codes "https://bulldog.test/") []
          ∷ page 3 (codes "https://c.test/") (codes "dogs") ∷ page 4 (codes "https://d.test/") (codes "dog")
          ∷ page 5 (codes "https://e.test/dog") [] ∷ page 6 (codes "https://f.test/") (codes "dog")
          ∷ page 7 (codes "https://g.test/") [] ∷ [];
      visits =
          visit 1 1 Link ∷ visit 2 2 Link ∷ visit 3 2 Link ∷ visit 4 2 Link ∷ visit 5 3 Link ∷ visit 6 4 Embed
          ∷ record (visit 7 5 RedirectPermanent) { source = Some (record { 0 = 6 }) } ∷ [];
      items =
          rooted 7 8 ++ item 7 Bookmark (codes "Cat") (Some (record { 0 = 6 }))
          ∷ record (item 8 Folder (codes "Dog") None) { children = item_id 9 ∷ [] }
          ∷ item 9 Bookmark [] (Some (record { 0 = 7 })) ∷ [];
    }

abbrev ids : List ℕ → ℕ → List ℕ
ids text most = map (λ (p : Page). p.id.0) (offered some text most)

-- on a boundary first, and in each tier by frecency and then the greatest id
dogs : ids (codes "dog") 10 ≡ 7 ∷ 3 ∷ 1 ∷ 5 ∷ 2 ∷ []
unfolding caseless chars encode is_utf8 percent_decode url_on_literals utf8_error_len utf8_lossy utf8_valid_len
dogs = refl

-- `max` cuts at the end
the_first_two : ids (codes "DOG") 2 ≡ 7 ∷ 3 ∷ []
unfolding caseless chars encode is_utf8 percent_decode url_on_literals utf8_error_len utf8_lossy utf8_valid_len
the_first_two = refl

-- each word has to stand somewhere
two_words : ids (codes "dog show") 10 ≡ 1 ∷ []
unfolding caseless chars encode is_utf8 percent_decode url_on_literals utf8_error_len utf8_lossy utf8_valid_len
two_words = refl

-- without a word all that have a frecency are offered
no_word : ids [] 10 ≡ 2 ∷ 7 ∷ 6 ∷ 3 ∷ 1 ∷ 5 ∷ []
unfolding caseless chars encode is_utf8 percent_decode url_on_literals utf8_error_len utf8_lossy utf8_valid_len
no_word = refl

marks_alone : map (λ text. ids text 10) (codes "*" ∷ codes "+" ∷ codes "^" ∷ codes "^ *" ∷ [])
    ≡ (6 ∷ []) ∷ (7 ∷ []) ∷ (2 ∷ 3 ∷ 1 ∷ 5 ∷ []) ∷ [] ∷ []
unfolding caseless chars encode is_utf8 percent_decode url_on_literals utf8_error_len utf8_lossy utf8_valid_len
marks_alone = refl

-- the title of the bookmark stands for the page's own
the_marks_title : map (λ text. ids text 10) (codes "cat" ∷ codes "# dog" ∷ codes "$ dog" ∷ [])
    ≡ (6 ∷ []) ∷ (7 ∷ 3 ∷ 1 ∷ []) ∷ (5 ∷ 2 ∷ []) ∷ []
unfolding caseless chars encode is_utf8 percent_decode url_on_literals utf8_error_len utf8_lossy utf8_valid_len
the_marks_title = refl

-- ---- what is filled in

host_texts : map host_text (codes "WWW.www.Example" ∷ codes "wWw." ∷ codes "www" ∷ codes "A.wWW." ∷ [] ∷ [])
    ≡ codes "www.example" ∷ [] ∷ codes "www" ∷ codes "a.www." ∷ [] ∷ []
host_texts = refl

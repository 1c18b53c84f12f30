-- The rows of an answer, and how they stand by a key.
use Rattle.std.specs.Prelude.{ℕ, Bool, List, Option, Some, None}
use Rattle.std.specs.Cmp.Lexicographic.{slice_cmp}
use Rattle.std.specs.Ordering.{int_cmp, is_lt, nat_cmp, ordering_reverse, ordering_then}
use Rattle.std.specs.declared.cmp.Ordering.{Ordering}
use Rattle.std.specs.declared.cmp.Ordering.TheVariants.{Less, Equal, Greater}
use Rattle.pl_base.specs.declared.date.Micros.{Micros}
use Rattle.pl_base.specs.Fold.{folded}
use Rattle.pl_base.specs.Frecency.{frecency_of}
use Rattle.pl_base.specs.Marks.{visit_count}
use Rattle.pl_base.specs.Store.{Store, Page}
use Rattle.pl_base.specs.Tags.{tag_text}
use Rattle.pl_place.specs.declared.sort.Direction.TheVariants.{Ascending, Descending}
use Rattle.pl_place.specs.declared.sort.Sort.{Sort}
use Rattle.pl_place.specs.declared.sort.Sort.TheVariants.{Unsorted, By}
use Rattle.pl_place.specs.declared.sort.SortKey.{SortKey}
use Rattle.pl_place.specs.declared.sort.SortKey.TheVariants.{Title, Date, Url, VisitCount}
use Rattle.pl_place.specs.declared.sort.SortKey.TheVariants.{Added, Modified, Tags, Frecency}

-- a row: the id of the page, visit or bookmark that it is of, the page, the title and the date that
-- are shown, and when the bookmark was added and modified
pub record Row : Type 0 where
  pub id : ℕ
  pub page : Page
  pub title : List ℕ
  pub date : Option Micros
  pub added : ℕ
  pub modified : ℕ

-- the order of dates, with none before any
abbrev pub date_cmp : Option Micros → Option Micros → Ordering
date_cmp None None = Equal
date_cmp None (Some b) = Less
date_cmp (Some a) None = Greater
date_cmp (Some a) (Some b) = nat_cmp a.0 b.0

-- the order of texts by their bytes
abbrev pub text_cmp : List ℕ → List ℕ → Ordering
text_cmp a b = slice_cmp nat_cmp a b

-- how two rows stand by a key
abbrev pub key_cmp : Store → SortKey → Row → Row → Ordering
key_cmp store Title a b = text_cmp (folded a.title) (folded b.title)
key_cmp store Date a b = date_cmp a.date b.date
key_cmp store Url a b = text_cmp a.page.url b.page.url
key_cmp store VisitCount a b =
    nat_cmp (visit_count store a.page.id) (visit_count store b.page.id)
key_cmp store Added a b = nat_cmp a.added b.added
key_cmp store Modified a b = nat_cmp a.modified b.modified
key_cmp store Tags a b =
    text_cmp (folded (tag_text store a.page.id)) (folded (tag_text store b.page.id))
key_cmp store Frecency a b = int_cmp (frecency_of store a.page) (frecency_of store b.page)

-- how two rows stand: by the key in its direction, and by ascending id where they are alike in it
abbrev pub row_cmp : Store → Sort → Row → Row → Ordering
row_cmp store Unsorted a b = nat_cmp a.id b.id
row_cmp store (By key Ascending) a b = ordering_then (key_cmp store key a b) (nat_cmp a.id b.id)
row_cmp store (By key Descending) a b =
    ordering_then (ordering_reverse (key_cmp store key a b)) (nat_cmp a.id b.id)

-- a row comes before another
abbrev pub comes_before : Store → Sort → Row → Row → Bool
comes_before store sort a b = is_lt (row_cmp store sort a b)

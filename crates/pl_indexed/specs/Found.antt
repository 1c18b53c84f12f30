-- Pages that are found, what they are sorted by, and their order.
use Rattle.std.specs.Prelude.{◌≡◌, ℕ, Bool, List, map, pos}
use Rattle.std.specs.Ordering.{int_cmp, is_lt, nat_cmp, ordering_then}
use Rattle.std.specs.declared.cmp.Ordering.{Ordering}
use Rattle.pl_base.specs.declared.view.View.{View}
use Rattle.pl_base.specs.Fold.{folded}
use Rattle.pl_place.specs.declared.sort.Direction.TheVariants.{Ascending, Descending}
use Rattle.pl_place.specs.declared.sort.Sort.{Sort}
use Rattle.pl_place.specs.declared.sort.Sort.TheVariants.{Unsorted, By}
use Rattle.pl_place.specs.declared.sort.SortKey.{SortKey}
use Rattle.pl_place.specs.declared.sort.SortKey.TheVariants.{Title, Date, Url, VisitCount}
use Rattle.pl_place.specs.declared.sort.SortKey.TheVariants.{Added, Modified, Tags, Frecency}
use Rattle.pl_query.specs.Order.{date_cmp, text_cmp}
use Rattle.pl_indexed.specs.declared.found.Found.{Found}
use Rattle.pl_indexed.specs.declared.found.Key.{Key}
use Rattle.pl_indexed.specs.declared.found.Key.TheVariants.{Nothing, Text, Moment, Number}

-- ---- what pages are sorted by

-- the value of a view by a key; of dates of bookmarks it has none
abbrev pub key_value : SortKey → View → Key
key_value Title view = Text (folded view.title)
key_value Date view = Moment view.last
key_value Url view = Text view.url
key_value VisitCount view = Number (pos view.count)
key_value Added view = Nothing
key_value Modified view = Nothing
key_value Tags view = Text (folded view.tags)
key_value Frecency view = Number view.frecency

-- what a view is sorted by
abbrev pub key_of : Sort → View → Key
key_of Unsorted view = Nothing
key_of (By key direction) view = key_value key view

-- kinds of keys in an order of their own
abbrev kind_of : Key → ℕ
kind_of Nothing = 0
kind_of (Text text) = 1
kind_of (Moment date) = 2
kind_of (Number n) = 3

-- the order of keys; those of one sort are of one kind
abbrev pub key_cmp : Key → Key → Ordering
key_cmp (Text a) (Text b) = text_cmp a b
key_cmp (Moment a) (Moment b) = date_cmp a b
key_cmp (Number a) (Number b) = int_cmp a b
key_cmp a b = nat_cmp (kind_of a) (kind_of b)

-- ---- the order

-- the order of keys in the direction of a sort
abbrev pub directed_cmp : Sort → Key → Key → Ordering
directed_cmp Unsorted a b = key_cmp a b
directed_cmp (By key Ascending) a b = key_cmp a b
directed_cmp (By key Descending) a b = key_cmp b a

-- how two stand, each by its key and its id: by the keys, and by ascending id where these are alike
abbrev pub place_cmp : Sort → Key × ℕ → Key × ℕ → Ordering
place_cmp sort a b = ordering_then (directed_cmp sort a.0 b.0) (nat_cmp a.1 b.1)

-- by what a view stands, and by what a page that is found
abbrev pub place_of : Sort → View → Key × ℕ
place_of sort view = (key_of sort view, view.id.0)

abbrev pub place_found : Found → Key × ℕ
place_found found = (found.key, found.view.now.id.0)

-- a view comes before another
abbrev pub view_before : Sort → View → View → Bool
view_before sort v w = is_lt (place_cmp sort (place_of sort v) (place_of sort w))

-- ---- what is found

-- a view and what it is sorted by, as a page that is found has them
abbrev pub seen : Found → View × Key
seen found = (found.view.now, found.key)

abbrev pub seen_of : Sort → View → View × Key
seen_of sort view = (view, key_of sort view)

-- the pages that are found have these views, in this order
abbrev pub AreFound : Sort → List View → List Found → Type 0
AreFound sort views found = map seen found ≡ map (seen_of sort) views

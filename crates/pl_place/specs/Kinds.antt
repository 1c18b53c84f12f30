-- The numbers of what a query names: a reference of time, an order, what it lists and of what.
use Rattle.std.specs.Prelude.{ℕ, ◌==◌, List, [], ◌∷◌, Option}
use Rattle.std.specs.List.{find}
use Rattle.pl_place.specs.declared.kinds.TimeRef.{TimeRef}
use Rattle.pl_place.specs.declared.kinds.TimeRef.TheVariants.{Epoch, Today, Now}
use Rattle.pl_place.specs.declared.kinds.ResultType.{ResultType}
use Rattle.pl_place.specs.declared.kinds.ResultType.TheVariants.{Pages, Visits}
use Rattle.pl_place.specs.declared.kinds.QueryType.{QueryType}
use Rattle.pl_place.specs.declared.kinds.QueryType.TheVariants.{History, Bookmarks}
use Rattle.pl_place.specs.declared.sort.Direction.TheVariants.{Ascending, Descending}
use Rattle.pl_place.specs.declared.sort.Sort.{Sort}
use Rattle.pl_place.specs.declared.sort.Sort.TheVariants.{Unsorted, By}
use Rattle.pl_place.specs.declared.sort.SortKey.TheVariants.{Title, Date, Url, VisitCount}
use Rattle.pl_place.specs.declared.sort.SortKey.TheVariants.{Added, Modified, Tags, Frecency}

-- the number of a reference
abbrev pub time_ref_number : TimeRef → ℕ
time_ref_number Epoch = 0
time_ref_number Today = 1
time_ref_number Now = 2

-- the reference with this number
abbrev pub time_ref_at : ℕ → Option TimeRef
time_ref_at n = find (λ r. time_ref_number r == n) (Epoch ∷ Today ∷ Now ∷ [])

-- the number of what a query of history lists
abbrev pub result_type_number : ResultType → ℕ
result_type_number Pages = 0
result_type_number Visits = 1

-- what has this number
abbrev pub result_type_at : ℕ → Option ResultType
result_type_at n = find (λ r. result_type_number r == n) (Pages ∷ Visits ∷ [])

-- the number of what a query is asked of
abbrev pub query_type_number : QueryType → ℕ
query_type_number History = 0
query_type_number Bookmarks = 1

-- what has this number
abbrev pub query_type_at : ℕ → Option QueryType
query_type_at n = find (λ q. query_type_number q == n) (History ∷ Bookmarks ∷ [])

-- the code of an order, by nsINavHistoryQueryOptions
abbrev pub sort_number : Sort → ℕ
sort_number Unsorted = 0
sort_number (By Title Ascending) = 1
sort_number (By Title Descending) = 2
sort_number (By Date Ascending) = 3
sort_number (By Date Descending) = 4
sort_number (By Url Ascending) = 5
sort_number (By Url Descending) = 6
sort_number (By VisitCount Ascending) = 7
sort_number (By VisitCount Descending) = 8
sort_number (By Added Ascending) = 11
sort_number (By Added Descending) = 12
sort_number (By Modified Ascending) = 13
sort_number (By Modified Descending) = 14
sort_number (By Tags Ascending) = 17
sort_number (By Tags Descending) = 18
sort_number (By Frecency Ascending) = 21
sort_number (By Frecency Descending) = 22

-- all orders
abbrev pub sorts : List Sort
sorts =
    Unsorted ∷ By Title Ascending ∷ By Title Descending ∷ By Date Ascending ∷ By Date Descending
    ∷ By Url Ascending ∷ By Url Descending ∷ By VisitCount Ascending ∷ By VisitCount Descending
    ∷ By Added Ascending ∷ By Added Descending ∷ By Modified Ascending ∷ By Modified Descending
    ∷ By Tags Ascending ∷ By Tags Descending ∷ By Frecency Ascending ∷ By Frecency Descending ∷ []

-- the order with this code
abbrev pub sort_at : ℕ → Option Sort
sort_at n = find (λ s. sort_number s == n) sorts

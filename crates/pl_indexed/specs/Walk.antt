-- The orders of views that are kept, each for a sort, and the walk along one.
use Rattle.std.specs.Prelude.{ℕ, Bool, true, List, Option, is_some}
use Rattle.std.specs.List.{filter}
use Rattle.std.specs.Ordering.{is_lt, nat_cmp, ordering_then}
use Rattle.std.specs.declared.cmp.Ordering.{Ordering}
use Rattle.pl_base.specs.declared.view.View.{View}
use Rattle.pl_follow.specs.Order.{next_rank}
use Rattle.pl_place.specs.declared.sort.Direction.TheVariants.{Ascending, Descending}
use Rattle.pl_place.specs.declared.sort.Sort.{Sort}
use Rattle.pl_place.specs.declared.sort.Sort.TheVariants.{By}
use Rattle.pl_place.specs.declared.sort.SortKey.TheVariants.{Date, Frecency}
use Rattle.pl_indexed.specs.declared.walk.KeptOrder.{KeptOrder}
use Rattle.pl_indexed.specs.declared.walk.KeptOrder.TheVariants.{FrecencyFalling, FrecencyRising}
use Rattle.pl_indexed.specs.declared.walk.KeptOrder.TheVariants.{LatestFirst}
use Rattle.pl_indexed.specs.Found.{directed_cmp, key_of}

-- the sort that an order serves
abbrev pub sort_of : KeptOrder → Sort
sort_of FrecencyFalling = By Frecency Descending
sort_of FrecencyRising = By Frecency Ascending
sort_of LatestFirst = By Date Descending

-- the view has a place in the order: in that by visits none without a visit has one
abbrev pub stands_in : KeptOrder → View → Bool
stands_in FrecencyFalling view = true
stands_in FrecencyRising view = true
stands_in LatestFirst view = is_some view.last

-- the ids of views that are alike ascend where the sort does, and else descend
abbrev pub ids_cmp : KeptOrder → ℕ → ℕ → Ordering
ids_cmp FrecencyFalling a b = nat_cmp b a
ids_cmp FrecencyRising a b = nat_cmp a b
ids_cmp LatestFirst a b = nat_cmp b a

-- how the keys of two views stand in the sort that an order serves
abbrev pub keys_cmp : KeptOrder → View → View → Ordering
keys_cmp order v w =
    directed_cmp (sort_of order) (key_of (sort_of order) v) (key_of (sort_of order) w)

-- a view goes ahead of another in an order
abbrev pub goes_ahead : KeptOrder → View → View → Bool
goes_ahead order v w = is_lt (ordering_then (keys_cmp order v w) (ids_cmp order v.id.0 w.id.0))

-- the view next behind one in an order, or the first of all
abbrev pub next_in : KeptOrder → Option View → List View → Option View
next_in order place views = next_rank (goes_ahead order) place (filter (stands_in order) views)

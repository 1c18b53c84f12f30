-- The totals of origins, and which hosts the address bar fills in: `moz_origins` and its threshold.
use Rattle.std.specs.Prelude.{ℕ, ◌*◌, ◌^◌, ◌==◌, ◌&&◌, not, Bool, List, [], ◌∷◌, map, length}
use Rattle.std.specs.Prelude.{ℤ, pos, negsuc, bytes_eq, codes, drop, nat_eq, nat_le, nat_lt}
use Rattle.std.specs.Prelude.{if◌then◌else◌}
use Rattle.std.specs.List.{filter, filter_map, starts_with, sum_by}
use Rattle.std.specs.Option.{option_map}
use Rattle.pl_base.specs.Address.{origin_of_url}
use Rattle.pl_base.specs.Frecency.{frecency_of}
use Rattle.pl_base.specs.Store.{Store, Page}

-- an origin: a prefix, and a host with its port
abbrev pub Origin : Type 0
Origin = List ℕ × List ℕ

-- the origin of a page, and its frecency
abbrev pub Scored : Type 0
Scored = Origin × ℤ

-- what a frecency adds to the total of the origin: itself where it is positive
abbrev pub share : ℤ → ℕ
share (pos n) = n
share (negsuc n) = 0

-- no page of a store adds more to a total
abbrev pub most_share : ℕ
most_share = 2 ^ 37

-- the origins are the same
abbrev pub is_origin : Origin → Origin → Bool
is_origin a b = bytes_eq a.0 b.0 && bytes_eq a.1 b.1

-- the total of an origin: the sum of the positive frecencies of its pages
abbrev pub total_of : List Scored → Origin → ℕ
total_of pages origin =
    sum_by (λ (s : Scored). share s.1) (filter (λ (s : Scored). is_origin s.0 origin) pages)

-- each of the origins once
abbrev pub distinct : List Origin → List Origin
distinct [] = []
distinct (o ∷ os) = o ∷ filter (λ other. not (is_origin other o)) (distinct os)

-- the origins of the pages, each once
abbrev pub origins_of : List Scored → List Origin
origins_of pages = distinct (map (λ (s : Scored). s.0) pages)

-- the origins that have a total
abbrev pub positive_origins : List Scored → List Origin
positive_origins pages = filter (λ o. nat_lt 0 (total_of pages o)) (origins_of pages)

-- how many they are
abbrev pub origins_with_total : List Scored → ℕ
origins_with_total pages = length (positive_origins pages)

-- the sum of their totals
abbrev pub sum_of_totals : List Scored → ℕ
sum_of_totals pages = sum_by (total_of pages) (positive_origins pages)

-- a host without one leading `www.`
abbrev pub without_www : List ℕ → List ℕ
without_www host = if starts_with nat_eq host (codes "www.") then drop 4 host else host

-- the origin has a host, and is one of this group of hosts
abbrev pub is_in_group : List ℕ → Origin → Bool
is_in_group group origin =
    not (length origin.1 == 0) && bytes_eq (without_www origin.1) group

-- the total of a group: the sum of those of its origins
abbrev pub group_total : List Scored → List ℕ → ℕ
group_total pages group = sum_by (total_of pages) (filter (is_in_group group) (origins_of pages))

-- a group passes that has a total which is no less than the mean of the origins that have one
abbrev pub group_passes : List Scored → List ℕ → Bool
group_passes pages group =
    nat_lt 0 (group_total pages group)
    && nat_le (sum_of_totals pages) (group_total pages group * origins_with_total pages)

-- the origins of a store's pages, and their frecencies
abbrev pub scored_pages : Store → List Scored
scored_pages store =
    filter_map (λ (p : Page). option_map (λ (o : Origin). (o, frecency_of store p))
    (origin_of_url p.url)) store.pages

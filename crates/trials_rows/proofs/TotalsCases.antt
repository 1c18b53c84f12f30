-- Cases of the totals of origins and groups of hosts, and of the slots of a store, worked out by
-- hand.
use Rattle.std.proofs.Common.{◌≡◌, ◌+◌, ℕ, List, [], ◌∷◌, map, None, true, false, refl}
use Rattle.std.specs.Prelude.{ℤ, pos, negsuc, codes, replicate}
use Rattle.url.proofs.OnLiterals.{url_on_literals}
use Rattle.pl_base.specs.declared.transition.Transition.TheVariants.{Link}
use Rattle.pl_base.specs.Live.{live_slots, origin_count}
use Rattle.pl_base.specs.Store.{Page, Store, Visit, opening, root_folder}
use Rattle.pl_base.specs.Totals.{Scored, group_passes, group_total, origins_of, origins_with_total, scored_pages}
use Rattle.pl_base.specs.Totals.{sum_of_totals, total_of}

abbrev secure : List ℕ → ℤ → Scored
secure host frecency = ((codes "https://", host), frecency)

-- ---- without a total

-- no page at all, and one with -1 and one with 0: no origin has a total, and no group passes
abbrev unscored : List Scored
unscored = secure (codes "a.example") (negsuc 0) ∷ secure (codes "b.example") (pos 0) ∷ []

without_totals : map origins_with_total ([] ∷ unscored ∷ []) ≡ 0 ∷ 0 ∷ []
without_totals = refl

sums_of_none : map sum_of_totals ([] ∷ unscored ∷ []) ≡ 0 ∷ 0 ∷ []
sums_of_none = refl

none_passes : map (λ pages. group_passes pages (codes "a.example")) ([] ∷ unscored ∷ []) ≡ false ∷ false ∷ []
none_passes = refl

-- -1 takes nothing from what other pages of the origin add
not_subtracted : total_of (secure (codes "a.example") (negsuc 0) ∷ secure (codes "a.example") (pos 1) ∷ [])
    (codes "https://", codes "a.example") ≡ 1
not_subtracted = refl

-- ---- groups

-- the host `www.` has the group without a name, and an origin without a host has none
abbrev nameless : List Scored
nameless = secure (codes "www.") (pos 5) ∷ ((codes "mailto:", []), pos 7) ∷ []

total_without_a_name : group_total nameless [] ≡ 5
total_without_a_name = refl

-- twice 5 is not as much as 12, and twice 6 is
passing_without_a_name :
    group_passes nameless []
    ∷ group_passes (secure (codes "www.") (pos 6) ∷ ((codes "mailto:", []), pos 6) ∷ []) [] ∷ []
    ≡ false ∷ true ∷ []
passing_without_a_name = refl

-- only one `www.` is dropped, and the port keeps hosts apart
apart :
    map (group_total (secure (codes "www.www.a.example") (pos 3) ∷ secure (codes "www.a.example:81") (pos 4) ∷ []))
    (codes "a.example" ∷ codes "www.a.example" ∷ codes "a.example:81" ∷ []) ≡ 0 ∷ 3 ∷ 4 ∷ []
apart = refl

-- ---- of a store

abbrev page : ℕ → List ℕ → List ℕ → Page
page n url title = record { id = record { 0 = n }; url = url; title = title; typed = false }

abbrev link : ℕ → ℕ → Visit
link id of =
    record {
      id = record { 0 = id };
      page = record { 0 = of };
      date = record { 0 = 0 };
      transition = Link;
      source = None;
    }

-- two visits to a page, one to another of the same origin and one to an address without a host
abbrev store : Store
store =
    record opening {
      pages =
          page 1 (codes "https://a.example/") [] ∷ page 2 (codes "https://a.example/x") (replicate 121 97)
          ∷ page 3 (codes "mailto:a@b.example") (replicate 120 97) ∷ [];
      visits = link 1 1 ∷ link 2 1 ∷ link 3 2 ∷ link 4 3 ∷ [];
      items = record (root_folder 7 []) { title = codes "F" } ∷ opening.items;
    }

origins_of_store : origins_of (scored_pages store)
    ≡ (codes "https://", codes "a.example") ∷ (codes "mailto:", []) ∷ []
unfolding url_on_literals
origins_of_store = refl

totals_of_store : map (total_of (scored_pages store)) (origins_of (scored_pages store)) ≡ 300 ∷ 100 ∷ []
unfolding url_on_literals
totals_of_store = refl

-- ---- slots

-- two origins, three pages, four visits and seven items; three URLs, titles of 121, 120 and 1 bytes
slots_of_titles : live_slots store ≡ 2 + 3 + 4 + 7 + 3 + 2 + 1 + 1
unfolding url_on_literals
slots_of_titles = refl

-- the first and the last of three are one origin
origins_apart :
    origin_count (codes "https://a.example/" ∷ codes "http://a.example/" ∷ codes "https://a.example/x" ∷ []) ≡ 2
unfolding url_on_literals
origins_apart = refl

no_origin : origin_count [] ≡ 0
no_origin = refl

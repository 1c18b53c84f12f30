-- Cases of weights, bonuses, samples and frecencies: the definitions compute to values that were
-- worked out by hand.
use Rattle.std.proofs.Common.{◌≡◌, ◌++◌, ℕ, List, [], ◌∷◌, map, Some, None, true, false, refl}
use Rattle.std.specs.Prelude.{pos, negsuc, codes}
use Rattle.std.specs.List.{range_with_len}
use Rattle.url.proofs.OnLiterals.{url_on_literals}
use Rattle.pl_base.specs.declared.date.Micros.{Micros}
use Rattle.pl_base.specs.declared.item.ItemKind.TheVariants.{Bookmark as ItemBookmark}
use Rattle.pl_base.specs.declared.transition.Transition.TheVariants.{Link, Typed, Embed, RedirectPermanent}
use Rattle.pl_base.specs.declared.transition.Transition.TheVariants.{Reload}
use Rattle.pl_base.specs.Date.{day_number, last_date}
use Rattle.pl_base.specs.Frecency.{frecency_of, unvisited_frecency, visited_frecency}
use Rattle.pl_base.specs.Marks.{is_counted, is_framed, is_hidden, is_typed, last_date_of}
use Rattle.pl_base.specs.Redirects.{is_redirect}
use Rattle.pl_base.specs.Store.{Store, Page, Visit, Item, item_id, opening}
use Rattle.pl_base.specs.Tables.{age, bonus_of, greatest_bonus, transition_bonus, weight_of}
use Rattle.pl_base.specs.Transition.{transition_at, transitions}
use Rattle.pl_base.proofs.WorkedRows.{visit}
use Rattle.pl_score.specs.Sample.{most_points}

abbrev date : ℕ → Micros
date n = record { 0 = n }

abbrev page : ℕ → Page
page n = record { id = record { 0 = n }; url = []; title = []; typed = false }

-- a bookmark of page 1
abbrev bookmark : Item
bookmark =
    record {
      id = item_id 7;
      kind = ItemBookmark;
      title = [];
      page = Some (record { 0 = 1 });
      added = date 0;
      modified = date 0;
      children = [];
    }

abbrev with_visits : List Visit → Store
with_visits visits = record opening { visits = visits }

-- the same, where page 1 has a bookmark and no other item is there
abbrev with_bookmark : List Visit → Store
with_bookmark visits = record opening { visits = visits; items = bookmark ∷ [] }

-- ---- dates and ages

-- the first and the last microsecond of a day, and of all days
days_of_dates :
    map (λ n. day_number (date n)) (0 ∷ 86_399_999_999 ∷ 86_400_000_000 ∷ last_date ∷ []) ≡ 0 ∷ 0 ∷ 1 ∷ 2_932_896 ∷ []
days_of_dates = refl

-- on day 1: visits of day 0, 1, and 2
ages :
    map (λ n. age (record { 0 = 1 }) (date n)) (86_399_999_999 ∷ 86_400_000_000 ∷ 172_800_000_000 ∷ [])
    ≡ pos 1 ∷ pos 0 ∷ negsuc 0 ∷ []
ages = refl

-- ---- the tables

-- the last age of each weight and the next one, and both ends
last_ages_of_weights :
    map weight_of
    (negsuc 2_932_895 ∷ negsuc 0 ∷ pos 0 ∷ pos 4 ∷ pos 5 ∷ pos 14 ∷ pos 15 ∷ pos 31 ∷ pos 32 ∷ pos 90 ∷ pos 91
    ∷ pos 2_932_896 ∷ [])
    ≡ 100 ∷ 100 ∷ 100 ∷ 100 ∷ 70 ∷ 70 ∷ 50 ∷ 50 ∷ 30 ∷ 30 ∷ 10 ∷ 10 ∷ []
last_ages_of_weights = refl

bonuses_of_transitions :
    map transition_bonus transitions ≡ 100 ∷ 2000 ∷ 75 ∷ 0 ∷ 50 ∷ 40 ∷ 0 ∷ 0 ∷ 0 ∷ []
bonuses_of_transitions = refl

-- that it led to a redirect goes before where it came from, and that before its own transition
rules_of_bonuses :
    bonus_of RedirectPermanent (Some Typed) true false ∷ bonus_of RedirectPermanent (Some Typed) false false
    ∷ bonus_of RedirectPermanent (Some Reload) false false ∷ bonus_of RedirectPermanent None false false
    ∷ bonus_of Embed None true false ∷ []
    ≡ 25 ∷ 2000 ∷ 0 ∷ 50 ∷ 25 ∷ []
rules_of_bonuses = refl

-- and 75 more by each rule, also where it gives nothing
bonuses_of_referenced_pages :
    bonus_of RedirectPermanent (Some Typed) true true ∷ bonus_of RedirectPermanent (Some Typed) false true
    ∷ bonus_of RedirectPermanent (Some Reload) false true ∷ bonus_of Embed None false true ∷ []
    ≡ 100 ∷ greatest_bonus ∷ 75 ∷ 75 ∷ []
bonuses_of_referenced_pages = refl

-- ten visits of today by a redirect from a typed one, to a page in the tree
most_points_are : most_points ≡ 2_075_000
most_points_are = refl

-- ---- transitions by their numbers

no_transition_beyond :
    map transition_at (0 ∷ 1 ∷ 9 ∷ 10 ∷ []) ≡ None ∷ Some Link ∷ Some Reload ∷ None ∷ []
no_transition_beyond = refl

counted : map is_counted transitions
    ≡ true ∷ true ∷ true ∷ false ∷ true ∷ true ∷ false ∷ false ∷ false ∷ []
counted = refl

typed : map is_typed transitions
    ≡ false ∷ true ∷ false ∷ false ∷ false ∷ false ∷ false ∷ false ∷ false ∷ []
typed = refl

framed : map is_framed transitions
    ≡ false ∷ false ∷ false ∷ true ∷ false ∷ false ∷ false ∷ true ∷ false ∷ []
framed = refl

redirects : map is_redirect transitions
    ≡ false ∷ false ∷ false ∷ false ∷ true ∷ true ∷ false ∷ false ∷ false ∷ []
redirects = refl

-- ---- rounding

-- 22.5 and 15.3 are rounded up to 23 and 16, where 45 / 3 would be 15; the least sum gives 1
rounded_up_twice : visited_frecency 2_250 3 2 ≡ pos 16
rounded_up_twice = refl

least_sum : visited_frecency 1 10 1 ≡ pos 1
least_sum = refl

nothing_to_round : visited_frecency 20_000 2 2 ≡ pos 200
nothing_to_round = refl

no_sum : visited_frecency 0 10 11 ≡ negsuc 0
no_sum = refl

-- ---- pages without visits that count

-- in the tree, typed, a query: each way
unvisited :
    unvisited_frecency false false false ∷ unvisited_frecency false false true ∷ unvisited_frecency false true false
    ∷ unvisited_frecency false true true ∷ unvisited_frecency true false false ∷ unvisited_frecency true false true
    ∷ unvisited_frecency true true false ∷ unvisited_frecency true true true ∷ []
    ≡ pos 0 ∷ pos 0 ∷ pos 0 ∷ pos 0 ∷ pos 140 ∷ pos 0 ∷ pos 340 ∷ pos 0 ∷ []
unvisited = refl

-- an embedded visit to a bookmark does not count, and what it would add is not asked
embedded_bookmark : frecency_of (with_bookmark (visit 1 1 0 Embed None ∷ [])) (page 1) ≡ pos 140
unfolding url_on_literals
embedded_bookmark = refl

-- a query that was visited has the frecency of any page, and a bookmark of it alone has none
visited_query : frecency_of (with_visits (visit 1 1 0 Link None ∷ [])) (record (page 1) { url = codes "place:sort=8" })
    ≡ pos 100
visited_query = refl

query_in_the_tree : frecency_of (with_bookmark []) (record (page 1) { url = codes "place:sort=8" }) ≡ pos 0
unfolding url_on_literals
query_in_the_tree = refl

-- ---- what a sample adds

-- a bookmark's visits count 75 more each: 75 and 175 points of two visits, of which one counts
each_visit_of_a_bookmark :
    frecency_of (with_bookmark (visit 1 1 0 Embed None ∷ visit 2 1 0 Link None ∷ [])) (page 1) ≡ pos 125
each_visit_of_a_bookmark = refl

-- a redirect from an embedded visit adds nothing, and counts
redirect_from_a_frame :
    frecency_of (with_visits (visit 1 1 0 Embed None ∷ visit 2 2 0 RedirectPermanent (Some (record { 0 = 1 })) ∷ []))
    (page 2) ≡ negsuc 0
redirect_from_a_frame = refl

-- ---- the sample

-- ten visits are all in it: 2,900 points
ten_visits :
    frecency_of (with_visits (visit 1 1 0 Typed None ∷ map (λ n. visit n 1 n Link None) (range_with_len 2 9))) (page 1)
    ≡ pos 2900
ten_visits = refl

-- of eleven at one date the one with the least id is out, and the one with the greatest is in
least_id_is_out :
    frecency_of (with_visits (visit 1 1 0 Typed None ∷ map (λ n. visit n 1 0 Link None) (range_with_len 2 10))) (page 1)
    ≡ pos 1100
least_id_is_out = refl

greatest_id_is_in :
    frecency_of
    (with_visits (map (λ n. visit n 1 0 Link None) (range_with_len 1 10) ++ visit 11 1 0 Typed None ∷ [])) (page 1)
    ≡ pos 3190
greatest_id_is_in = refl

-- ---- marks

-- page 1 by one visit of each transition
hidden_by_one_visit : map (λ t. is_hidden (with_visits (visit 1 1 0 t None ∷ [])) (page 1)) transitions
    ≡ false ∷ false ∷ false ∷ true ∷ false ∷ false ∷ false ∷ true ∷ false ∷ []
unfolding url_on_literals
hidden_by_one_visit = refl

-- a query is hidden by itself
hidden_query : is_hidden (with_bookmark []) (record (page 1) { url = codes "place:" }) ≡ true
unfolding url_on_literals
hidden_query = refl

-- the latest by its date, whenever it arrived; none without a visit
last_dates :
    map (λ n. last_date_of
    (with_visits (visit 1 1 5 Link None ∷ visit 2 1 9 Embed None ∷ visit 3 1 7 Link None ∷ [])) (record { 0 = n }))
    (1 ∷ 2 ∷ []) ≡ Some (date 9) ∷ None ∷ []
last_dates = refl

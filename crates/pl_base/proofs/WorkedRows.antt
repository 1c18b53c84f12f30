-- Worked rows of frecencies, marks and slots: the definitions compute to values that were worked out by hand.
use Rattle.std.proofs.Common.{◌≡◌, ℕ, ◌+◌, List, [], ◌∷◌, ◌++◌, map, Option, Some, None, true, false, refl}
use Rattle.std.specs.Prelude.{ℤ, pos, negsuc, codes, length, replicate}
use Rattle.std.specs.Fmt.Cut.{floor_char_boundary}
use Rattle.std.specs.List.{range_with_len}
use Rattle.pl_base.specs.declared.item.ItemKind.TheVariants.{Bookmark as ItemBookmark}
use Rattle.pl_base.specs.declared.transition.Transition.{Transition}
use Rattle.pl_base.specs.declared.transition.Transition.TheVariants.{Link, Typed, Bookmark, Embed, RedirectPermanent}
use Rattle.pl_base.specs.declared.transition.Transition.TheVariants.{RedirectTemporary, Download, FramedLink, Reload}
use Rattle.pl_base.specs.declared.id.VisitId.{VisitId}
use Rattle.url.proofs.OnLiterals.{url_on_literals}
use Rattle.pl_base.specs.Address.{longest_url}
use Rattle.pl_base.specs.Frecency.{frecency_of}
use Rattle.pl_base.specs.Live.{chunks, live_slots}
use Rattle.pl_base.specs.Marks.{is_hidden, visit_count}
use Rattle.pl_base.specs.Redirects.{others_from, redirects_from}
use Rattle.pl_base.specs.Store.{Store, Page, Visit, Item, item_id, opening}
use Rattle.pl_base.specs.Title.{cut_title}

abbrev page : ℕ → Page
page n = record { id = record { 0 = n }; url = []; title = []; typed = false }

-- the visit `id` to page `of`
abbrev pub visit : ℕ → ℕ → ℕ → Transition → Option VisitId → Visit
visit id of date transition source =
    record {
      id = record { 0 = id };
      page = record { 0 = of };
      date = record { 0 = date };
      transition = transition;
      source = source;
    }

abbrev on_day : ℕ → List Visit → Store
on_day day visits = record opening { day = record { 0 = day }; visits = visits }

-- ten visits to page 1 at the dates from 1 to 10, with the ids from 2 to 11
abbrev ten_more : Transition → List Visit
ten_more transition = map (λ n. visit (n + 1) 1 n transition None) (range_with_len 1 10)

abbrev link : Visit
link = visit 1 1 0 Link None

abbrev typed : Visit
typed = visit 1 1 0 Typed None

-- one visit by a link, then another on the same day
one_link : frecency_of (on_day 0 (link ∷ [])) (page 1) ≡ pos 100
one_link = refl

two_links : frecency_of (on_day 0 (link ∷ visit 2 1 0 Link None ∷ [])) (page 1) ≡ pos 200
two_links = refl

-- an address that was typed, and a download, which is no visit that counts
one_typed : frecency_of (on_day 0 (typed ∷ [])) (page 1) ≡ pos 2000
one_typed = refl

one_download : frecency_of (on_day 0 (visit 1 1 0 Download None ∷ [])) (page 1) ≡ pos 0
one_download = refl

-- a page in the bookmark tree that was typed
abbrev bookmarked : Store
bookmarked = record (on_day 0 (typed ∷ [])) { items = row ∷ [] }
  where
    row : Item
    row = record {
      id = item_id 7;
      kind = ItemBookmark;
      title = [];
      page = Some (record { 0 = 1 });
      added = record { 0 = 0 };
      modified = record { 0 = 0 };
      children = [];
    }

typed_bookmark : frecency_of bookmarked (page 1) ≡ pos 2075
typed_bookmark = refl

-- a typed address that led to a permanent redirect: its visit counts 25, and the page that the redirect
-- came to has what the typed one would have
abbrev redirected : Store
redirected = on_day 0 (typed ∷ visit 2 2 1 RedirectPermanent (Some (record { 0 = 1 })) ∷ [])

redirect_source : frecency_of redirected (page 1) ≡ pos 25
redirect_source = refl

redirect_target : frecency_of redirected (page 2) ≡ pos 2000
redirect_target = refl

-- the visit that came from visit `from`
abbrev from : ℕ → Option VisitId
from id = Some (record { 0 = id })

-- a typed address and three redirects, one after the other: each visit that led on counts 25, and the
-- last one what its own source would count, one step back and no further
abbrev three_redirects : Store
three_redirects =
    on_day 0
    (typed ∷ visit 2 2 1 RedirectPermanent (from 1) ∷ visit 3 3 2 RedirectTemporary (from 2)
    ∷ visit 4 4 3 RedirectPermanent (from 3) ∷ [])

along_three_redirects : map (λ n. frecency_of three_redirects (page n)) (1 ∷ 2 ∷ 3 ∷ 4 ∷ [])
    ≡ pos 25 ∷ pos 25 ∷ pos 25 ∷ pos 40 ∷ []
along_three_redirects = refl

-- without a source a redirect counts what its own transition does
no_source : map (λ t. frecency_of (on_day 0 (visit 1 1 0 t None ∷ [])) (page 1))
    (RedirectPermanent ∷ RedirectTemporary ∷ []) ≡ pos 50 ∷ pos 40 ∷ []
no_source = refl

-- an embedded visit, and one that led to a redirect: 25 points of two visits, of which one counts
abbrev embedded_and_left : List Visit
embedded_and_left = visit 1 1 0 Embed None ∷ visit 2 1 1 Link None ∷ visit 3 2 2 RedirectPermanent (from 2) ∷ []

half_a_redirect_source : frecency_of (on_day 0 embedded_and_left) (page 1) ≡ pos 13
half_a_redirect_source = refl

-- one more by a link: 125 points of three visits, of which two count
abbrev linked_again : List Visit
linked_again = embedded_and_left ++ visit 4 1 3 Link None ∷ []

a_link_more : frecency_of (on_day 0 linked_again) (page 1) ≡ pos 84
a_link_more = refl

-- a redirect back to its own page: 25 and 100 points of two visits that count
abbrev own_source : Store
own_source = on_day 0 (link ∷ visit 2 1 1 RedirectPermanent (from 1) ∷ [])

from_its_own_page : frecency_of own_source (page 1) ≡ pos 125
from_its_own_page = refl

-- two redirects from one source: each page has what the source would count
abbrev two_targets : Store
two_targets =
    on_day 0 (typed ∷ visit 2 2 1 RedirectPermanent (from 1) ∷ visit 3 3 1 RedirectTemporary (from 1) ∷ [])

from_one_source : map (λ n. frecency_of two_targets (page n)) (1 ∷ 2 ∷ 3 ∷ []) ≡ pos 25 ∷ pos 2000 ∷ pos 2000 ∷ []
from_one_source = refl

-- a source that led to no redirect counts as any visit, and so does what came from it
no_redirect : map (λ n. frecency_of (on_day 0 (typed ∷ visit 2 2 1 Link (from 1) ∷ [])) (page n)) (1 ∷ 2 ∷ [])
    ≡ pos 2000 ∷ pos 100 ∷ []
no_redirect = refl

-- what came from visit 1 goes by whether a redirect made it
abbrev three_targets : Store
three_targets =
    on_day 0
    (link ∷ visit 2 2 1 Link (from 1) ∷ visit 3 3 1 RedirectPermanent (from 1) ∷ visit 4 4 1 RedirectTemporary (from 1)
    ∷ [])

redirects_of_three : map (λ (v : Visit). v.id.0) (redirects_from three_targets (record { 0 = 1 })) ≡ 3 ∷ 4 ∷ []
redirects_of_three = refl

others_of_three : map (λ (v : Visit). v.id.0) (others_from three_targets (record { 0 = 1 })) ≡ 2 ∷ []
others_of_three = refl

-- ten visits by links push an earlier typed one out of the sample, and one that arrives late with an
-- early date doesn't come into it
sample_is_full : frecency_of (on_day 0 (typed ∷ ten_more Link)) (page 1) ≡ pos 1100
sample_is_full = refl

late_arrival : frecency_of (on_day 0 (typed ∷ ten_more Link ++ visit 12 1 0 Typed None ∷ [])) (page 1) ≡ pos 1200
late_arrival = refl

-- a sample of reloads adds nothing
only_reloads : frecency_of (on_day 0 (link ∷ ten_more Reload)) (page 1) ≡ negsuc 0
only_reloads = refl

-- a reload takes part in the mean and isn't counted
link_and_reload : frecency_of (on_day 0 (link ∷ visit 2 1 1 Reload None ∷ [])) (page 1) ≡ pos 50
link_and_reload = refl

-- 2024-07-05 is 91 days before day 20,000: 750 points round up to 8
old_visit : frecency_of (on_day 20_000 (visit 1 1 1_720_137_600_000_000 Bookmark None ∷ [])) (page 1) ≡ pos 8
old_visit = refl

-- a visit three days ahead of the store's day, and the same as days pass
abbrev ahead : ℕ → ℤ
ahead day = frecency_of (on_day day (visit 1 1 1_728_259_200_000_000 Link None ∷ [])) (page 1)

three_days_ahead : ahead 20_000 ≡ pos 100
three_days_ahead = refl

four_days_old : ahead 20_007 ≡ pos 100
four_days_old = refl

five_days_old : ahead 20_008 ≡ pos 70
five_days_old = refl

a_season_old : ahead 20_108 ≡ pos 10
a_season_old = refl

-- ---- marks

-- of a visit by each transition five count
each_transition : visit_count
    (on_day 0 (map (λ t. visit 1 1 0 t None)
    (Link ∷ Typed ∷ Bookmark ∷ Embed ∷ RedirectPermanent ∷ RedirectTemporary ∷ Download ∷ FramedLink ∷ Reload ∷ [])))
    (record { 0 = 1 }) ≡ 5
each_transition = refl

-- a page is hidden whose visits were all within frames or led to redirects, and one that is a query
only_framed : is_hidden (on_day 0 (visit 1 1 0 Embed None ∷ visit 2 1 1 FramedLink None ∷ [])) (page 1) ≡ true
unfolding url_on_literals
only_framed = refl

framed_and_linked : is_hidden (on_day 0 (visit 1 1 0 Embed None ∷ visit 2 1 1 Link None ∷ [])) (page 1) ≡ false
unfolding url_on_literals
framed_and_linked = refl

hidden_source : is_hidden redirected (page 1) ≡ true
unfolding url_on_literals
hidden_source = refl

shown_target : is_hidden redirected (page 2) ≡ false
unfolding url_on_literals
shown_target = refl

hidden_along_redirects : map (λ n. is_hidden three_redirects (page n)) (1 ∷ 2 ∷ 3 ∷ 4 ∷ [])
    ≡ true ∷ true ∷ true ∷ false ∷ []
unfolding url_on_literals
hidden_along_redirects = refl

embedded_or_left : is_hidden (on_day 0 embedded_and_left) (page 1) ≡ true
unfolding url_on_literals
embedded_or_left = refl

shown_again : is_hidden (on_day 0 linked_again) (page 1) ≡ false
unfolding url_on_literals
shown_again = refl

shown_by_its_own_redirect : is_hidden own_source (page 1) ≡ false
unfolding url_on_literals
shown_by_its_own_redirect = refl

never_visited : is_hidden bookmarked (page 2) ≡ false
unfolding url_on_literals
never_visited = refl

a_query : is_hidden (on_day 0 (link ∷ [])) (record (page 1) { url = codes "place:sort=8" }) ≡ true
unfolding url_on_literals
a_query = refl

-- ---- slots

-- a text takes a slot for each 120 bytes, and an empty one none
no_chunk : chunks [] ≡ 0
no_chunk = refl

one_chunk : chunks (replicate 120 97) ≡ 1
one_chunk = refl

two_chunks : chunks (replicate 121 97) ≡ 2
two_chunks = refl

chunks_of_longest_url : chunks (replicate longest_url 97) ≡ 547
chunks_of_longest_url = refl

only_roots : live_slots opening ≡ 6
only_roots = refl

-- two pages of one origin, one of another, three visits, six roots, and a chunk for each URL
abbrev at : ℕ → List ℕ → Page
at n url = record (page n) { url = url }

abbrev two_origins : Store
two_origins = record (on_day 0 (link ∷ visit 2 2 0 Link None ∷ visit 3 3 0 Link None ∷ [])) {
  pages =
      at 1 (codes "https://a.example/") ∷ at 2 (codes "http://a.example/") ∷ at 3 (codes "https://a.example/x") ∷ [];
}

slots_of_two_origins : live_slots two_origins ≡ 2 + 3 + 3 + 6 + 3
unfolding url_on_literals
slots_of_two_origins = refl

-- ---- titles

-- a title of 4,096 bytes stands whole; a longer one is cut, and a character that would not end within is left out
whole_title : length (cut_title (replicate 4_096 97)) ≡ 4_096
unfolding floor_char_boundary
whole_title = refl

cut_title_at_its_end : length (cut_title (replicate 4_097 97)) ≡ 4_096
unfolding floor_char_boundary
cut_title_at_its_end = refl

cut_before_a_character : length (cut_title (replicate 4_095 97 ++ 195 ∷ 169 ∷ [])) ≡ 4_095
unfolding floor_char_boundary
cut_before_a_character = refl

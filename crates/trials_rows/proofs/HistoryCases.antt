-- Cases of visits, of visits and pages that go, and of days: the definitions compute to values
-- worked out by hand.
use Rattle.std.proofs.Common.{◌≡◌, ℕ, List, [], ◌∷◌, map, Some, None, true, false, refl, Bool}
use Rattle.std.specs.Prelude.{codes, pos}
use Rattle.url.proofs.OnLiterals.{url_on_literals}
use Rattle.pl_base.specs.declared.date.Day.{Day}
use Rattle.pl_base.specs.declared.date.Micros.{Micros}
use Rattle.pl_base.specs.declared.id.VisitId.{VisitId}
use Rattle.pl_base.specs.declared.item.ItemKind.TheVariants.{Bookmark as ItemBookmark}
use Rattle.pl_base.specs.declared.transition.Transition.TheVariants.{Link, Typed, Embed}
use Rattle.pl_base.specs.Date.{last_date, last_day}
use Rattle.pl_base.specs.Days.{pages_moved}
use Rattle.pl_base.specs.Expiration.{expired, is_earlier, trimmed, visits_before}
use Rattle.pl_base.specs.Frecency.{frecency_of}
use Rattle.pl_base.specs.Removal.{forgotten, without_visits}
use Rattle.pl_base.specs.Store.{Store, Page, Item, item_id, opening, roots}
use Rattle.pl_base.specs.Visiting.{after_visit}
use Rattle.pl_base.proofs.WorkedRows.{visit}

abbrev day : ℕ → Day
day n = record { 0 = n }

abbrev date : ℕ → Micros
date n = record { 0 = n }

abbrev page : ℕ → List ℕ → Bool → Page
page n url typed = record { id = record { 0 = n }; url = url; title = []; typed = typed }

-- a bookmark of the page
abbrev bookmark : ℕ → ℕ → Item
bookmark id of =
    record {
      id = item_id id;
      kind = ItemBookmark;
      title = [];
      page = Some (record { 0 = of });
      added = date 0;
      modified = date 0;
      children = [];
    }

abbrev visit_ids : List VisitId → List ℕ
visit_ids ids = map (λ (id : VisitId). id.0) ids

abbrev page_ids : Store → List ℕ
page_ids store = map (λ (p : Page). p.id.0) store.pages

-- ---- a visit

abbrev a : List ℕ
a = codes "https://a.example/"

abbrev b : List ℕ
b = codes "https://b.example/"

-- the first one makes its page, and one that was typed marks it
abbrev first : Store
first = after_visit opening a Typed (date 7) None

made_page : first
    ≡ record {
      day = day 0;
      ids = record { page = 2; visit = 2; item = 7 };
      pages = page 1 a true ∷ [];
      visits = visit 1 1 7 Typed None ∷ [];
      items = roots;
    }
made_page = refl

-- the next one finds it, at an earlier date too, and it stays typed
known_page : after_visit first a Link (date 3) (Some (record { 0 = 1 }))
    ≡ record {
      day = day 0;
      ids = record { page = 2; visit = 3; item = 7 };
      pages = page 1 a true ∷ [];
      visits = visit 1 1 7 Typed None ∷ visit 2 1 3 Link (Some (record { 0 = 1 })) ∷ [];
      items = roots;
    }
known_page = refl

-- another page has the next id, and is not typed
other_page : (after_visit first b Link (date 7) None).pages ≡ page 1 a true ∷ page 2 b false ∷ []
other_page = refl

-- a page that was not typed is so from a typed visit on
typed_later : (after_visit (after_visit opening a Link (date 0) None) a Typed (date 0) None).pages ≡ page 1 a true ∷ []
typed_later = refl

-- ---- visits that go

-- page 1 was typed and is a bookmark, page 2 has one visit
abbrev two : Store
two =
    record opening {
      pages = page 1 [] true ∷ page 2 [] false ∷ [];
      visits = visit 1 1 0 Typed None ∷ visit 2 2 0 Link (Some (record { 0 = 1 })) ∷ [];
      items = bookmark 7 1 ∷ [];
    }

nothing_goes : without_visits [] two ≡ two
nothing_goes = refl

-- what was typed stays with the bookmark, and so does the next id
typed_stays : forgotten (record { 0 = 1 }) two
    ≡ record two {
      pages = page 1 [] true ∷ page 2 [] false ∷ [];
      visits = visit 2 2 0 Link None ∷ [];
    }
typed_stays = refl

worth_of_a_typed_bookmark : frecency_of (forgotten (record { 0 = 1 }) two) (page 1 [] true) ≡ pos 340
unfolding url_on_literals
worth_of_a_typed_bookmark = refl

all_visits_go : without_visits (record { 0 = 1 } ∷ record { 0 = 2 } ∷ []) two
    ≡ record two { pages = page 1 [] true ∷ []; visits = [] }
all_visits_go = refl

-- ---- old visits

-- the last microsecond of a day is before the next day, and the first of that day is not
abbrev around_midnight : Store
around_midnight =
    record opening {
      visits =
          visit 1 1 86_399_999_999 Link None ∷ visit 2 1 86_400_000_000 Link None ∷ visit 3 1 last_date Link None ∷ [];
    }

before_days_of_dates :
    map (λ n. visit_ids (visits_before (day n) around_midnight)) (0 ∷ 1 ∷ 2 ∷ last_day ∷ [])
    ≡ [] ∷ (1 ∷ []) ∷ (1 ∷ 2 ∷ []) ∷ (1 ∷ 2 ∷ []) ∷ []
before_days_of_dates = refl

nothing_to_expire : expired (day last_day) opening ≡ opening
nothing_to_expire = refl

-- ---- stale pages

-- none is earlier than any date, and nothing earlier than itself
earlier :
    is_earlier None None ∷ is_earlier None (Some (date 0)) ∷ is_earlier (Some (date 0)) None
    ∷ is_earlier (Some (date 3)) (Some (date 5)) ∷ is_earlier (Some (date 5)) (Some (date 5))
    ∷ is_earlier (Some (date 5)) (Some (date 3)) ∷ []
    ≡ false ∷ true ∷ false ∷ true ∷ false ∷ false ∷ []
earlier = refl

nothing_to_trim : trimmed 0 opening ≡ opening
nothing_to_trim = refl

-- without bookmarks so many pages stay as are asked for; the visit that came from one that went has
-- no source
trimmed_to_one : trimmed 1 (record two { items = [] })
    ≡ record opening { pages = page 2 [] false ∷ []; visits = visit 2 2 0 Link None ∷ []; items = [] }
trimmed_to_one = refl

trimmed_to_none : page_ids (trimmed 0 (record two { items = [] })) ≡ []
trimmed_to_none = refl

-- ---- days

-- a link, an embedded visit and a bookmark that was not visited: the link's page alone has another
-- frecency, at once two weights below, and on the same day none has
abbrev three : Store
three =
    record opening {
      pages = page 1 [] false ∷ page 2 [] false ∷ page 3 [] false ∷ [];
      visits = visit 1 1 0 Link None ∷ visit 2 2 0 Embed None ∷ [];
      items = bookmark 7 3 ∷ [];
    }

moved_by_a_day : map (λ n. pages_moved (day n) three) (0 ∷ 4 ∷ 20 ∷ []) ≡ 0 ∷ 0 ∷ 1 ∷ []
unfolding url_on_literals
moved_by_a_day = refl

-- three days ahead of day 0 nothing moves until the visit is five days old
moved_ahead :
    map (λ n. pages_moved (day n) (record opening {
      pages = page 1 [] false ∷ [];
      visits = visit 1 1 259_200_000_000 Link None ∷ [];
    })) (3 ∷ 7 ∷ 8 ∷ []) ≡ 0 ∷ 0 ∷ 1 ∷ []
moved_ahead = refl

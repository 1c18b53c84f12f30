-- Cases of rows as they are looked up and of changed pages of a file, worked out by hand.
use Rattle.std.proofs.Common.{◌≡◌, ◌++◌, ℕ, List, [], ◌∷◌, map, Some, None, true, false, refl}
use Rattle.std.specs.Prelude.{codes, pos, replicate}
use Rattle.pl_base.specs.declared.id.PageId.{PageId}
use Rattle.pl_base.specs.declared.id.VisitId.{VisitId}
use Rattle.pl_base.specs.declared.transition.Transition.TheVariants.{Link}
use Rattle.pl_base.specs.Rows.{Kept, KeptPage, older_visit, opening_with, page_at}
use Rattle.pl_base.specs.Rows.{page_behind, page_visits, total_at, with_new_page, with_origin, with_total}
use Rattle.pl_base.specs.Rows.{without_visit}
use Rattle.pl_base.specs.Store.{Visit}
use Rattle.pl_base.specs.Touched.{Change, PageImage, ascends_above, changed}

abbrev page_id : ℕ → PageId
page_id n = record { 0 = n }

abbrev visit_id : ℕ → VisitId
visit_id n = record { 0 = n }

abbrev kept_page : ℕ → ℕ → KeptPage
kept_page n origin =
    record {
      page = record { id = page_id n; url = codes "https://a.example/"; title = []; typed = false };
      origin = record { 0 = origin };
      frecency = pos 100;
      count = 1;
      hidden = false;
    }

abbrev visit : ℕ → ℕ → Visit
visit id date =
    record {
      id = visit_id id;
      page = page_id 2;
      date = record { 0 = date };
      transition = Link;
      source = None;
    }

-- pages 2 and 5, and visits to page 2 of which two have one date
abbrev rows : Kept
rows =
    record (opening_with (record { page = 6; visit = 4; item = 7 })) {
      pages = kept_page 2 1 ∷ kept_page 5 1 ∷ [];
      origins = record { origin = record { 0 = 1 }; total = 200 } ∷ [];
      visits = visit 1 7 ∷ visit 2 9 ∷ visit 3 7 ∷ [];
    }

-- ---- looking up

-- the first page, the ones behind ids that are there or not, and none behind the last
pages_behind :
    map (page_behind rows) (None ∷ Some (page_id 1) ∷ Some (page_id 2) ∷ Some (page_id 4) ∷ Some (page_id 5) ∷ [])
    ≡ Some (page_id 2) ∷ Some (page_id 2) ∷ Some (page_id 5) ∷ Some (page_id 5) ∷ None ∷ []
pages_behind = refl

-- by date, and of one date the greater id first
latest_first : map (λ (v : Visit). v.id.0) (page_visits rows (page_id 2)) ≡ 2 ∷ 3 ∷ 1 ∷ []
latest_first = refl

older : map (λ n. older_visit rows (visit_id n)) (2 ∷ 3 ∷ 1 ∷ 4 ∷ [])
    ≡ Some (visit_id 3) ∷ Some (visit_id 1) ∷ None ∷ None ∷ []
older = refl

totals_by_name : map (λ n. total_at rows (record { 0 = n })) (0 ∷ 1 ∷ 2 ∷ []) ≡ None ∷ Some 200 ∷ None ∷ []
totals_by_name = refl

-- ---- changes

-- a page with the next id, with nothing computed of it
abbrev more : Kept
more = with_new_page (codes "https://b.example/") (record { 0 = 2 }) (with_origin (record { 0 = 2 }) rows)

new_row : page_at more (page_id 6)
    ≡ Some (record {
      page = record { id = page_id 6; url = codes "https://b.example/"; title = []; typed = false };
      origin = record { 0 = 2 };
      frecency = pos 0;
      count = 0;
      hidden = false;
    })
new_row = refl

new_total : total_at more (record { 0 = 2 }) ≡ Some 0
new_total = refl

next_id : more.ids ≡ record { page = 7; visit = 4; item = 7 }
next_id = refl

one_total : (with_total (record { 0 = 2 }) 5 more).origins
    ≡ record { origin = record { 0 = 1 }; total = 200 } ∷ record { origin = record { 0 = 2 }; total = 5 } ∷ []
one_total = refl

visits_left_of_three : map (λ (v : Visit). v.id.0) (without_visit (visit_id 2) rows).visits ≡ 1 ∷ 3 ∷ []
visits_left_of_three = refl

-- ---- pages of a file

-- a page of one byte
abbrev filled : ℕ → List ℕ
filled b = replicate 1_024 b

abbrev image : ℕ → ℕ → PageImage
image page b = record { page = page; image = filled b }

abbrev change : ℕ → ℕ → List PageImage → Change
change before after pages = record { before = before; after = after; pages = pages }

-- a file of the gate's page and two pages, which hold 1 and 2
abbrev old : List ℕ
old = filled 1 ++ filled 2

nothing_touched : changed (change 3 3 []) old ≡ old
nothing_touched = refl

in_its_place : changed (change 3 3 (image 2 7 ∷ [])) old ≡ filled 1 ++ filled 7
in_its_place = refl

one_page_more : changed (change 3 4 (image 1 7 ∷ image 3 8 ∷ [])) old ≡ filled 7 ++ filled 2 ++ filled 8
one_page_more = refl

one_page_fewer : changed (change 3 2 (image 1 7 ∷ [])) old ≡ filled 7
one_page_fewer = refl

-- what lies behind the store goes too
from_the_gate_alone : changed (change 1 1 []) old ≡ []
from_the_gate_alone = refl

ascending : map (ascends_above 0) ([] ∷ (1 ∷ 2 ∷ 9 ∷ []) ∷ (0 ∷ []) ∷ (1 ∷ 1 ∷ []) ∷ (2 ∷ 1 ∷ []) ∷ [])
    ≡ true ∷ true ∷ false ∷ false ∷ false ∷ []
ascending = refl

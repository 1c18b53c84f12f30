-- The rows of all pages, one page behind the other: they are those of the definition in another
-- order.
use Rattle.std.proofs.Common.{◌≡◌, ◌≢◌, ◌∙◌, ◌++◌, ◌&&◌, ◌||◌, ◌==◌, ℕ, Bool, true, false, List, [], ◌∷◌, Option}
use Rattle.std.proofs.Common.{Some, None, ap, filter, find, if◌then◌else◌, map, not, refl, subst, sym}
use Rattle.std.specs.List.{AllByRecursion, AllPairs, flat_map, list_any}
use Rattle.std.specs.List.Sorted.{IsPermutation}
use Rattle.std.specs.Option.{option_and_then, option_map, option_to_list}
use Rattle.std.proofs.lemmas.Bool.{eq-eqb, eqb-true, false≢true, ne_eqb}
use Rattle.std.proofs.lemmas.Grind.{flat_map-append}
use Rattle.std.proofs.lemmas.List.{append-nil, map-append}
use Rattle.std.proofs.lemmas.List.Sorted.{IsPermutation-trans}
use Rattle.pl_base.specs.declared.id.PageId.{PageId}
use Rattle.pl_base.specs.Marks.{last_date_of}
use Rattle.pl_base.specs.Rows.{IsWellKept, Kept, KeptPage, page_at, page_visits, store_of}
use Rattle.pl_base.specs.Sorting.{sorted_by}
use Rattle.pl_base.specs.Store.{Item, Page, Visit}
use Rattle.pl_base.specs.Tags.{is_tag_entry}
use Rattle.pl_base.specs.Tree.{is_page, item_at}
use Rattle.pl_base.specs.Visits.{is_later, visits_of}
use Rattle.pl_base.proofs.IdsLaws.{same_page}
use Rattle.pl_base.proofs.ListLaws.{all-filter, to_map, weaker}
use Rattle.pl_base.proofs.LookUps.{Apart, apart_increasing, where_passes}
use Rattle.pl_base.proofs.PageLaws.{pages_found, pages_apart}
use Rattle.pl_base.proofs.ReferencesRun.{having, items_found}
use Rattle.pl_base.proofs.VisitsRun.{IsVisitOf, visits_stand}
use Rattle.pl_place.specs.declared.kinds.QueryType.{QueryType}
use Rattle.pl_place.specs.declared.kinds.QueryType.TheVariants.{History, Bookmarks}
use Rattle.pl_place.specs.declared.kinds.ResultType.{ResultType}
use Rattle.pl_place.specs.declared.kinds.ResultType.TheVariants.{Pages, Visits}
use Rattle.pl_place.specs.declared.query.Query.{Query}
use Rattle.pl_query.specs.declared.ordering.Candidate.{Candidate}
use Rattle.pl_query.specs.declared.shown.Subject.{Subject}
use Rattle.pl_query.specs.Candidates.{candidate_of, is_wanted, mark_subject, marks_part, page_part, page_subject}
use Rattle.pl_query.specs.Candidates.{part_of, parts_of, subject_of, visit_subject, visits_in_times, visits_part}
use Rattle.pl_query.specs.Candidates.{wanted_marks}
use Rattle.pl_conditions.specs.Conditions.{history_holds, in_times, is_in_parents, page_holds}
use Rattle.pl_query.specs.Order.{Row}
use Rattle.pl_query.specs.QueryAnswer.{bookmark_row, bookmark_row_of, bookmark_rows, has_visit_in_times}
use Rattle.pl_query.specs.QueryAnswer.{history_row, marked_page}
use Rattle.pl_query.specs.QueryAnswer.{page_rows, page_with, rows_of, visit_row_of, visit_rows}
use Rattle.pl_query.specs.Subjects.{row_at, row_of_mark, row_of_page, row_of_visit}
use Rattle.pl_query.proofs.PageParts.{mark_row_at, page_row_at, same_order, visit_row_at}
use Rattle.pl_query.proofs.PartLists.{AreExclusive, all_flat, apart_map, apart_pairs, apart_there, flat_is}
use Rattle.pl_query.proofs.PartLists.{flat_moves}
use Rattle.pl_query.proofs.PartLists.{flat_sorted, grouped, passing, same_moves, where_holds}

-- the rows of the pages in front were collected
abbrev pub HasParts : Kept → Query → List Candidate → List KeptPage → Type 0
HasParts kept q found front =
    found ≡ map (candidate_of (subject_of q.query_type q.result_type) (store_of kept) q.sort)
    (parts_of q.query_type q.result_type kept q front)

pub parts_more : (kept : Kept) (q : Query) (now new : List Candidate) (front : List KeptPage) (p : KeptPage)
    → HasParts kept q now front
    → new ≡ now ++ map (candidate_of (subject_of q.query_type q.result_type) (store_of kept) q.sort)
    (part_of q.query_type q.result_type kept q p)
    → HasParts kept q new (front ++ p ∷ [])
parts_more kept q now new front p so_far added =
    added ∙ ap (λ (cs : List Candidate). cs ++ map of (part p)) so_far
    ∙ sym (ap (map of) (flat_map-append part front (p ∷ [])
    ∙ ap (λ (rs : List Row). parts_of q.query_type q.result_type kept q front ++ rs) (append-nil (part p)))
    ∙ map-append of (parts_of q.query_type q.result_type kept q front) (part p))
  where
    of : Row → Candidate
    of row = candidate_of (subject_of q.query_type q.result_type) (store_of kept) q.sort row

    part : KeptPage → List Row
    part k = part_of q.query_type q.result_type kept q k

-- ---- the pages

found_with : (n : ℕ) (ps : List KeptPage) → find (λ (p : Page). p.id.0 == n) (map (λ (k : KeptPage). k.page) ps)
    ≡ option_map (λ (k : KeptPage). k.page) (find (λ (k : KeptPage). k.page.id.0 == n) ps)
found_with n [] = refl
found_with n (k ∷ ps) = choose (k.page.id.0 == n) (found_with n ps)
  where
    choose : (b : Bool) → find (λ (p : Page). p.id.0 == n) (map (λ (l : KeptPage). l.page) ps)
        ≡ option_map (λ (l : KeptPage). l.page) (find (λ (l : KeptPage). l.page.id.0 == n) ps)
        → (if b then Some k.page else find (λ (p : Page). p.id.0 == n) (map (λ (l : KeptPage). l.page) ps))
        ≡ option_map (λ (l : KeptPage). l.page) (if b then Some k else find (λ (l : KeptPage). l.page.id.0 == n) ps)
    choose true rest = refl
    choose false rest = rest

with_page : (kept : Kept) (id : PageId) (p : KeptPage) → page_at kept p.page.id ≡ Some p → id ≡ p.page.id
    → page_with (store_of kept) id ≡ Some p.page
with_page kept id p at same =
    ap (page_with (store_of kept)) same ∙ found_with p.page.id.0 kept.pages
    ∙ ap (option_map (λ (k : KeptPage). k.page)) at

-- a page is found by none of the tests
with_none : (n : ℕ) (ps : List KeptPage) → list_any (λ (k : KeptPage). n == k.page.id.0) ps ≡ false
    → find (λ (p : Page). p.id.0 == n) (map (λ (k : KeptPage). k.page) ps) ≡ None
with_none n [] none = refl
with_none n (k ∷ ps) none = choose (n == k.page.id.0) refl none (with_none n ps)
  where
    choose : (b : Bool) → (n == k.page.id.0) ≡ b → (b || list_any (λ (l : KeptPage). n == l.page.id.0) ps) ≡ false
        → (list_any (λ (l : KeptPage). n == l.page.id.0) ps ≡ false
        → find (λ (p : Page). p.id.0 == n) (map (λ (l : KeptPage). l.page) ps) ≡ None)
        → (if k.page.id.0 == n then Some k.page
        else find (λ (p : Page). p.id.0 == n) (map (λ (l : KeptPage). l.page) ps)) ≡ None
    choose true is none rest = absurd (cc)
    choose false is none rest =
        ap (λ (b : Bool).
        if b then Some k.page else find (λ (p : Page). p.id.0 == n) (map (λ (l : KeptPage). l.page) ps))
        (ne_eqb k.page.id.0 n (λ same. differ (sym same)))
        ∙ rest none
      where
        differ : n ≢ k.page.id.0
        differ same = false≢true (sym is ∙ eq-eqb n k.page.id.0 same)

-- no two pages have one of the rows
others_none : (n : ℕ) (id : PageId) (ps : List KeptPage) → n ≡ id.0
    → AllByRecursion (λ (k : KeptPage). k.page.id.0 ≢ id.0) ps
    → list_any (λ (k : KeptPage). n == k.page.id.0) ps ≡ false
others_none n id [] same others = refl
others_none n id (k ∷ ps) same others =
    rw (ne_eqb n k.page.id.0 (λ is. others.0 (sym is ∙ same))) (others_none n id ps same others.1)

exclusive : {X : Type 0} (page : X → Option PageId) (ps : List KeptPage) → Apart (λ (p : KeptPage). p.page.id.0) ps
    → AreExclusive (λ (p : KeptPage) x. is_page p.page.id (page x)) ps
exclusive page [] apart = tt
exclusive {X = X} page (p ∷ ps) apart = (λ x is. choose (page x) is, exclusive page ps apart.1)
  where
    choose : (o : Option PageId) → is_page p.page.id o ≡ true
        → list_any (λ (k : KeptPage). is_page k.page.id o) ps ≡ false
    choose None is = absurd (cc)
    choose (Some id) is = others_none id.0 p.page.id ps (eqb-true id.0 p.page.id.0 is) apart.0

-- ---- pages

page_rows_are : (kept : Kept) (q : Query) (ps : List KeptPage)
    → map (λ (p : Page). history_row (store_of kept) p.id.0 p (last_date_of (store_of kept) p.id))
    (filter (λ (p : Page). has_visit_in_times (store_of kept) q p.id && history_holds (store_of kept) q p)
    (map (λ (k : KeptPage). k.page) ps))
    ≡ flat_map (page_part kept q) ps
page_rows_are kept q [] = refl
page_rows_are kept q (k ∷ ps) =
    choose (has_visit_in_times (store_of kept) q k.page.id && history_holds (store_of kept) q k.page)
    (page_rows_are kept q ps)
  where
    row : Page → Row
    row p = history_row (store_of kept) p.id.0 p (last_date_of (store_of kept) p.id)

    listed : Page → Bool
    listed p = has_visit_in_times (store_of kept) q p.id && history_holds (store_of kept) q p

    pages : List Page
    pages = map (λ (l : KeptPage). l.page) ps

    choose : (b : Bool) → map row (filter listed pages) ≡ flat_map (page_part kept q) ps
        → map row (if b then k.page ∷ filter listed pages else filter listed pages)
        ≡ (if b then row_of_page kept k ∷ [] else []) ++ flat_map (page_part kept q) ps
    choose true rest = ap (λ (rs : List Row). row_of_page kept k ∷ rs) rest
    choose false rest = rest

-- ---- visits

-- what is listed of a visit
abbrev visit_there : Kept → Query → Visit → Option Row
visit_there kept q v = option_and_then (visit_row_of (store_of kept) q v) (page_with (store_of kept) v.page)

visit_of : Visit → Option PageId
visit_of v = Some v.page

no_visit : (kept : Kept) (q : Query) (v : Visit)
    → list_any (λ (p : KeptPage). v.page.0 == p.page.id.0) kept.pages ≡ false
    → option_to_list (visit_there kept q v) ≡ []
no_visit kept q v none =
    ap (λ (o : Option Page). option_to_list (option_and_then (visit_row_of (store_of kept) q v) o))
    (with_none v.page.0 kept.pages none)

listed_visit : (kept : Kept) (q : Query) (p : KeptPage) → page_at kept p.page.id ≡ Some p → (v : Visit)
    → IsVisitOf kept p.page.id v
    → visit_there kept q v
    ≡ (if in_times (store_of kept) q v.date && history_holds (store_of kept) q p.page
    then Some (row_of_visit kept v p) else None)
listed_visit kept q p at v of =
    ap (option_and_then (visit_row_of (store_of kept) q v))
    (with_page kept v.page p at (same_page v.page p.page.id of.1))

visits_of_page : (kept : Kept) (q : Query) → IsWellKept kept → (p : KeptPage) → page_at kept p.page.id ≡ Some p
    → IsPermutation
    (flat_map (λ v. option_to_list (visit_there kept q v))
    (filter (λ (v : Visit). v.page.0 == p.page.id.0) kept.visits))
    (visits_part kept q p)
visits_of_page kept q h p at =
    IsPermutation-trans (flat_map there of_page) (flat_map there (sorted_by is_later of_page)) (visits_part kept q p)
    (flat_sorted there is_later of_page)
    (same_moves (flat_map there (sorted_by is_later of_page)) (visits_part kept q p)
    (ap (flat_map there) (sym (same_order of_page))
    ∙ where_holds (visit_there kept q) (λ (v : Visit). in_times (store_of kept) q v.date)
    (history_holds (store_of kept) q p.page) (λ (v : Visit). row_of_visit kept v p) (page_visits kept p.page.id)
    (weaker (IsVisitOf kept p.page.id)
    (λ (v : Visit). visit_there kept q v
    ≡ (if in_times (store_of kept) q v.date && history_holds (store_of kept) q p.page
    then Some (row_of_visit kept v p) else None))
    (page_visits kept p.page.id) (listed_visit kept q p at) (visits_stand kept p.page.id h))))
  where
    there : Visit → List Row
    there v = option_to_list (visit_there kept q v)

    of_page : List Visit
    of_page = visits_of (store_of kept) p.page.id

visits_moved : (kept : Kept) (q : Query) → IsWellKept kept
    → IsPermutation (visit_rows (store_of kept) q) (flat_map (visits_part kept q) kept.pages)
visits_moved kept q h =
    subst (λ (rs : List Row). IsPermutation rs (flat_map (visits_part kept q) kept.pages))
    (passing there (λ (v : Visit). list_any (λ (p : KeptPage). v.page.0 == p.page.id.0) kept.pages) kept.visits
    (no_visit kept q)
    ∙ sym (flat_is (visit_there kept q) kept.visits))
    (IsPermutation-trans
    (flat_map there
    (filter (λ (v : Visit). list_any (λ (p : KeptPage). v.page.0 == p.page.id.0) kept.pages) kept.visits))
    (flat_map (λ (p : KeptPage). flat_map there (filter (λ (v : Visit). v.page.0 == p.page.id.0) kept.visits))
    kept.pages)
    (flat_map (visits_part kept q) kept.pages)
    (grouped there (λ (p : KeptPage) (v : Visit). v.page.0 == p.page.id.0) kept.pages kept.visits
    (exclusive (λ (v : Visit). Some v.page) kept.pages (pages_apart kept h)))
    (flat_moves
    (λ (p : KeptPage). flat_map there (filter (λ (v : Visit). v.page.0 == p.page.id.0) kept.visits))
    (visits_part kept q) kept.pages
    (weaker (λ (p : KeptPage). page_at kept p.page.id ≡ Some p)
    (λ (p : KeptPage).
    IsPermutation (flat_map there (filter (λ (v : Visit). v.page.0 == p.page.id.0) kept.visits))
    (visits_part kept q p))
    kept.pages (visits_of_page kept q h) (pages_found kept h))))
  where
    there : Visit → List Row
    there v = option_to_list (visit_there kept q v)

-- ---- bookmarks

-- what is listed of an item
abbrev mark_there : Kept → Query → Item → Option Row
mark_there kept q i = option_and_then (bookmark_row_of (store_of kept) q i) (marked_page (store_of kept) i)

no_mark : (kept : Kept) (q : Query) (i : Item)
    → list_any (λ (p : KeptPage). is_page p.page.id i.page) kept.pages ≡ false
    → option_to_list (mark_there kept q i) ≡ []
no_mark kept q i none = choose (is_tag_entry (store_of kept) i.id) i.page none
  where
    choose : (entry : Bool) (o : Option PageId) → list_any (λ (p : KeptPage). is_page p.page.id o) kept.pages ≡ false
        → option_to_list (option_and_then (bookmark_row_of (store_of kept) q i)
        (if entry then None else option_and_then (page_with (store_of kept)) o)) ≡ []
    choose true o none = refl
    choose false None none = refl
    choose false (Some id) none =
        ap (λ (o : Option Page). option_to_list (option_and_then (bookmark_row_of (store_of kept) q i) o))
        (with_none id.0 kept.pages none)

listed_mark : (kept : Kept) (q : Query) (p : KeptPage) → page_at kept p.page.id ≡ Some p → (i : Item)
    → is_page p.page.id i.page ≡ true
    → mark_there kept q i
    ≡ (if is_wanted (store_of kept) q i && page_holds (store_of kept) q p.page
    then Some (row_of_mark kept i p) else None)
listed_mark kept q p at i of =
    ap (λ (o : Option Page).
    option_and_then (bookmark_row_of (store_of kept) q i) (if is_tag_entry (store_of kept) i.id then None else o))
    (found i.page of)
    ∙ choose (is_tag_entry (store_of kept) i.id)
  where
    found : (o : Option PageId) → is_page p.page.id o ≡ true
        → option_and_then (page_with (store_of kept)) o ≡ Some p.page
    found None is = absurd (cc)
    found (Some id) is = with_page kept id p at (same_page id p.page.id is)

    choose : (e : Bool)
        → option_and_then (bookmark_row_of (store_of kept) q i) (if e then None else Some p.page)
        ≡ (if not e && in_times (store_of kept) q i.added && is_in_parents (store_of kept) q.parents i
        && page_holds (store_of kept) q p.page
        then Some (row_of_mark kept i p) else None)
    choose true = refl
    choose false = refl

marks_of_page : (kept : Kept) (q : Query) (p : KeptPage) → page_at kept p.page.id ≡ Some p
    → flat_map (λ i. option_to_list (mark_there kept q i)) (having kept.items p.page.id) ≡ marks_part kept q p
marks_of_page kept q p at =
    where_holds (mark_there kept q) (is_wanted (store_of kept) q) (page_holds (store_of kept) q p.page)
    (λ (i : Item). row_of_mark kept i p) (having kept.items p.page.id)
    (where_passes
    (λ (i : Item). mark_there kept q i
    ≡ (if is_wanted (store_of kept) q i && page_holds (store_of kept) q p.page
    then Some (row_of_mark kept i p) else None))
    (λ (i : Item). is_page p.page.id i.page) kept.items (all kept.items))
  where
    all : (items : List Item)
        → AllByRecursion
        (λ (i : Item). is_page p.page.id i.page ≡ true → mark_there kept q i
        ≡ (if is_wanted (store_of kept) q i && page_holds (store_of kept) q p.page
        then Some (row_of_mark kept i p) else None)) items
    all [] = tt
    all (i ∷ items) = (listed_mark kept q p at i, all items)

marks_moved : (kept : Kept) (q : Query) → IsWellKept kept
    → IsPermutation (bookmark_rows (store_of kept) q) (flat_map (marks_part kept q) kept.pages)
marks_moved kept q h =
    subst (λ (rs : List Row). IsPermutation rs (flat_map (marks_part kept q) kept.pages))
    (passing there (λ (i : Item). list_any (λ (p : KeptPage). is_page p.page.id i.page) kept.pages) kept.items
    (no_mark kept q)
    ∙ sym (flat_is (mark_there kept q) kept.items))
    (IsPermutation-trans
    (flat_map there
    (filter (λ (i : Item). list_any (λ (p : KeptPage). is_page p.page.id i.page) kept.pages) kept.items))
    (flat_map (λ (p : KeptPage). flat_map there (having kept.items p.page.id)) kept.pages)
    (flat_map (marks_part kept q) kept.pages)
    (grouped there (λ (p : KeptPage) (i : Item). is_page p.page.id i.page) kept.pages kept.items
    (exclusive (λ (i : Item). i.page) kept.pages (pages_apart kept h)))
    (flat_moves (λ (p : KeptPage). flat_map there (having kept.items p.page.id)) (marks_part kept q) kept.pages
    (weaker (λ (p : KeptPage). page_at kept p.page.id ≡ Some p)
    (λ (p : KeptPage).
    IsPermutation (flat_map there (having kept.items p.page.id)) (marks_part kept q p))
    kept.pages
    (λ p at.
    same_moves (flat_map there (having kept.items p.page.id)) (marks_part kept q p) (marks_of_page kept q p at))
    (pages_found kept h))))
  where
    there : Item → List Row
    there i = option_to_list (mark_there kept q i)

-- ---- of each kind

pub rows_moved : (query_type : QueryType) (result_type : ResultType) (kept : Kept) (q : Query) → IsWellKept kept
    → IsPermutation (rows_of query_type result_type (store_of kept) q)
    (parts_of query_type result_type kept q kept.pages)
rows_moved History Pages kept q h =
    same_moves (page_rows (store_of kept) q) (flat_map (page_part kept q) kept.pages)
    (page_rows_are kept q kept.pages)
rows_moved History Visits kept q h = visits_moved kept q h
rows_moved Bookmarks Pages kept q h = marks_moved kept q h
rows_moved Bookmarks Visits kept q h = marks_moved kept q h

-- ---- no two rows have the same id

visit_id : (kept : Kept) (q : Query) (v : Visit) (row : Row) → visit_there kept q v ≡ Some row → row.id ≡ v.id.0
visit_id kept q v row at = choose (page_with (store_of kept) v.page) at
  where
    pick : (p : Page) (b : Bool)
        → (if b then Some (history_row (store_of kept) v.id.0 p (Some v.date)) else None) ≡ Some row → row.id ≡ v.id.0
    pick p true is =
        let same : history_row (store_of kept) v.id.0 p (Some v.date) ≡ row = cc in
        ap (λ (r : Row). r.id) (sym same)
    pick p false is = absurd (cc)

    choose : (o : Option Page) → option_and_then (visit_row_of (store_of kept) q v) o ≡ Some row → row.id ≡ v.id.0
    choose None is = absurd (cc)
    choose (Some p) is = pick p (in_times (store_of kept) q v.date && history_holds (store_of kept) q p) is

mark_id : (kept : Kept) (q : Query) (i : Item) (row : Row) → mark_there kept q i ≡ Some row → row.id ≡ i.id.0
mark_id kept q i row at = choose (marked_page (store_of kept) i) at
  where
    pick : (p : Page) (b : Bool) → (if b then Some (bookmark_row (store_of kept) p i) else None) ≡ Some row
        → row.id ≡ i.id.0
    pick p true is =
        let same : bookmark_row (store_of kept) p i ≡ row = cc in
        ap (λ (r : Row). r.id) (sym same)
    pick p false is = absurd (cc)

    choose : (o : Option Page) → option_and_then (bookmark_row_of (store_of kept) q i) o ≡ Some row → row.id ≡ i.id.0
    choose None is = absurd (cc)
    choose (Some p) is =
        pick p
        (in_times (store_of kept) q i.added && is_in_parents (store_of kept) q.parents i
        && page_holds (store_of kept) q p) is

store_pages_apart : (ps : List KeptPage) → Apart (λ (p : KeptPage). p.page.id.0) ps
    → Apart (λ (p : Page). p.id.0) (map (λ (k : KeptPage). k.page) ps)
store_pages_apart [] apart = tt
store_pages_apart (p ∷ ps) apart =
    (to_map (λ (w : Page). w.id.0 ≢ p.page.id.0) (λ (k : KeptPage). k.page) ps apart.0, store_pages_apart ps apart.1)

rows_apart : (query_type : QueryType) (result_type : ResultType) (kept : Kept) (q : Query) → IsWellKept kept
    → Apart (λ (r : Row). r.id) (rows_of query_type result_type (store_of kept) q)
rows_apart History Pages kept q h =
    apart_map (λ (p : Page). history_row (store_of kept) p.id.0 p (last_date_of (store_of kept) p.id))
    (λ (p : Page). p.id.0) (λ (r : Row). r.id) (λ p. refl)
    (λ (p : Page). has_visit_in_times (store_of kept) q p.id && history_holds (store_of kept) q p)
    (store_of kept).pages (store_pages_apart kept.pages (pages_apart kept h))
rows_apart History Visits kept q h =
    apart_there (visit_there kept q) (λ (v : Visit). v.id.0) (λ (r : Row). r.id) (visit_id kept q) kept.visits
    (apart_increasing (λ (v : Visit). v.id.0) kept.visits h.visit_ids.ascending)
rows_apart Bookmarks Pages kept q h =
    apart_there (mark_there kept q) (λ (i : Item). i.id.0) (λ (r : Row). r.id) (mark_id kept q) kept.items
    (apart_increasing (λ (i : Item). i.id.0) kept.items h.item_ids.ascending)
rows_apart Bookmarks Visits kept q h =
    apart_there (mark_there kept q) (λ (i : Item). i.id.0) (λ (r : Row). r.id) (mark_id kept q) kept.items
    (apart_increasing (λ (i : Item). i.id.0) kept.items h.item_ids.ascending)

pub rows_differ : (query_type : QueryType) (result_type : ResultType) (kept : Kept) (q : Query) → IsWellKept kept
    → AllPairs (λ (r s : Row). r.id ≢ s.id) (rows_of query_type result_type (store_of kept) q)
rows_differ query_type result_type kept q h =
    apart_pairs (λ (r : Row). r.id) (rows_of query_type result_type (store_of kept) q)
    (rows_apart query_type result_type kept q h)

-- ---- each row is that of what is there

abbrev pub IsThere : (Row → Subject) → Kept → Row → Type 0
IsThere subject kept row = row_at kept (subject row) ≡ Some row

page_part_there : (kept : Kept) (q : Query) (p : KeptPage) → page_at kept p.page.id ≡ Some p
    → AllByRecursion (IsThere page_subject kept) (page_part kept q p)
page_part_there kept q p at =
    choose (has_visit_in_times (store_of kept) q p.page.id && history_holds (store_of kept) q p.page)
  where
    choose : (b : Bool)
        → AllByRecursion (IsThere page_subject kept) (if b then row_of_page kept p ∷ [] else [])
    choose true = (page_row_at kept p.page.id p at, tt)
    choose false = tt

visits_part_there : (kept : Kept) (q : Query) → IsWellKept kept → (p : KeptPage) → page_at kept p.page.id ≡ Some p
    → AllByRecursion (IsThere visit_subject kept) (visits_part kept q p)
visits_part_there kept q h p at = choose (history_holds (store_of kept) q p.page)
  where
    choose : (b : Bool)
        → AllByRecursion (IsThere visit_subject kept)
        (if b then visits_in_times kept q p (page_visits kept p.page.id) else [])
    choose true =
        to_map (IsThere visit_subject kept) (λ (v : Visit). row_of_visit kept v p)
        (filter (λ (v : Visit). in_times (store_of kept) q v.date) (page_visits kept p.page.id))
        (weaker (IsVisitOf kept p.page.id) (λ (v : Visit). IsThere visit_subject kept (row_of_visit kept v p))
        (filter (λ (v : Visit). in_times (store_of kept) q v.date) (page_visits kept p.page.id))
        (λ v of. visit_row_at kept v.id p.page.id v p of.0 at)
        (all-filter (IsVisitOf kept p.page.id) (λ (v : Visit). in_times (store_of kept) q v.date)
        (page_visits kept p.page.id) (visits_stand kept p.page.id h)))
    choose false = tt

marks_part_there : (kept : Kept) (q : Query) → IsWellKept kept → (p : KeptPage) → page_at kept p.page.id ≡ Some p
    → AllByRecursion (IsThere mark_subject kept) (marks_part kept q p)
marks_part_there kept q h p at = choose (page_holds (store_of kept) q p.page)
  where
    choose : (b : Bool)
        → AllByRecursion (IsThere mark_subject kept)
        (if b then wanted_marks kept q p (having kept.items p.page.id) else [])
    choose true =
        to_map (IsThere mark_subject kept) (λ (i : Item). row_of_mark kept i p)
        (filter (is_wanted (store_of kept) q) (having kept.items p.page.id))
        (weaker (λ (i : Item). item_at kept.items i.id ≡ Some i)
        (λ (i : Item). IsThere mark_subject kept (row_of_mark kept i p))
        (filter (is_wanted (store_of kept) q) (having kept.items p.page.id))
        (λ i found. mark_row_at kept i.id p.page.id i p found at)
        (all-filter (λ (i : Item). item_at kept.items i.id ≡ Some i) (is_wanted (store_of kept) q)
        (having kept.items p.page.id)
        (all-filter (λ (i : Item). item_at kept.items i.id ≡ Some i) (λ (i : Item). is_page p.page.id i.page)
        kept.items (items_found kept h))))
    choose false = tt

part_there : (query_type : QueryType) (result_type : ResultType) (kept : Kept) (q : Query) → IsWellKept kept
    → (p : KeptPage) → page_at kept p.page.id ≡ Some p
    → AllByRecursion (IsThere (subject_of query_type result_type) kept) (part_of query_type result_type kept q p)
part_there History Pages kept q h p at = page_part_there kept q p at
part_there History Visits kept q h p at = visits_part_there kept q h p at
part_there Bookmarks result_type kept q h p at = marks_part_there kept q h p at

pub parts_there : (query_type : QueryType) (result_type : ResultType) (kept : Kept) (q : Query) → IsWellKept kept
    → AllByRecursion (IsThere (subject_of query_type result_type) kept)
    (parts_of query_type result_type kept q kept.pages)
parts_there query_type result_type kept q h =
    all_flat (IsThere (subject_of query_type result_type) kept) (part_of query_type result_type kept q) kept.pages
    (weaker (λ (p : KeptPage). page_at kept p.page.id ≡ Some p)
    (λ (p : KeptPage).
    AllByRecursion (IsThere (subject_of query_type result_type) kept) (part_of query_type result_type kept q p))
    kept.pages (part_there query_type result_type kept q h) (pages_found kept h))

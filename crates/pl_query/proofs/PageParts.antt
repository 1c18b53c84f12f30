-- The rows of one page: what a walk over its visits or items adds to the candidates.
use Rattle.std.proofs.Common.{◌≡◌, ◌∙◌, ◌++◌, ◌&&◌, ◌||◌, ◌==◌, Bool, true, false, List, [], ◌∷◌, Some}
use Rattle.std.proofs.Common.{ap, filter, if◌then◌else◌, is_some, map, not, refl, subst, sym}
use Rattle.std.specs.List.{list_any}
use Rattle.std.specs.List.Sorted.{IsPermutation}
use Rattle.std.proofs.lemmas.Bool.{and_left, or_from}
use Rattle.std.proofs.lemmas.List.{append-nil, append_assoc, map-append}
use Rattle.std.proofs.lemmas.List.Elements.{filter-append}
use Rattle.std.proofs.lemmas.List.Folds.{list_any-append}
use Rattle.std.proofs.lemmas.List.Sorted.{list_any-IsPermutation}
use Rattle.pl_base.specs.declared.id.ItemId.{ItemId}
use Rattle.pl_base.specs.declared.id.PageId.{PageId}
use Rattle.pl_base.specs.declared.id.VisitId.{VisitId}
use Rattle.pl_base.specs.Rows.{Kept, KeptPage, has_page, page_at, page_visits, store_of, visit_at}
use Rattle.pl_base.specs.Sorting.{put_in_place, sorted_by}
use Rattle.pl_base.specs.Store.{Item, Store, Visit}
use Rattle.pl_base.specs.Tags.{is_tag_entry}
use Rattle.pl_base.specs.Tree.{item_at}
use Rattle.pl_base.specs.Visits.{in_place, is_later, latest_first, visits_of}
use Rattle.pl_base.proofs.SortLaws.{sorted_moves}
use Rattle.pl_base.proofs.LookUps.{found_passes}
use Rattle.pl_base.proofs.ItemLookUps.{same_item}
use Rattle.pl_base.proofs.PageLaws.{id_at}
use Rattle.pl_base.proofs.ReferencesRun.{having}
use Rattle.pl_base.proofs.VisitsRun.{visit_is}
use Rattle.pl_place.specs.declared.query.Query.{Query}
use Rattle.pl_place.specs.declared.sort.Sort.{Sort}
use Rattle.pl_query.specs.declared.ordering.Candidate.{Candidate}
use Rattle.pl_query.specs.declared.shown.Subject.{Subject}
use Rattle.pl_query.specs.declared.shown.Subject.TheVariants.{Page as OfPage, Visit as OfVisit, Bookmark}
use Rattle.pl_query.specs.Candidates.{candidate_of, is_wanted, mark_subject, marks_part, page_part, page_subject}
use Rattle.pl_query.specs.Candidates.{sort_value, visit_subject, visits_in_times, visits_part, wanted_marks}
use Rattle.pl_conditions.specs.Conditions.{history_holds, in_times, is_in_parents, page_holds}
use Rattle.pl_query.specs.Order.{Row}
use Rattle.pl_query.specs.QueryAnswer.{has_visit_in_times}
use Rattle.pl_query.specs.Subjects.{row_at, row_of_mark, row_of_page, row_of_visit}
use Rattle.pl_query.proofs.RowsShown.{IsPageRow, page_row, page_subject_there, row_there}

-- ---- lists

pub any_filter : {X : Type 0} (p q : X → Bool) (xs : List X) → list_any (λ x. p x && q x) xs ≡ list_any q (filter p xs)
any_filter p q [] = refl
any_filter p q (x ∷ xs) = choose (p x) (any_filter p q xs)
  where
    choose : (b : Bool) → list_any (λ y. p y && q y) xs ≡ list_any q (filter p xs)
        → ((b && q x) || list_any (λ y. p y && q y) xs) ≡ list_any q (if b then x ∷ filter p xs else filter p xs)
    choose true rest = ap (λ (a : Bool). q x || a) rest
    choose false rest = rest

pub none_kept : {X : Type 0} (p : X → Bool) (xs : List X) → list_any p xs ≡ false → filter p xs ≡ []
none_kept p [] none = refl
none_kept p (x ∷ xs) none = choose (p x) none (none_kept p xs)
  where
    choose : (b : Bool) → (b || list_any p xs) ≡ false → (list_any p xs ≡ false → filter p xs ≡ [])
        → (if b then x ∷ filter p xs else filter p xs) ≡ []
    choose true none rest = absurd (cc)
    choose false none rest = rest none

same_place : (v : Visit) (ws : List Visit) → in_place v ws ≡ put_in_place is_later v ws
same_place v [] = refl
same_place v (w ∷ ws) = ap (λ (xs : List Visit). if is_later v w then v ∷ w ∷ ws else w ∷ xs) (same_place v ws)

pub same_order : (vs : List Visit) → latest_first vs ≡ sorted_by is_later vs
same_order [] = refl
same_order (v ∷ vs) = same_place v (latest_first vs) ∙ ap (put_in_place is_later v) (same_order vs)

-- the visits of a page are the same in whatever order
pub latest_moves : (vs : List Visit) → IsPermutation vs (latest_first vs)
latest_moves vs = subst (IsPermutation vs) (sym (same_order vs)) (sorted_moves is_later vs)

-- ---- what is added

-- so many rows were added
abbrev pub HasAdded : (Row → Subject) → Store → Sort → List Candidate → List Candidate → List Row → Type 0
HasAdded subject store sort old now rows = now ≡ old ++ map (candidate_of subject store sort) rows

pub added_none : (subject : Row → Subject) (store : Store) (sort : Sort) (old : List Candidate) (rows : List Row)
    → rows ≡ [] → HasAdded subject store sort old old rows
added_none subject store sort old rows none =
    sym (ap (λ (rs : List Row). old ++ map (candidate_of subject store sort) rs) none ∙ append-nil old)

pub added_one : (subject : Row → Subject) (store : Store) (sort : Sort) (old now : List Candidate) (rows : List Row)
    (row : Row) (of : Subject) → rows ≡ row ∷ [] → of ≡ subject row
    → now ≡ old ++ record { subject = of; value = sort_value store sort row } ∷ []
    → HasAdded subject store sort old now rows
added_one subject store sort old now rows row of one same pushed =
    pushed ∙ ap (λ (s : Subject). old ++ record { subject = s; value = sort_value store sort row } ∷ []) same
    ∙ sym (ap (λ (rs : List Row). old ++ map (candidate_of subject store sort) rs) one)

pub added_more : (subject : Row → Subject) (store : Store) (sort : Sort) (old now new : List Candidate)
    (rows more all : List Row) → HasAdded subject store sort old now rows → HasAdded subject store sort now new more
    → all ≡ rows ++ more → HasAdded subject store sort old new all
added_more subject store sort old now new rows more all first second both =
    second ∙ ap (λ (cs : List Candidate). cs ++ map (candidate_of subject store sort) more) first
    ∙ append_assoc old (map (candidate_of subject store sort) rows) (map (candidate_of subject store sort) more)
    ∙ ap (λ (cs : List Candidate). old ++ cs) (sym (map-append (candidate_of subject store sort) rows more))
    ∙ ap (λ (rs : List Row). old ++ map (candidate_of subject store sort) rs) (sym both)

-- ---- a page

pub page_row_at : (kept : Kept) (page : PageId) (p : KeptPage) → page_at kept page ≡ Some p
    → row_at kept (OfPage page) ≡ Some (row_of_page kept p)
page_row_at kept page p at = rw at refl

pub page_subject_is : (kept : Kept) (page : PageId) (p : KeptPage) → page_at kept page ≡ Some p
    → OfPage page ≡ page_subject (row_of_page kept p)
page_subject_is kept page p at = ap OfPage (sym (id_at kept page p at))

pub page_listed : (kept : Kept) (q : Query) (p : KeptPage) (listed : Bool)
    → listed ≡ (has_visit_in_times (store_of kept) q p.page.id && history_holds (store_of kept) q p.page)
    → page_part kept q p ≡ (if listed then row_of_page kept p ∷ [] else [])
page_listed kept q p listed is = ap (λ (b : Bool). if b then row_of_page kept p ∷ [] else []) (sym is)

-- ---- visits

pub visit_row_at : (kept : Kept) (visit : VisitId) (page : PageId) (v : Visit) (p : KeptPage)
    → visit_at kept visit ≡ Some v → page_at kept page ≡ Some p
    → row_at kept (OfVisit visit page) ≡ Some (row_of_visit kept v p)
visit_row_at kept visit page v p visit_at_it page_at_it = rw (visit_at_it, page_at_it) refl

pub visit_subject_is : (kept : Kept) (visit : VisitId) (page : PageId) (v : Visit) (p : KeptPage)
    → visit_at kept visit ≡ Some v → page_at kept page ≡ Some p
    → OfVisit visit page ≡ visit_subject (row_of_visit kept v p)
visit_subject_is kept visit page v p visit_at_it page_at_it =
    ap (λ (id : VisitId). OfVisit id page) (sym (visit_is kept visit v visit_at_it))
    ∙ ap (λ (id : PageId). OfVisit v.id id) (sym (id_at kept page p page_at_it))

pub one_visit : (kept : Kept) (q : Query) (p : KeptPage) (v : Visit) (within : Bool)
    → within ≡ in_times (store_of kept) q v.date
    → visits_in_times kept q p (v ∷ []) ≡ (if within then row_of_visit kept v p ∷ [] else [])
one_visit kept q p v within is = sym (choose within ∙ ap (λ (b : Bool). rows (if b then v ∷ [] else [])) is)
  where
    rows : List Visit → List Row
    rows vs = map (λ (w : Visit). row_of_visit kept w p) vs

    choose : (b : Bool) → (if b then row_of_visit kept v p ∷ [] else []) ≡ rows (if b then v ∷ [] else [])
    choose true = refl
    choose false = refl

pub visits-append : (kept : Kept) (q : Query) (p : KeptPage) (vs ws : List Visit)
    → visits_in_times kept q p (vs ++ ws) ≡ visits_in_times kept q p vs ++ visits_in_times kept q p ws
visits-append kept q p vs ws =
    ap (map (λ (v : Visit). row_of_visit kept v p))
    (filter-append (λ (v : Visit). in_times (store_of kept) q v.date) vs ws)
    ∙ map-append (λ (v : Visit). row_of_visit kept v p) (filter (λ (v : Visit). in_times (store_of kept) q v.date) vs)
    (filter (λ (v : Visit). in_times (store_of kept) q v.date) ws)

-- no visit in front lies within the times
abbrev pub NoneInTimes : Store → Query → List Visit → Type 0
NoneInTimes store q front = list_any (λ (v : Visit). in_times store q v.date) front ≡ false

pub none_more : (store : Store) (q : Query) (front : List Visit) (v : Visit) → NoneInTimes store q front
    → in_times store q v.date ≡ false → NoneInTimes store q (front ++ v ∷ [])
none_more store q front v none outside =
    list_any-append (λ (w : Visit). in_times store q w.date) front (v ∷ [])
    ∙ or_from (list_any (λ (w : Visit). in_times store q w.date) front) (in_times store q v.date || false) none
    (or_from (in_times store q v.date) false outside refl)

pub any_of_page : (kept : Kept) (q : Query) (page : PageId)
    → list_any (λ (v : Visit). in_times (store_of kept) q v.date) (page_visits kept page)
    ≡ has_visit_in_times (store_of kept) q page
any_of_page kept q page =
    sym (list_any-IsPermutation within (visits_of (store_of kept) page) (page_visits kept page)
    (latest_moves (visits_of (store_of kept) page)))
    ∙ sym (any_filter (λ (v : Visit). v.page.0 == page.0) within kept.visits)
  where
    within : Visit → Bool
    within v = in_times (store_of kept) q v.date

-- ---- whether a page is listed

pub not_listed : (kept : Kept) (q : Query) (page : PageId) (p : KeptPage) → page_at kept page ≡ Some p
    → has_visit_in_times (store_of kept) q page ≡ false
    → false ≡ (has_visit_in_times (store_of kept) q p.page.id && history_holds (store_of kept) q p.page)
not_listed kept q page p at none =
    sym (and_left (has_visit_in_times (store_of kept) q p.page.id) (history_holds (store_of kept) q p.page)
    (ap (has_visit_in_times (store_of kept) q) (id_at kept page p at) ∙ none))

pub listed_if : (kept : Kept) (q : Query) (page : PageId) (p : KeptPage) (holds : Bool) → page_at kept page ≡ Some p
    → has_visit_in_times (store_of kept) q page ≡ true → holds ≡ history_holds (store_of kept) q p.page
    → holds ≡ (has_visit_in_times (store_of kept) q p.page.id && history_holds (store_of kept) q p.page)
listed_if kept q page p holds at some is =
    is ∙ ap (λ (b : Bool). b && history_holds (store_of kept) q p.page)
    (sym (ap (has_visit_in_times (store_of kept) q) (id_at kept page p at) ∙ some))

-- the rows of a page's visits, which are none where it is not listed
pub visits_listed : (kept : Kept) (q : Query) (page : PageId) (p : KeptPage) → page_at kept page ≡ Some p
    → visits_part kept q p
    ≡ (if has_visit_in_times (store_of kept) q p.page.id && history_holds (store_of kept) q p.page
    then visits_in_times kept q p (page_visits kept page) else [])
visits_listed kept q page p at =
    choose (history_holds (store_of kept) q p.page) (has_visit_in_times (store_of kept) q p.page.id) refl
  where
    choose : (holds some : Bool) → has_visit_in_times (store_of kept) q p.page.id ≡ some
        → (if holds then visits_in_times kept q p (page_visits kept p.page.id) else [])
        ≡ (if some && holds then visits_in_times kept q p (page_visits kept page) else [])
    choose true true is = ap (λ (id : PageId). visits_in_times kept q p (page_visits kept id)) (id_at kept page p at)
    choose false true is = refl
    choose true false is =
        ap (map (λ (v : Visit). row_of_visit kept v p))
        (none_kept (λ (v : Visit). in_times (store_of kept) q v.date) (page_visits kept p.page.id)
        (any_of_page kept q p.page.id ∙ is))
    choose false false is = refl

-- ---- walks

-- the rows of the visits in front, of whichever page it is, were added
abbrev pub HasVisits : Kept → Query → PageId → List Candidate → List Candidate → List Visit → Type 0
HasVisits kept q page old now front =
    (p : KeptPage) → page_at kept page ≡ Some p
    → HasAdded visit_subject (store_of kept) q.sort old now (visits_in_times kept q p front)

pub visits_more : (kept : Kept) (q : Query) (page : PageId) (old now new : List Candidate) (front : List Visit)
    (v : Visit) → HasVisits kept q page old now front
    → ((p : KeptPage) → page_at kept page ≡ Some p
    → HasAdded visit_subject (store_of kept) q.sort now new (visits_in_times kept q p (v ∷ [])))
    → HasVisits kept q page old new (front ++ v ∷ [])
visits_more kept q page old now new front v so_far one p at =
    added_more visit_subject (store_of kept) q.sort old now new (visits_in_times kept q p front)
    (visits_in_times kept q p (v ∷ [])) (visits_in_times kept q p (front ++ v ∷ [])) (so_far p at) (one p at)
    (visits-append kept q p front (v ∷ []))

-- a visit of the page has a row
pub visit_subject_there : (kept : Kept) (page : PageId) (visit : VisitId) (v : Visit) → has_page kept page ≡ true
    → visit_at kept visit ≡ Some v → is_some (row_at kept (OfVisit visit page)) ≡ true
visit_subject_there kept page visit v there at =
    let row = row_there kept (OfPage page) (page_subject_there kept page there) in
    let r : IsPageRow kept page row.0 = page_row kept page row.0 row.1 in
    ap is_some (visit_row_at kept visit page v r.p at r.page_is)

pub visits_if : (kept : Kept) (q : Query) (page : PageId) (p : KeptPage) (listed : Bool) → page_at kept page ≡ Some p
    → listed ≡ (has_visit_in_times (store_of kept) q p.page.id && history_holds (store_of kept) q p.page)
    → visits_part kept q p ≡ (if listed then visits_in_times kept q p (page_visits kept page) else [])
visits_if kept q page p listed at is =
    visits_listed kept q page p at
    ∙ ap (λ (b : Bool). if b then visits_in_times kept q p (page_visits kept page) else []) (sym is)

pub added_alike : (subject : Row → Subject) (store : Store) (sort : Sort) (old now : List Candidate)
    (rows others : List Row) → others ≡ rows → HasAdded subject store sort old now rows
    → HasAdded subject store sort old now others
added_alike subject store sort old now rows others same added =
    added ∙ ap (λ (rs : List Row). old ++ map (candidate_of subject store sort) rs) (sym same)

-- ---- bookmarks

pub mark_row_at : (kept : Kept) (item : ItemId) (page : PageId) (i : Item) (p : KeptPage)
    → item_at kept.items item ≡ Some i → page_at kept page ≡ Some p
    → row_at kept (Bookmark item page) ≡ Some (row_of_mark kept i p)
mark_row_at kept item page i p item_at_it page_at_it = rw (item_at_it, page_at_it) refl

pub mark_subject_is : (kept : Kept) (item : ItemId) (page : PageId) (i : Item) (p : KeptPage)
    → item_at kept.items item ≡ Some i → page_at kept page ≡ Some p
    → Bookmark item page ≡ mark_subject (row_of_mark kept i p)
mark_subject_is kept item page i p item_at_it page_at_it =
    ap (λ (id : ItemId). Bookmark id page)
    (sym (same_item i.id item (found_passes (λ (j : Item). j.id.0 == item.0) kept.items i item_at_it)))
    ∙ ap (λ (id : PageId). Bookmark i.id id) (sym (id_at kept page p page_at_it))

pub mark_subject_there : (kept : Kept) (page : PageId) (item : ItemId) (i : Item) → has_page kept page ≡ true
    → item_at kept.items item ≡ Some i → is_some (row_at kept (Bookmark item page)) ≡ true
mark_subject_there kept page item i there at =
    let row = row_there kept (OfPage page) (page_subject_there kept page there) in
    let r : IsPageRow kept page row.0 = page_row kept page row.0 row.1 in
    ap is_some (mark_row_at kept item page i r.p at r.page_is)

pub one_mark : (kept : Kept) (q : Query) (p : KeptPage) (i : Item) (wanted : Bool)
    → wanted ≡ is_wanted (store_of kept) q i
    → wanted_marks kept q p (i ∷ []) ≡ (if wanted then row_of_mark kept i p ∷ [] else [])
one_mark kept q p i wanted is = sym (choose wanted ∙ ap (λ (b : Bool). rows (if b then i ∷ [] else [])) is)
  where
    rows : List Item → List Row
    rows is = map (λ (j : Item). row_of_mark kept j p) is

    choose : (b : Bool) → (if b then row_of_mark kept i p ∷ [] else []) ≡ rows (if b then i ∷ [] else [])
    choose true = refl
    choose false = refl

marks-append : (kept : Kept) (q : Query) (p : KeptPage) (is js : List Item)
    → wanted_marks kept q p (is ++ js) ≡ wanted_marks kept q p is ++ wanted_marks kept q p js
marks-append kept q p is js =
    ap (map (λ (i : Item). row_of_mark kept i p)) (filter-append (is_wanted (store_of kept) q) is js)
    ∙ map-append (λ (i : Item). row_of_mark kept i p) (filter (is_wanted (store_of kept) q) is)
    (filter (is_wanted (store_of kept) q) js)

-- no item in front is wanted
abbrev pub NoneWanted : Store → Query → List Item → Type 0
NoneWanted store q front = list_any (is_wanted store q) front ≡ false

pub none_wanted_more : (store : Store) (q : Query) (front : List Item) (i : Item) → NoneWanted store q front
    → is_wanted store q i ≡ false → NoneWanted store q (front ++ i ∷ [])
none_wanted_more store q front i none not_it =
    list_any-append (is_wanted store q) front (i ∷ [])
    ∙ or_from (list_any (is_wanted store q) front) (is_wanted store q i || false) none
    (or_from (is_wanted store q i) false not_it refl)

-- the rows of the items in front, of whichever page it is, were added
abbrev pub HasMarks : Kept → Query → PageId → List Candidate → List Candidate → List Item → Type 0
HasMarks kept q page old now front =
    (p : KeptPage) → page_at kept page ≡ Some p
    → HasAdded mark_subject (store_of kept) q.sort old now (wanted_marks kept q p front)

pub marks_more : (kept : Kept) (q : Query) (page : PageId) (old now new : List Candidate) (front : List Item)
    (i : Item) → HasMarks kept q page old now front
    → ((p : KeptPage) → page_at kept page ≡ Some p
    → HasAdded mark_subject (store_of kept) q.sort now new (wanted_marks kept q p (i ∷ [])))
    → HasMarks kept q page old new (front ++ i ∷ [])
marks_more kept q page old now new front i so_far one p at =
    added_more mark_subject (store_of kept) q.sort old now new (wanted_marks kept q p front)
    (wanted_marks kept q p (i ∷ [])) (wanted_marks kept q p (front ++ i ∷ [])) (so_far p at) (one p at)
    (marks-append kept q p front (i ∷ []))

-- a page without a bookmark that is wanted has no rows
pub marks_unwanted : (kept : Kept) (q : Query) (page : PageId) (p : KeptPage) → page_at kept page ≡ Some p
    → list_any (is_wanted (store_of kept) q) (having kept.items page) ≡ false → marks_part kept q p ≡ []
marks_unwanted kept q page p at none = choose (page_holds (store_of kept) q p.page)
  where
    choose : (b : Bool)
        → (if b then wanted_marks kept q p (having kept.items p.page.id) else []) ≡ []
    choose true =
        ap (map (λ (i : Item). row_of_mark kept i p))
        (none_kept (is_wanted (store_of kept) q) (having kept.items p.page.id)
        (ap (λ (id : PageId). list_any (is_wanted (store_of kept) q) (having kept.items id)) (id_at kept page p at)
        ∙ none))
    choose false = refl

pub marks_if : (kept : Kept) (q : Query) (page : PageId) (p : KeptPage) (holds : Bool) → page_at kept page ≡ Some p
    → holds ≡ page_holds (store_of kept) q p.page
    → marks_part kept q p ≡ (if holds then wanted_marks kept q p (having kept.items page) else [])
marks_if kept q page p holds at is =
    ap (λ (b : Bool). if b then wanted_marks kept q p (having kept.items p.page.id) else []) (sym is)
    ∙ ap (λ (id : PageId). if holds then wanted_marks kept q p (having kept.items id) else []) (id_at kept page p at)

-- whether an item is wanted, by what is asked of it in turn
pub entry_unwanted : (store : Store) (q : Query) (i : Item) → is_tag_entry store i.id ≡ true
    → false ≡ is_wanted store q i
entry_unwanted store q i entry =
    ap (λ (e : Bool). not e && in_times store q i.added && is_in_parents store q.parents i) (sym entry)

pub wanted_by : (store : Store) (q : Query) (i : Item) (within among : Bool) → is_tag_entry store i.id ≡ false
    → within ≡ in_times store q i.added → among ≡ is_in_parents store q.parents i
    → (within && among) ≡ is_wanted store q i
wanted_by store q i within among entry times parents =
    ap (λ (b : Bool). b && among) times ∙ ap (λ (b : Bool). in_times store q i.added && b) parents
    ∙ ap (λ (e : Bool). not e && in_times store q i.added && is_in_parents store q.parents i) (sym entry)

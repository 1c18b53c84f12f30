-- Rows that may be answered, as they are collected and put in order.
use Rattle.std.specs.Prelude.{ℕ, ◌&&◌, not, Bool, List, [], ◌∷◌, map, if◌then◌else◌}
use Rattle.std.specs.List.{filter, flat_map}
use Rattle.std.specs.Ordering.{int_cmp, is_lt, nat_cmp, ordering_reverse, ordering_then}
use Rattle.std.specs.declared.cmp.Ordering.{Ordering}
use Rattle.pl_base.specs.Fold.{folded}
use Rattle.pl_base.specs.Frecency.{frecency_of}
use Rattle.pl_base.specs.Marks.{visit_count}
use Rattle.pl_base.specs.Rows.{Kept, KeptPage, page_visits, store_of}
use Rattle.pl_base.specs.Store.{Item, Store, Visit}
use Rattle.pl_base.specs.Tags.{is_tag_entry, tag_text}
use Rattle.pl_base.specs.Tree.{is_page}
use Rattle.pl_place.specs.declared.kinds.QueryType.{QueryType}
use Rattle.pl_place.specs.declared.kinds.QueryType.TheVariants.{History, Bookmarks}
use Rattle.pl_place.specs.declared.kinds.ResultType.{ResultType}
use Rattle.pl_place.specs.declared.kinds.ResultType.TheVariants.{Pages, Visits}
use Rattle.pl_place.specs.declared.query.Query.{Query}
use Rattle.pl_place.specs.declared.sort.Direction.TheVariants.{Ascending, Descending}
use Rattle.pl_place.specs.declared.sort.Sort.{Sort}
use Rattle.pl_place.specs.declared.sort.Sort.TheVariants.{Unsorted, By}
use Rattle.pl_place.specs.declared.sort.SortKey.{SortKey}
use Rattle.pl_place.specs.declared.sort.SortKey.TheVariants.{Title, Date, Url, VisitCount}
use Rattle.pl_place.specs.declared.sort.SortKey.TheVariants.{Added, Modified, Tags, Frecency}
use Rattle.pl_query.specs.declared.ordering.Candidate.{Candidate}
use Rattle.pl_query.specs.declared.ordering.SortValue.{SortValue}
use Rattle.pl_query.specs.declared.ordering.SortValue.TheVariants.{Nothing, Text, Moment}
use Rattle.pl_query.specs.declared.ordering.SortValue.TheVariants.{Number, Score}
use Rattle.pl_query.specs.declared.shown.Subject.{Subject}
use Rattle.pl_query.specs.declared.shown.Subject.TheVariants.{Page, Visit as OfVisit, Bookmark}
use Rattle.pl_conditions.specs.Conditions.{history_holds, in_times, is_in_parents, page_holds}
use Rattle.pl_query.specs.Order.{Row, date_cmp, text_cmp}
use Rattle.pl_query.specs.QueryAnswer.{has_visit_in_times}
use Rattle.pl_query.specs.Subjects.{row_of_mark, row_of_page, row_of_visit, subject_id}

-- ---- what rows are sorted by

-- the value of a row by a key
abbrev pub key_value : Store → SortKey → Row → SortValue
key_value store Title row = Text (folded row.title)
key_value store Date row = Moment row.date
key_value store Url row = Text row.page.url
key_value store VisitCount row = Number (visit_count store row.page.id)
key_value store Added row = Number row.added
key_value store Modified row = Number row.modified
key_value store Tags row = Text (folded (tag_text store row.page.id))
key_value store Frecency row = Score (frecency_of store row.page)

-- what a row is sorted by
abbrev pub sort_value : Store → Sort → Row → SortValue
sort_value store Unsorted row = Nothing
sort_value store (By key direction) row = key_value store key row

-- kinds of values in an order of their own
abbrev kind_of : SortValue → ℕ
kind_of Nothing = 0
kind_of (Text text) = 1
kind_of (Moment date) = 2
kind_of (Number n) = 3
kind_of (Score z) = 4

-- the order of values; those of one key are of one kind
abbrev pub value_cmp : SortValue → SortValue → Ordering
value_cmp (Text a) (Text b) = text_cmp a b
value_cmp (Moment a) (Moment b) = date_cmp a b
value_cmp (Number a) (Number b) = nat_cmp a b
value_cmp (Score a) (Score b) = int_cmp a b
value_cmp a b = nat_cmp (kind_of a) (kind_of b)

-- the order of ids
abbrev pub id_cmp : Candidate → Candidate → Ordering
id_cmp a b = nat_cmp (subject_id a.subject) (subject_id b.subject)

-- how two candidates stand: by their values in the direction, and by ascending id where these are
-- alike
abbrev pub candidate_cmp : Sort → Candidate → Candidate → Ordering
candidate_cmp Unsorted a b = ordering_then (value_cmp a.value b.value) (id_cmp a b)
candidate_cmp (By key Ascending) a b = ordering_then (value_cmp a.value b.value) (id_cmp a b)
candidate_cmp (By key Descending) a b =
    ordering_then (ordering_reverse (value_cmp a.value b.value)) (id_cmp a b)

-- a candidate comes before another
abbrev pub goes_before : Sort → Candidate → Candidate → Bool
goes_before sort a b = is_lt (candidate_cmp sort a b)

-- ---- the rows of one page

-- what a row of each kind is of
abbrev pub page_subject : Row → Subject
page_subject row = Page (record { 0 = row.id })

abbrev pub visit_subject : Row → Subject
visit_subject row = OfVisit (record { 0 = row.id }) row.page.id

abbrev pub mark_subject : Row → Subject
mark_subject row = Bookmark (record { 0 = row.id }) row.page.id

abbrev pub subject_of : QueryType → ResultType → Row → Subject
subject_of History Pages row = page_subject row
subject_of History Visits row = visit_subject row
subject_of Bookmarks result_type row = mark_subject row

-- the candidate of a row
abbrev pub candidate_of : (Row → Subject) → Store → Sort → Row → Candidate
candidate_of subject store sort row =
    record { subject = subject row; value = sort_value store sort row }

-- the page's row, if it is answered
abbrev pub page_part : Kept → Query → KeptPage → List Row
page_part kept q p =
    if has_visit_in_times (store_of kept) q p.page.id && history_holds (store_of kept) q p.page
    then row_of_page kept p ∷ [] else []

-- the rows of these visits of a page that lie within the times
abbrev pub visits_in_times : Kept → Query → KeptPage → List Visit → List Row
visits_in_times kept q p visits =
    map (λ (v : Visit). row_of_visit kept v p)
    (filter (λ (v : Visit). in_times (store_of kept) q v.date) visits)

-- the rows of the page's visits, the latest first
abbrev pub visits_part : Kept → Query → KeptPage → List Row
visits_part kept q p =
    if history_holds (store_of kept) q p.page
    then visits_in_times kept q p (page_visits kept p.page.id) else []

-- the item is a bookmark that was added within the times, and is in one of the folders
abbrev pub is_wanted : Store → Query → Item → Bool
is_wanted store q i =
    not (is_tag_entry store i.id) && in_times store q i.added && is_in_parents store q.parents i

-- the rows of these items of a page that are wanted
abbrev pub wanted_marks : Kept → Query → KeptPage → List Item → List Row
wanted_marks kept q p items =
    map (λ (i : Item). row_of_mark kept i p) (filter (is_wanted (store_of kept) q) items)

-- the rows of the page's bookmarks
abbrev pub marks_part : Kept → Query → KeptPage → List Row
marks_part kept q p =
    if page_holds (store_of kept) q p.page
    then wanted_marks kept q p (filter (λ (i : Item). is_page p.page.id i.page) kept.items) else []

-- the rows of a page, of the kind that is asked for
abbrev pub part_of : QueryType → ResultType → Kept → Query → KeptPage → List Row
part_of History Pages kept q p = page_part kept q p
part_of History Visits kept q p = visits_part kept q p
part_of Bookmarks result_type kept q p = marks_part kept q p

-- the rows of these pages
abbrev pub parts_of : QueryType → ResultType → Kept → Query → List KeptPage → List Row
parts_of query_type result_type kept q pages =
    flat_map (part_of query_type result_type kept q) pages

-- Bookmarks that are found, what they are sorted by, and the rows that they are of.
use Rattle.std.specs.Prelude.{◌≡◌, ◌++◌, List, map, Some}
use Rattle.std.specs.List.{All}
use Rattle.pl_base.specs.declared.view.View.{View}
use Rattle.pl_base.specs.Fold.{folded}
use Rattle.pl_base.specs.Rows.{Kept, KeptPage, page_at, store_of}
use Rattle.pl_base.specs.Store.{Item}
use Rattle.pl_base.specs.View.{IsViewOf}
use Rattle.pl_place.specs.declared.query.Query.{Query}
use Rattle.pl_place.specs.declared.sort.Sort.{Sort}
use Rattle.pl_place.specs.declared.sort.Sort.TheVariants.{Unsorted, By}
use Rattle.pl_place.specs.declared.sort.SortKey.{SortKey}
use Rattle.pl_place.specs.declared.sort.SortKey.TheVariants.{Title, Date, Url, VisitCount}
use Rattle.pl_place.specs.declared.sort.SortKey.TheVariants.{Added, Modified, Tags, Frecency}
use Rattle.pl_query.specs.declared.ordering.Candidate.{Candidate}
use Rattle.pl_query.specs.declared.ordering.SortValue.{SortValue}
use Rattle.pl_query.specs.declared.ordering.SortValue.TheVariants as values
use Rattle.pl_query.specs.declared.shown.Subject.{Subject}
use Rattle.pl_query.specs.declared.shown.Subject.TheVariants.{Bookmark}
use Rattle.pl_query.specs.Candidates.{candidate_of, mark_subject}
use Rattle.pl_query.specs.Order.{Row}
use Rattle.pl_marked.specs.declared.found.Found.{Found}
use Rattle.pl_marked.specs.declared.found.Key.{Key}
use Rattle.pl_marked.specs.declared.found.Key.TheVariants.{Nothing, Text, Moment, Number, Score}

-- ---- what bookmarks are sorted by

-- the value by a key of a bookmark, to whose page the view belongs
abbrev pub key_value : SortKey → View → Item → Key
key_value Title view i = Text (folded i.title)
key_value Date view i = Moment view.last
key_value Url view i = Text view.url
key_value VisitCount view i = Number view.count
key_value Added view i = Number i.added.0
key_value Modified view i = Number i.modified.0
key_value Tags view i = Text (folded view.tags)
key_value Frecency view i = Score view.frecency

-- what the bookmark is sorted by
abbrev pub key_of : Sort → View → Item → Key
key_of Unsorted view i = Nothing
key_of (By key direction) view i = key_value key view i

-- a key as the value of a row
abbrev pub value_of : Key → SortValue
value_of Nothing = values.Nothing
value_of (Text text) = values.Text text
value_of (Moment date) = values.Moment date
value_of (Number n) = values.Number n
value_of (Score z) = values.Score z

-- ---- what is found

-- what the row is of
abbrev pub subject_found : Found → Subject
subject_found f = Bookmark f.item f.view.now.id

-- as rows are put in order
abbrev pub found_candidate : Found → Candidate
found_candidate f = record { subject = subject_found f; value = value_of f.key }

-- the bookmarks that are found are those of these rows, in their order
abbrev pub AreFound : Kept → Query → List Row → List Found → Type 0
AreFound kept q rows found =
    map found_candidate found ≡ map (candidate_of mark_subject (store_of kept) q.sort) rows

-- those of these rows joined the others
abbrev pub AreAdded : Kept → Query → List Found → List Found → List Row → Type 0
AreAdded kept q old new rows =
    map found_candidate new
    ≡ map found_candidate old ++ map (candidate_of mark_subject (store_of kept) q.sort) rows

-- the view is that of the page with its id
abbrev pub IsOwnView : Kept → View → Type 0
IsOwnView kept view =
    (p : KeptPage) → page_at kept view.id ≡ Some p → IsViewOf (store_of kept) p.page view

-- each bookmark has the view of its page
abbrev pub HaveViews : Kept → List Found → Type 0
HaveViews kept found = All (λ (f : Found). IsOwnView kept f.view.now) found

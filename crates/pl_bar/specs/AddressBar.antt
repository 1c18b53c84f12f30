-- The pages that the address bar offers for a text.
use Rattle.std.specs.Prelude.{ℕ, pos, ◌==◌, ◌&&◌, ◌||◌, not, Bool, true, false, List, ◌++◌}
use Rattle.std.specs.Prelude.{length, take, int_lt, nat_lt, if◌then◌else◌}
use Rattle.std.specs.List.{filter, list_all}
use Rattle.std.specs.Ordering.{int_eq}
use Rattle.pl_base.specs.Fold.{folded}
use Rattle.pl_base.specs.Frecency.{frecency_of}
use Rattle.pl_base.specs.Marks.{visit_count}
use Rattle.pl_base.specs.Sorting.{sorted_by}
use Rattle.pl_base.specs.Store.{Store, Page}
use Rattle.pl_base.specs.Tags.{is_bookmarked, is_tagged, tag_text}
use Rattle.pl_base.specs.View.{mark_title}
use Rattle.pl_words.specs.Bar.{marks_of, words_of}
use Rattle.pl_words.specs.Pieces.{found, in_address}
use Rattle.pl_words.specs.declared.bar_text.Marks.{Marks}

-- ---- which pages

-- a page whose frecency is not 0, so -1 counts, and which the marks keep; hidden pages too
abbrev pub is_candidate : Store → Marks → Page → Bool
is_candidate store marks p =
    not (int_eq (frecency_of store p) (pos 0))
    && (not marks.history || nat_lt 0 (visit_count store p.id))
    && (not marks.bookmark || is_bookmarked store p.id)
    && (not marks.tag || is_tagged store p.id)

-- the title that is searched: that of the page's freshest bookmark, or else the page's own
abbrev pub searched_title : Store → Page → List ℕ
searched_title store p =
    if length (mark_title store p.id) == 0 then p.title else mark_title store p.id

-- the word stands in the title or the tags, on a boundary where that is asked
abbrev pub in_title : Store → Bool → Page → List ℕ → Bool
in_title store boundary p word =
    found boundary word (folded (searched_title store p))
    || found boundary word (folded (tag_text store p.id))

-- the word stands where the marks ask for it: in the title or the tags, in the address, in both, or
-- anywhere
abbrev pub word_matches : Store → Marks → Bool → Page → List ℕ → Bool
word_matches store marks boundary p word =
    if marks.title && marks.address
    then in_title store boundary p word && in_address boundary word p.url else
    if marks.title then in_title store boundary p word else
    if marks.address then in_address boundary word p.url else
    in_title store boundary p word || in_address boundary word p.url

-- each of the words does
abbrev pub all_match : Store → Marks → List (List ℕ) → Bool → Page → Bool
all_match store marks words boundary p = list_all (word_matches store marks boundary p) words

-- ---- in which order

-- a page has the greater frecency, or the same and the greater id
abbrev pub ranks_before : Store → Page → Page → Bool
ranks_before store p q =
    int_lt (frecency_of store q) (frecency_of store p)
    || (int_eq (frecency_of store p) (frecency_of store q) && nat_lt q.id.0 p.id.0)

-- the candidates
abbrev pub candidates : Store → Marks → List Page
candidates store marks = filter (is_candidate store marks) store.pages

-- those whose every word stands on a boundary
abbrev pub first_tier : Store → Marks → List (List ℕ) → List Page
first_tier store marks words =
    filter (all_match store marks words true) (candidates store marks)

-- the others whose every word stands anywhere
abbrev pub second_tier : Store → Marks → List (List ℕ) → List Page
second_tier store marks words =
    filter (λ (p : Page). all_match store marks words false p
    && not (all_match store marks words true p)) (candidates store marks)

-- the first tier, and behind it the second, each by its ranks
abbrev pub tiers : Store → Marks → List (List ℕ) → List Page
tiers store marks words =
    sorted_by (ranks_before store) (first_tier store marks words)
    ++ sorted_by (ranks_before store) (second_tier store marks words)

-- the pages that are offered for a text, so many at the most
abbrev pub offered : Store → List ℕ → ℕ → List Page
offered store text most =
    take most (tiers store (marks_of (folded text)) (words_of (folded text)))

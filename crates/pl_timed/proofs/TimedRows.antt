-- The pages with visits within the times of a query are those of its answer.
use Rattle.std.proofs.Common.{◌≡◌, ◌≢◌, ◌∙◌, ◌<◌, ◌==◌, ◌&&◌, ◌||◌, ℕ, Bool, true, false, List, [], ◌∷◌, None}
use Rattle.std.proofs.Common.{filter, get_or, is_some, length, map, refl, subst, sym}
use Rattle.std.specs.List.{AllByRecursion, AllPairs, Contains, list_any}
use Rattle.std.proofs.lemmas.Bool.{false≢true}
use Rattle.std.proofs.lemmas.List.Elements.{All-from_recursion}
use Rattle.std.proofs.lemmas.List.Kept.{AllPairs-filter}
use Rattle.pl_base.specs.declared.id.PageId.{PageId}
use Rattle.pl_base.specs.declared.view.View.{View}
use Rattle.pl_base.specs.Good.{IsGood}
use Rattle.pl_base.specs.Marks.{last_date_of}
use Rattle.pl_base.specs.Store.{Page, Store, Visit}
use Rattle.pl_base.specs.View.{AreViewsOf, IsViewOf}
use Rattle.pl_conditions.specs.Conditions.{history_holds, in_times}
use Rattle.pl_dated.proofs.DatedPages.{IsOfPage}
use Rattle.pl_dated.proofs.UntimedQuery.{decides_visited, untimed}
use Rattle.pl_follow.specs.Changes.{AreInOrder}
use Rattle.pl_indexed.specs.declared.found.Found.{Found}
use Rattle.pl_indexed.specs.Answer.{first_asked, row_of_view}
use Rattle.pl_indexed.specs.Found.{AreFound}
use Rattle.pl_indexed.proofs.FoundOrder.{found_apart}
use Rattle.pl_indexed.proofs.PagesTold.{told_by}
use Rattle.pl_indexed.proofs.WalkOrder.{ids_differ}
use Rattle.pl_place.specs.declared.query.Query.{Query}
use Rattle.pl_query.specs.QueryAnswer.{answer, has_visit_in_times, told_row}
use Rattle.pl_query.proofs.ViewsDecide.{last_told}
use Rattle.pl_timed.specs.Timed.{AsksForTimed, takes}

-- a visit to the page within the times
abbrev is_timed : Store → Query → PageId → Visit → Bool
is_timed store q page v = (v.page.0 == page.0) && in_times store q v.date

-- a page with a visit within the times of one query has one for a query without times
any_visit : (store : Store) (q r : Query) (page : PageId) → r.begin_time ≡ None → r.end_time ≡ None
    → has_visit_in_times store q page ≡ true → has_visit_in_times store r page ≡ true
any_visit store q r page begin end = over store.visits
  where
    within : (v : Visit) → in_times store r v.date ≡ true
    within v = rw (begin, end) refl

    over : (visits : List Visit) → list_any (is_timed store q page) visits ≡ true
        → list_any (is_timed store r page) visits ≡ true
    over [] some = some
    over (v ∷ visits) some =
        choose (v.page.0 == page.0) (in_times store q v.date) (in_times store r v.date)
        (list_any (is_timed store q page) visits) (list_any (is_timed store r page) visits) (within v) (over visits) some
      where
        choose : (a b c d e : Bool) → c ≡ true → (d ≡ true → e ≡ true) → ((a && b) || d) ≡ true
            → ((a && c) || e) ≡ true
        choose true b true d e is on some = refl
        choose true b false d e is on some = absurd (cc)
        choose false b c d e is on some = on some

visited : (store : Store) (q : Query) (page : PageId) → has_visit_in_times store q page ≡ true
    → is_some (last_date_of store page) ≡ true
visited store q page some =
    last_told store (untimed q) page refl refl ∙ any_visit store q (untimed q) page refl refl some

pub takes_told : (store : Store) (q : Query) (p : Page) (v : View) → AsksForTimed q → IsGood store
    → Contains store.pages p → IsViewOf store p v
    → takes store q v ≡ (has_visit_in_times store q p.id && history_holds store q p)
takes_told store q p v asks good among is =
    rw (decides_visited store q p v asks.transitions asks.parents good among is, is.id)
    (regrouped (is_some (last_date_of store p.id)) (history_holds store q p) (has_visit_in_times store q p.id)
    (visited store q p.id))
  where
    regrouped : (last holds timed : Bool) → (timed ≡ true → last ≡ true)
        → ((last && holds) && timed) ≡ (timed && holds)
    regrouped true true true some = refl
    regrouped true true false some = refl
    regrouped true false true some = refl
    regrouped true false false some = refl
    regrouped false holds true some = absurd (false≢true (some refl))
    regrouped false holds false some = refl

-- each view has the date of the latest visit
pub latest_known : (store : Store) (views gone_over : List View) (k : ℕ) (v : View)
    → AllByRecursion (IsOfPage store) views → gone_over ≡ views → k < length gone_over → v ≡ get_or gone_over k v
    → v.last ≡ last_date_of store v.id
latest_known store views gone_over k v of same within is =
    subst (IsOfPage store) (sym is)
    (All-from_recursion (IsOfPage store) gone_over (subst (AllByRecursion (IsOfPage store)) (sym same) of) k v within)

-- what is told of them is the answer
pub timed_told : (store : Store) (q : Query) (views : List View) → AsksForTimed q → IsGood store
    → AreViewsOf store views
    → map row_of_view (first_asked q (filter (takes store q) views)) ≡ map (told_row store) (answer store q)
timed_told store q views asks good of =
    told_by store q views (takes store q) (record { pages = asks.pages; undated = asks.undated }) of
    (λ p v among is. takes_told store q p v asks good among is)

-- no two of them are one
pub taken_apart : (store : Store) (q : Query) (views : List View) (found : List Found) → AreInOrder views
    → AreFound q.sort (filter (takes store q) views) found
    → AllPairs (λ (a b : Found). a.view.now.id.0 ≢ b.view.now.id.0) found
taken_apart store q views found ordered are =
    found_apart q.sort (filter (takes store q) views) found are
    (AllPairs-filter (λ (v w : View). v.id.0 ≢ w.id.0) (takes store q) views (ids_differ views ordered))

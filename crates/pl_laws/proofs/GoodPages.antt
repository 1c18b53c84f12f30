-- What a store keeps of a good one on another day, with a page or a visit more, with a title, and
-- without some visits.
use Rattle.std.proofs.Common.{◌≡◌, ◌≢◌, ◌<◌, ◌+◌, ◌++◌, ◌==◌, ◌||◌, ◌∙◌, ℕ, All, Bool, true, false, IsTrue}
use Rattle.std.proofs.Common.{List, [], ◌∷◌, Option, Some, None, ap, arith, bytes_eq, eq-eqb, filter, get_or}
use Rattle.std.proofs.Common.{if◌then◌else◌, is_none, is_some, map, not, refl, sym}
use Rattle.std.specs.List.{AllByRecursion, AllPairs, list_any}
use Rattle.std.specs.Option.{IfSome}
use Rattle.std.proofs.lemmas.Bool.{false_from_ne_true, false≢true, ne_eqb, or_left}
use Rattle.std.proofs.lemmas.List.Elements.{All-filter, All-from_recursion, All-map, All-push, All-weaker}
use Rattle.std.proofs.lemmas.List.Quantifiers.{all_pairs_push}
use Rattle.std.proofs.lemmas.Slice.Eq.{bytes_eq-Decides}
use Rattle.std.proofs.lemmas.Str.{IsUtf8-nil}
use Rattle.pl_base.specs.declared.date.Day.{Day}
use Rattle.pl_base.specs.declared.date.Micros.{Micros}
use Rattle.pl_base.specs.declared.id.PageId.{PageId}
use Rattle.pl_base.specs.declared.id.VisitId.{VisitId}
use Rattle.pl_base.specs.declared.transition.Transition.{Transition}
use Rattle.pl_base.specs.declared.transition.Transition.TheVariants.{Typed}
use Rattle.pl_base.specs.Address.{canon}
use Rattle.pl_base.specs.Date.{IsDate, IsDay}
use Rattle.pl_base.specs.Days.{on_day}
use Rattle.pl_base.specs.Good.{IsTitle, end_of_ids}
use Rattle.pl_base.specs.Marks.{is_typed}
use Rattle.pl_base.specs.Removal.{is_among, source_left, visit_left, visits_left}
use Rattle.pl_base.specs.Store.{Page, Store, Visit}
use Rattle.pl_base.specs.Visiting.{find_page, new_page, new_visit, visit_page, visited_page, visited_store}
use Rattle.pl_base.specs.Visiting.{with_page_for}
use Rattle.pl_base.proofs.ListLaws.{AllPairs-map, found_in, list_any-alike, list_any-map, list_any_push, weaker}
use Rattle.pl_base.proofs.LookUps.{none_pass}
use Rattle.pl_history.proofs.GoodRows.{items_still}
use Rattle.pl_history.proofs.VisitedPages.{typed_by}
use Rattle.pl_history.proofs.VisitRows.{grown_store}
use Rattle.pl_history.proofs.VisitsLeft.{Keeps, any_left}
use Rattle.pl_step.specs.Step.{title_page}
use Rattle.pl_laws.proofs.GoodIds.{are_ids, each_below, numbered, one_below, one_more, some_changed, some_left}
use Rattle.pl_laws.proofs.GoodParts.{IsLoose, IsMade, IsRow, has_page, has_visit}

-- ---- the day

pub loose_day : (store : Store) (day : Day) → IsLoose store → IsDay day → IsLoose (on_day day store)
loose_day store day l is =
    record {
      day = is;
      page_ids = l.page_ids;
      visit_ids = l.visit_ids;
      item_ids = l.item_ids;
      rows = l.rows;
      urls = l.urls;
      visits = l.visits;
      items = items_still store (on_day day store) refl (λ id there. there) l.items;
    }

-- ---- pages that change and keep their ids and URLs

has_changed : (change : Page → Page) → ((p : Page) → (change p).id ≡ p.id) → (pages : List Page) (id : PageId)
    → IsTrue (has_page id pages) → IsTrue (has_page id (map change pages))
has_changed change same pages id there =
    list_any-map (λ (p : Page). p.id.0 == id.0) change pages
    ∙ list_any-alike (λ (p : Page). (change p).id.0 == id.0) (λ (p : Page). p.id.0 == id.0) pages
    (λ p. ap (λ (i : PageId). i.0 == id.0) (same p))
    ∙ there

urls_changed : (change : Page → Page) → ((p : Page) → (change p).url ≡ p.url) → (pages : List Page)
    → AllPairs (λ (p q : Page). p.url ≢ q.url) pages → AllPairs (λ (p q : Page). p.url ≢ q.url) (map change pages)
urls_changed change same pages apart =
    AllPairs-map (λ (p q : Page). p.url ≢ q.url) change pages
    (λ i j d before within alike.
    apart i j d before within (sym (same (get_or pages i d)) ∙ alike ∙ same (get_or pages j d)))

-- a visit among other pages and visits
made_still : (pages news : List Page) (visits more : List Visit) (v : Visit)
    → ((id : PageId) → IsTrue (has_page id pages) → IsTrue (has_page id news))
    → ((id : VisitId) → IsTrue (has_visit id visits) → IsTrue (has_visit id more)) → IsMade pages visits v
    → IsMade news more v
made_still pages news visits more v paged visited made =
    record { date = made.date; page = paged v.page made.page; source = choose v.source made.source }
  where
    choose : (source : Option VisitId) → IfSome source (λ id. (id.0 < v.id.0) × IsTrue (has_visit id visits))
        → IfSome source (λ id. (id.0 < v.id.0) × IsTrue (has_visit id more))
    choose None there = tt
    choose (Some id) there = (there.0, visited id there.1)

-- ---- a title

pub loose_title : (store : Store) (url title : List ℕ) → IsLoose store → IsTitle title
    → IsLoose (record store { pages = map (title_page url title) store.pages })
loose_title store url title l named =
    record {
      day = l.day;
      page_ids =
          some_changed (λ (p : Page). p.id.0) 1 store.ids.page store.pages l.page_ids (title_page url title)
          (λ p. ap (λ (i : PageId). i.0) (same_id p));
      visit_ids = l.visit_ids;
      item_ids = l.item_ids;
      rows =
          All-map (IsRow store.visits) (title_page url title) store.pages
          (λ k d within. titled (get_or store.pages k d) (bytes_eq (get_or store.pages k d).url url)
          (l.rows k d within));
      urls = urls_changed (title_page url title) same_url store.pages l.urls;
      visits =
          All-weaker (IsMade store.pages store.visits) (IsMade news store.visits)
          (λ v made. made_still store.pages news store.visits store.visits v paged (λ id there. there) made)
          store.visits l.visits;
      items = items_still store (record store { pages = news }) refl paged l.items;
    }
  where
    news : List Page
    news = map (title_page url title) store.pages

    same_id : (p : Page) → (title_page url title p).id ≡ p.id
    same_id p = choose (bytes_eq p.url url)
      where
        choose : (b : Bool) → (if b then record p { title = title } else p).id ≡ p.id
        choose true = refl
        choose false = refl

    same_url : (p : Page) → (title_page url title p).url ≡ p.url
    same_url p = choose (bytes_eq p.url url)
      where
        choose : (b : Bool) → (if b then record p { title = title } else p).url ≡ p.url
        choose true = refl
        choose false = refl

    titled : (p : Page) (b : Bool) → IsRow store.visits p
        → IsRow store.visits (if b then record p { title = title } else p)
    titled p true row = record { url = row.url; title = named; typed = row.typed }
    titled p false row = row

    paged : (id : PageId) → IsTrue (has_page id store.pages) → IsTrue (has_page id news)
    paged = has_changed (title_page url title) same_id store.pages

-- ---- a page more

-- no page has the URL where none is found by it
none_with : (url : List ℕ) (pages : List Page) → find_page url pages ≡ None → All (λ (p : Page). p.url ≢ url) pages
none_with url pages none =
    All-from_recursion (λ (p : Page). p.url ≢ url) pages
    (weaker (λ (p : Page). bytes_eq p.url url ≡ false) (λ (p : Page). p.url ≢ url) pages
    (λ p other same. false≢true (sym other ∙ (bytes_eq-Decides p.url url).1 same))
    (none_pass (λ (p : Page). bytes_eq p.url url) pages
    (false_from_ne_true (list_any (λ (p : Page). bytes_eq p.url url) pages)
    (λ some. false≢true (sym (ap is_some none) ∙ found_in (λ (p : Page). bytes_eq p.url url) pages some)))))

module _ (store : Store) (url : List ℕ) (l : IsLoose store) (is_url : canon url ≡ Some url) where
  abbrev more : Store
  more = grown_store store url

  paged : (id : PageId) → IsTrue (has_page id store.pages) → IsTrue (has_page id more.pages)
  paged id there = list_any_push (λ (p : Page). p.id.0 == id.0) store.pages (new_page store url) there

  -- no visit has the next page
  untyped : All (λ (v : Visit). v.page ≡ (new_page store url).id → v.transition ≡ Typed → IsTrue false) store.visits
  untyped k d within of by =
      let below : (get_or store.visits k d).page.0 < store.ids.page =
      one_below (λ (p : Page). p.id.0) store.ids.page (get_or store.visits k d).page.0 store.pages
      (each_below (λ (p : Page). p.id.0) 1 store.ids.page store.pages l.page_ids) (l.visits k d within).page in
      absurd (omega (arith, below, ap (λ (i : PageId). i.0) of))

  loose_more : find_page url store.pages ≡ None → IsLoose more
  loose_more none =
      record {
        day = l.day;
        page_ids =
            one_more (λ (p : Page). p.id.0) 1 store.ids.page store.pages l.page_ids (new_page store url) refl
            l.page_ids.next_first;
        visit_ids = l.visit_ids;
        item_ids = l.item_ids;
        rows =
            All-push (IsRow store.visits) store.pages (new_page store url) l.rows
            (record { url = is_url; title = (IsUtf8-nil, omega arith); typed = untyped });
        urls =
            all_pairs_push (λ (p q : Page). p.url ≢ q.url) store.pages (new_page store url) l.urls
            (none_with url store.pages none);
        visits =
            All-weaker (IsMade store.pages store.visits) (IsMade more.pages store.visits)
            (λ v made. made_still store.pages more.pages store.visits store.visits v paged (λ id there. there) made)
            store.visits l.visits;
        items = items_still store more refl paged l.items;
      }

  pub loose_page : IsLoose (with_page_for store url)
  loose_page = choose (find_page url store.pages) refl
    where
      choose : (o : Option Page) → find_page url store.pages ≡ o
          → IsLoose (if is_none o then grown_store store url else store)
      choose None none = loose_more none
      choose (Some p) found = l

-- ---- a visit more

module _ (store : Store) (page : PageId) (transition : Transition) (date : Micros) (source : Option VisitId)
    (l : IsLoose store) where
  abbrev visit : Visit
  visit = new_visit store page transition date source

  abbrev change : Page → Page
  change = visit_page page transition

  abbrev after : Store
  after = visited_store page transition date source store

  same_id : (p : Page) → (change p).id ≡ p.id
  same_id p = choose (p.id.0 == page.0)
    where
      choose : (b : Bool) → (if b then visited_page transition p else p).id ≡ p.id
      choose true = refl
      choose false = refl

  same_url : (p : Page) → (change p).url ≡ p.url
  same_url p = choose (p.id.0 == page.0)
    where
      choose : (b : Bool) → (if b then visited_page transition p else p).url ≡ p.url
      choose true = refl
      choose false = refl

  -- a page of the visit is typed where the visit was
  row_after : (p : Page) → IsRow store.visits p → IsRow after.visits (change p)
  row_after p row = choose (p.id.0 == page.0) refl
    where
      choose : (b : Bool) → (p.id.0 == page.0) ≡ b
          → IsRow (store.visits ++ visit ∷ []) (if b then visited_page transition p else p)
      choose true is =
          record {
            url = row.url;
            title = row.title;
            typed =
                All-push (λ (v : Visit). v.page ≡ p.id → v.transition ≡ Typed
                → IsTrue (p.typed || is_typed transition)) store.visits visit
                (λ k d within of by. or_left p.typed (is_typed transition) (row.typed k d within of by))
                (λ of by. typed_by transition p.typed by);
          }
      choose false is =
          record {
            url = row.url;
            title = row.title;
            typed =
                All-push (λ (v : Visit). v.page ≡ p.id → v.transition ≡ Typed → IsTrue p.typed) store.visits visit
                row.typed
                (λ of by. absurd (false≢true
                (sym is ∙ eq-eqb p.id.0 page.0 (ap (λ (i : PageId). i.0) (sym of)))));
          }

  visited : (id : VisitId) → IsTrue (has_visit id store.visits) → IsTrue (has_visit id after.visits)
  visited id there = list_any_push (λ (v : Visit). v.id.0 == id.0) store.visits visit there

  -- a source that is there is an earlier visit
  earlier : (from : Option VisitId) → IfSome from (λ id. IsTrue (has_visit id store.visits))
      → IfSome from (λ id. (id.0 < store.ids.visit) × IsTrue (has_visit id after.visits))
  earlier None there = tt
  earlier (Some id) there = (
    one_below (λ (v : Visit). v.id.0) store.ids.visit id.0 store.visits
        (each_below (λ (v : Visit). v.id.0) 1 store.ids.visit store.visits
        (numbered 1 store.ids.visit (map (λ (v : Visit). v.id.0) store.visits) l.visit_ids)) there,
    visited id there,
  )

  pub loose_visit : IsTrue (has_page page store.pages) → IsDate date
      → IfSome source (λ id. IsTrue (has_visit id store.visits)) → store.ids.visit < end_of_ids
      → IsLoose (visited_store page transition date source store)
  loose_visit there dated from room =
      record {
        day = l.day;
        page_ids =
            some_changed (λ (p : Page). p.id.0) 1 store.ids.page store.pages l.page_ids change
            (λ p. ap (λ (i : PageId). i.0) (same_id p));
        visit_ids =
            are_ids 1 (store.ids.visit + 1) (map (λ (v : Visit). v.id.0) after.visits)
            (one_more (λ (v : Visit). v.id.0) 1 store.ids.visit store.visits
            (numbered 1 store.ids.visit (map (λ (v : Visit). v.id.0) store.visits) l.visit_ids) visit refl
            l.visit_ids.next_first)
            (omega (arith, room));
        item_ids = l.item_ids;
        rows =
            All-map (IsRow after.visits) change store.pages
            (λ k d within. row_after (get_or store.pages k d) (l.rows k d within));
        urls = urls_changed change same_url store.pages l.urls;
        visits =
            All-push (IsMade after.pages after.visits) store.visits visit
            (All-weaker (IsMade store.pages store.visits) (IsMade after.pages after.visits)
            (λ v made. made_still store.pages after.pages store.visits after.visits v still visited made)
            store.visits l.visits)
            (record { date = dated; page = still page there; source = earlier source from });
        items = items_still store after refl still l.items;
      }
    where
      still : (id : PageId) → IsTrue (has_page id store.pages) → IsTrue (has_page id after.pages)
      still = has_changed change same_id store.pages

-- ---- visits that go

module _ (store : Store) (gone : List VisitId) (l : IsLoose store) where
  abbrev left : List Visit
  left = visits_left gone store.visits

  abbrev stays : Visit → Bool
  stays v = not (is_among gone v.id)

  -- a visit that does not go is there
  there_still : (id : VisitId) → is_among gone id ≡ false → IsTrue (has_visit id store.visits)
      → IsTrue (has_visit id left)
  there_still id stays_id there =
      any_left gone (λ (v : Visit). v.id.0 == id.0) (λ (v : Visit). v.id.0 == id.0) store.visits (each store.visits)
      ∙ there
    where
      apart : (v : Visit) → is_among gone v.id ≡ true → (v.id.0 == id.0) ≡ false
      apart v goes =
          ne_eqb v.id.0 id.0 (λ same.
          false≢true (sym stays_id
          ∙ ap (λ (n : ℕ). list_any (λ (i : VisitId). i.0 == n) gone) (sym same) ∙ goes))

      each : (vs : List Visit)
          → AllByRecursion (Keeps gone (λ (v : Visit). v.id.0 == id.0) (λ (v : Visit). v.id.0 == id.0)) vs
      each [] = tt
      each (v ∷ vs) = ((apart v, refl), each vs)

  made_left : (v : Visit) → IsMade store.pages store.visits v → IsMade store.pages left (visit_left gone v)
  made_left v made = record { date = made.date; page = made.page; source = choose v.source made.source }
    where
      either : (id : VisitId) (b : Bool) → is_among gone id ≡ b → (id.0 < v.id.0) × IsTrue (has_visit id store.visits)
          → IfSome (if b then None else Some id) (λ i. (i.0 < v.id.0) × IsTrue (has_visit i left))
      either id true is there = tt
      either id false is there = (there.0, there_still id is there.1)

      choose : (source : Option VisitId) → IfSome source (λ id. (id.0 < v.id.0) × IsTrue (has_visit id store.visits))
          → IfSome (source_left gone source) (λ id. (id.0 < v.id.0) × IsTrue (has_visit id left))
      choose None there = tt
      choose (Some id) there = either id (is_among gone id) refl there

  row_left : (p : Page) → IsRow store.visits p → IsRow left p
  row_left p row =
      record {
        url = row.url;
        title = row.title;
        typed =
            All-map (λ (v : Visit). v.page ≡ p.id → v.transition ≡ Typed → IsTrue p.typed) (visit_left gone)
            (filter stays store.visits)
            (All-filter stays (λ (v : Visit). v.page ≡ p.id → v.transition ≡ Typed → IsTrue p.typed) store.visits
            row.typed);
      }

  pub loose_left : IsLoose (record store { visits = visits_left gone store.visits })
  loose_left =
      record {
        day = l.day;
        page_ids = l.page_ids;
        visit_ids =
            are_ids 1 store.ids.visit (map (λ (v : Visit). v.id.0) left)
            (some_changed (λ (v : Visit). v.id.0) 1 store.ids.visit (filter stays store.visits)
            (some_left (λ (v : Visit). v.id.0) 1 store.ids.visit store.visits
            (numbered 1 store.ids.visit (map (λ (v : Visit). v.id.0) store.visits) l.visit_ids) stays)
            (visit_left gone) (λ v. refl))
            l.visit_ids.next_last;
        item_ids = l.item_ids;
        rows = All-weaker (IsRow store.visits) (IsRow left) row_left store.pages l.rows;
        urls = l.urls;
        visits =
            All-map (IsMade store.pages left) (visit_left gone) (filter stays store.visits)
            (All-filter stays (λ (v : Visit). IsMade store.pages left (visit_left gone v)) store.visits
            (All-weaker (IsMade store.pages store.visits) (λ (v : Visit). IsMade store.pages left (visit_left gone v))
            made_left store.visits l.visits));
        items = items_still store (record store { visits = left }) refl (λ id there. there) l.items;
      }

-- Rows stay rows of a store where each page keeps its id, its URL and its origin.
use Rattle.std.proofs.Common.{[], ◌≡◌, ◌≢◌, ◌+◌, ◌<◌, ◌≤◌, ◌==◌, ◌∙◌, ℕ, All, Bool, true, false, IsTrue, List, Some}
use Rattle.std.proofs.Common.{ap, arith, get_or, if◌then◌else◌, map, refl, subst, sym}
use Rattle.std.specs.List.{Contains, list_any, sum_by}
use Rattle.std.specs.Option.{IfSome}
use Rattle.std.proofs.lemmas.Bool.{cond_both}
use Rattle.std.proofs.lemmas.List.{length-map}
use Rattle.std.proofs.lemmas.List.Elements.{All-map}
use Rattle.std.proofs.lemmas.Option.{IfSome_then}
use Rattle.pl_base.specs.declared.date.Day.{Day}
use Rattle.pl_base.specs.declared.id.Ids.{Ids}
use Rattle.pl_base.specs.declared.id.PageId.{PageId}
use Rattle.pl_base.specs.declared.id.Slot.{Slot}
use Rattle.pl_base.specs.declared.id.VisitId.{VisitId}
use Rattle.pl_base.specs.declared.row.Mark.{Mark}
use Rattle.pl_base.specs.Address.{is_store_url}
use Rattle.pl_base.specs.Date.{IsDate, IsDay}
use Rattle.pl_base.specs.Good.{AreIds, IsTitle}
use Rattle.pl_base.specs.Live.{chunks, live_slots, slot_limit}
use Rattle.pl_base.specs.Rows.{AreAlike, IsWellKept, Kept, KeptOrigin, KeptPage, NamesOrigins, has_page, marked}
use Rattle.pl_base.specs.Rows.{origin_names, page_origins, store_of, title_of, titled, totaled, with_day, with_mark}
use Rattle.pl_base.specs.Rows.{with_title, with_total}
use Rattle.pl_base.specs.Store.{Item, Visit}
use Rattle.pl_base.proofs.ListLaws.{AllPairs-map, list_any-map, map-alike, map-map, sum_by-agree, sum_by-map}
use Rattle.pl_base.proofs.OneChanged.{once_by_number, sum_changed}
use Rattle.pl_base.proofs.PageLaws.{title_at}
use Rattle.pl_record.specs.Form.{AreRows}
use Rattle.pl_record.proofs.NamedSlots.{found_of}
use Rattle.pl_record.proofs.OriginsCounted.{slots_of, texts_of}

-- ---- rows whose visits and items stay

-- each item has a page that is there, where those that items have are still there
pub own_still : (old new : Kept) (items : List Item)
    → ((id : PageId) → has_page old id ≡ true → has_page new id ≡ true)
    → All (λ (i : Item). IfSome i.page (λ id. has_page old id ≡ true)) items
    → All (λ (i : Item). IfSome i.page (λ id. has_page new id ≡ true)) items
own_still old new items still own k d within =
    IfSome_then (get_or items k d).page {P = λ id. has_page old id ≡ true} (own k d within) still

-- each visit has a page that is there
pub visits_still : (old new : Kept) (visits : List Visit)
    → ((id : PageId) → has_page old id ≡ true → has_page new id ≡ true)
    → All (λ (v : Visit). IsDate v.date × IsTrue (has_page old v.page)) visits
    → All (λ (v : Visit). IsDate v.date × IsTrue (has_page new v.page)) visits
visits_still old new visits still own k d within =
    let good = own k d within in
    (good.0, still (get_or visits k d).page good.1)

-- rows are a store's if they are well kept, and each item has a page that is there
pub rows_still : (kept : Kept) (day : Day) (ids : Ids) (pages : List KeptPage) (origins : List KeptOrigin)
    (targets : VisitId → List Visit)
    → let new = record kept { day = day; ids = ids; pages = pages; origins = origins } in
    IsWellKept new → All (λ (i : Item). IfSome i.page (λ id. has_page new id ≡ true)) kept.items
    → AreRows kept targets → AreRows new targets
rows_still kept day ids pages origins targets well own h =
    record {
      well = well;
      targeted =
          λ source.
          let t = h.targeted source in
          record {
            redirects = t.redirects;
            others = t.others;
            is = t.is;
            all_redirects = t.all_redirects;
            all_others = t.all_others;
          };
      titles = h.titles;
      own = own;
      children = h.children;
      once = h.once;
    }

-- ---- other pages

-- a page with the title of another one, and with what is kept of that beside
abbrev pub with_rest : KeptPage → KeptPage → KeptPage
with_rest p q =
    record {
      page = record { id = p.page.id; url = p.page.url; title = q.page.title; typed = q.page.typed };
      origin = p.origin;
      frecency = q.frecency;
      count = q.count;
      hidden = q.hidden;
    }

-- each page keeps its id, its URL and its origin
abbrev pub KeepsNames : (KeptPage → KeptPage) → Type 0
KeepsNames f = (p : KeptPage) → f p ≡ with_rest p (f p)

-- each page is changed
abbrev pub with_each : (KeptPage → KeptPage) → Kept → Kept
with_each f kept = record kept { pages = map f kept.pages }

module _ (f : KeptPage → KeptPage) (kept : Kept) (keeps : KeepsNames f) where
  abbrev g : KeptPage → KeptPage
  g p = with_rest p (f p)

  pages_are : map f kept.pages ≡ map g kept.pages
  pages_are = map-alike f g kept.pages keeps

  has_still : (id : PageId) → has_page kept id ≡ true → has_page (with_each g kept) id ≡ true
  has_still id there = list_any-map (λ (p : KeptPage). p.page.id.0 == id.0) g kept.pages ∙ there

  names_alike : NamesOrigins kept → NamesOrigins (with_each g kept)
  names_alike h =
      record {
        distinct = h.distinct;
        some = h.some;
        known = All-map (λ (p : KeptPage). Contains (origin_names kept) p.origin.0) g kept.pages h.known;
        used =
            subst (λ (names : List ℕ). All (λ (a : KeptOrigin). Contains names a.origin.0) kept.origins)
            (sym (map-map (λ (p : KeptPage). p.origin.0) g kept.pages)) h.used;
        same =
            All-map (λ (p : KeptPage). All (AreAlike p) (map g kept.pages)) g kept.pages
            (λ k d within. All-map (AreAlike (g (get_or kept.pages k d))) g kept.pages (h.same k d within));
      }

  names_changed : NamesOrigins kept → NamesOrigins (with_each f kept)
  names_changed h =
      subst (λ (ps : List KeptPage). NamesOrigins (record kept { pages = ps })) (sym pages_are) (names_alike h)

  well_changed : All (λ (p : KeptPage). IsTitle p.page.title) (map f kept.pages)
      → live_slots (store_of (with_each f kept)) ≤ slot_limit → IsWellKept kept → IsWellKept (with_each f kept)
  well_changed titles few h =
      subst (λ (ps : List KeptPage). IsWellKept (record kept { pages = ps })) (sym pages_are)
      (record {
        day = h.day;
        page_ids =
            subst (AreIds 1 kept.ids.page) (sym (map-map (λ (p : KeptPage). p.page.id.0) g kept.pages)) h.page_ids;
        visit_ids = h.visit_ids;
        item_ids = h.item_ids;
        urls = All-map (λ (p : KeptPage). IsTrue (is_store_url p.page.url)) g kept.pages h.urls;
        distinct_urls = AllPairs-map (λ (p q : KeptPage). p.page.url ≢ q.page.url) g kept.pages h.distinct_urls;
        titles = subst (All (λ (p : KeptPage). IsTitle p.page.title)) pages_are titles;
        visits = visits_still kept (with_each g kept) kept.visits has_still h.visits;
        sources = h.sources;
        origins = names_alike h.origins;
        live =
            subst (λ (ps : List KeptPage). live_slots (store_of (record kept { pages = ps })) ≤ slot_limit) pages_are
            few;
      })

  -- where titles are titles and the slots are not too many, they are rows of a store
  pub changed_rows : (targets : VisitId → List Visit) → All (λ (p : KeptPage). IsTitle p.page.title) (map f kept.pages)
      → live_slots (store_of (with_each f kept)) ≤ slot_limit → AreRows kept targets
      → AreRows (with_each f kept) targets
  changed_rows targets titles few h =
      rows_still kept kept.day kept.ids (map f kept.pages) kept.origins targets (well_changed titles few h.well)
      (own_still kept (with_each f kept) kept.items
      (λ id there. ap (list_any (λ (p : KeptPage). p.page.id.0 == id.0)) pages_are ∙ has_still id there) h.own) h

  -- the slots change by those of texts
  pub slots_changed : NamesOrigins kept
      → live_slots (store_of (with_each f kept)) + sum_by texts_of kept.pages
      ≡ live_slots (store_of kept) + sum_by texts_of (map f kept.pages)
  slots_changed h =
      omega (
        arith,
        slots_of (with_each f kept) (names_changed h),
        slots_of kept h,
        length-map kept.pages f,
      )

-- ---- one page is changed

-- the page with this id
abbrev pub at_page : PageId → (KeptPage → KeptPage) → KeptPage → KeptPage
at_page id change p = if p.page.id.0 == id.0 then change p else p

pub keeps_at : (id : PageId) (change : KeptPage → KeptPage) → KeepsNames change → KeepsNames (at_page id change)
keeps_at id change keeps p =
    cond_both (p.page.id.0 == id.0) (change p) p (λ (q : KeptPage). q ≡ with_rest p q) (λ _. keeps p) (λ _. refl)

titles_at : (id : PageId) (change : KeptPage → KeptPage) (ps : List KeptPage)
    → ((p : KeptPage) → IsTitle p.page.title → IsTitle (change p).page.title)
    → All (λ (p : KeptPage). IsTitle p.page.title) ps
    → All (λ (p : KeptPage). IsTitle p.page.title) (map (at_page id change) ps)
titles_at id change ps still titles =
    All-map (λ (p : KeptPage). IsTitle p.page.title) (at_page id change) ps
    (λ k d within.
    let p : KeptPage = get_or ps k d in
    cond_both (p.page.id.0 == id.0) (change p) p (λ (q : KeptPage). IsTitle q.page.title)
    (λ _. still p (titles k d within)) (λ _. titles k d within))

-- a mark changes no text
pub marked_slots : (kept : Kept) (id : PageId) (mark : Mark) → NamesOrigins kept
    → live_slots (store_of (with_mark id mark kept)) ≡ live_slots (store_of kept)
marked_slots kept id mark h =
    let f : KeptPage → KeptPage = at_page id (marked mark) in
    let same : sum_by texts_of (map f kept.pages) ≡ sum_by texts_of kept.pages =
    sum_by-map texts_of f kept.pages
    ∙ sum_by-agree (λ (p : KeptPage). texts_of (f p)) texts_of kept.pages
    (λ k d within.
    let p : KeptPage = get_or kept.pages k d in
    cond_both (p.page.id.0 == id.0) (marked mark p) p (λ (q : KeptPage). texts_of q ≡ texts_of p) (λ _. refl)
    (λ _. refl)) in
    omega (arith, slots_changed f kept (keeps_at id (marked mark) (λ p. refl)) h, same)

pub marked_rows : (kept : Kept) (targets : VisitId → List Visit) (id : PageId) (mark : Mark) → AreRows kept targets
    → AreRows (with_mark id mark kept) targets
marked_rows kept targets id mark h =
    changed_rows (at_page id (marked mark)) kept (keeps_at id (marked mark) (λ p. refl)) targets
    (titles_at id (marked mark) kept.pages (λ p is. is) h.well.titles)
    (omega (arith, marked_slots kept id mark h.well.origins, h.well.live)) h

pub titled_rows : (kept : Kept) (targets : VisitId → List Visit) (id : PageId) (title : List ℕ) → AreRows kept targets
    → IsTitle title → live_slots (store_of (with_title id title kept)) ≤ slot_limit
    → AreRows (with_title id title kept) targets
titled_rows kept targets id title h own few =
    changed_rows (at_page id (titled title)) kept (keeps_at id (titled title) (λ p. refl)) targets
    (titles_at id (titled title) kept.pages (λ p is. own) h.well.titles) few h

-- a title takes the place of another one
pub titled_twice : (kept : Kept) (id : PageId) (title : List ℕ)
    → with_title id title (with_title id [] kept) ≡ with_title id title kept
titled_twice kept id title =
    ap (λ (ps : List KeptPage). record kept { pages = ps })
    (map-map (at_page id (titled title)) (at_page id (titled [])) kept.pages
    ∙ map-alike (λ (p : KeptPage). at_page id (titled title) (at_page id (titled []) p)) (at_page id (titled title))
    kept.pages (λ p. twice p (p.page.id.0 == id.0) refl))
  where
    twice : (p : KeptPage) (b : Bool) → (p.page.id.0 == id.0) ≡ b
        → at_page id (titled title) (if b then titled [] p else p) ≡ (if b then titled title p else p)
    twice p true is = rw is refl
    twice p false is = rw is refl

-- the slots of the old title go, and those of the new one come
pub titled_slots : (kept : Kept) (id : PageId) (title old : List ℕ) → IsWellKept kept → has_page kept id ≡ true
    → Some old ≡ title_of kept id
    → live_slots (store_of (with_title id title kept)) + chunks old ≡ live_slots (store_of kept) + chunks title
titled_slots kept id title old h there is =
    let found = found_of (λ (p : KeptPage). p.page.id.0 == id.0) kept.pages there in
    omega (
      arith,
      slots_changed (at_page id (titled title)) kept (keeps_at id (titled title) (λ p. refl)) h.origins,
      sum_changed (λ (p : KeptPage). p.page.id.0 == id.0) (titled title) texts_of kept.pages found.0
          (once_by_number (λ (p : KeptPage). p.page.id.0) id.0 kept.pages h.page_ids.ascending) found.1,
      ap chunks (title_at kept id found.0 old found.1 is),
    )

-- ---- another total, another day

well_with : (kept : Kept) (day : Day) (origins : List KeptOrigin) → IsDay day
    → NamesOrigins (record kept { day = day; origins = origins }) → IsWellKept kept
    → IsWellKept (record kept { day = day; origins = origins })
well_with kept day origins in_range named h =
    record {
      day = in_range;
      page_ids = h.page_ids;
      visit_ids = h.visit_ids;
      item_ids = h.item_ids;
      urls = h.urls;
      distinct_urls = h.distinct_urls;
      titles = h.titles;
      visits = h.visits;
      sources = h.sources;
      origins = named;
      live = h.live;
    }

-- a total changes no name
names_totaled : (kept : Kept) (origin : Slot) (total : ℕ) → NamesOrigins kept
    → NamesOrigins (with_total origin total kept)
names_totaled kept origin total h =
    let new : KeptOrigin → KeptOrigin =
    λ (a : KeptOrigin). record { origin = a.origin; total = (totaled origin total a).total } in
    let same : map (totaled origin total) kept.origins ≡ map new kept.origins =
    map-alike (totaled origin total) new kept.origins
    (λ a. cond_both (a.origin.0 == origin.0) (record a { total = total }) a
    (λ (b : KeptOrigin). b ≡ record { origin = a.origin; total = b.total }) (λ _. refl) (λ _. refl)) in
    subst (λ (ks : List KeptOrigin). NamesOrigins (record kept { origins = ks })) (sym same)
    (record {
      distinct = AllPairs-map (λ (a b : KeptOrigin). a.origin ≢ b.origin) new kept.origins h.distinct;
      some = All-map (λ (a : KeptOrigin). 0 < a.origin.0) new kept.origins h.some;
      known =
          subst (λ (names : List ℕ). All (λ (p : KeptPage). Contains names p.origin.0) kept.pages)
          (sym (map-map (λ (a : KeptOrigin). a.origin.0) new kept.origins)) h.known;
      used = All-map (λ (a : KeptOrigin). Contains (page_origins kept) a.origin.0) new kept.origins h.used;
      same = h.same;
    })

pub totaled_rows : (kept : Kept) (targets : VisitId → List Visit) (origin : Slot) (total : ℕ) → AreRows kept targets
    → AreRows (with_total origin total kept) targets
totaled_rows kept targets origin total h =
    let origins : List KeptOrigin = map (totaled origin total) kept.origins in
    rows_still kept kept.day kept.ids kept.pages origins targets
    (well_with kept kept.day origins h.well.day (names_totaled kept origin total h.well.origins) h.well) h.own h

pub day_rows : (kept : Kept) (targets : VisitId → List Visit) (day : Day) → IsDay day → AreRows kept targets
    → AreRows (with_day day kept) targets
day_rows kept targets day in_range h =
    let named = h.well.origins in
    rows_still kept day kept.ids kept.pages kept.origins targets
    (well_with kept day kept.origins in_range
    (record {
      distinct = named.distinct;
      some = named.some;
      known = named.known;
      used = named.used;
      same = named.same;
    }) h.well) h.own h

-- The rows stay well kept under changes.
use Rattle.std.proofs.Common.{◌≡◌, ◌≢◌, ◌+◌, ◌-◌, ◌<◌, ◌≤◌, ◌==◌, ◌&&◌, ◌++◌, ◌∙◌, ℕ, All}
use Rattle.std.proofs.Common.{Bool, true, false, IsTrue, List, [], ◌∷◌, Some, ap, arith, eq-eqb}
use Rattle.std.proofs.Common.{get_or, if◌then◌else◌, inl, inr, length, map, refl, subst, sym}
use Rattle.std.specs.List.{AllPairs, list_any, sum_by}
use Rattle.std.specs.List.Sorted.{IsStrictlyIncreasing}
use Rattle.std.specs.Option.{IfSome}
use Rattle.std.proofs.lemmas.Bool.{and_parts, cases_lt, eqb-true, false≢true, ne_eqb}
use Rattle.std.proofs.lemmas.List.{length-map, length_push, map_push}
use Rattle.std.proofs.lemmas.List.Elements.{All-map, All-push, All-weaker}
use Rattle.std.proofs.lemmas.List.Folds.{Any-from_list_any, list_any-from_Any, list_any_none}
use Rattle.std.proofs.lemmas.List.Quantifiers.{all_pairs_push}
use Rattle.std.proofs.lemmas.List.Sums.{sum_by_push}
use Rattle.std.proofs.lemmas.Option.{IfSome_then}
use Rattle.std.proofs.lemmas.Str.{IsUtf8-nil}
use Rattle.pl_base.specs.declared.id.PageId.{PageId}
use Rattle.pl_base.specs.declared.id.Slot.{Slot}
use Rattle.pl_base.specs.declared.id.VisitId.{VisitId}
use Rattle.pl_base.specs.declared.row.Mark.{Mark}
use Rattle.pl_base.specs.declared.row.VisitRow.{VisitRow}
use Rattle.pl_base.specs.Address.{is_store_url, same_origin}
use Rattle.pl_base.specs.Date.{IsDate}
use Rattle.pl_base.specs.Good.{IsTitle, end_of_ids}
use Rattle.pl_base.specs.Live.{chunks, live_slots, new_origins, origin_count, slot_limit}
use Rattle.pl_base.specs.Rows.{HasSource, Kept, KeptOrigin, KeptPage, has_page, has_visit, live_with_page, mark_of}
use Rattle.pl_base.specs.Rows.{marked, page_at, store_of, titled, with_title, AreAlike, next_page}
use Rattle.pl_base.specs.Rows.{next_visit, with_mark, with_new_page, with_visit}
use Rattle.pl_base.specs.Store.{Item, Page, Visit}
use Rattle.pl_base.proofs.ListLaws.{All-from_map, AllPairs-map, list_any-map, list_any_last, list_any_push, map-map}
use Rattle.pl_base.proofs.ListLaws.{sum_by-map}
use Rattle.pl_base.proofs.OriginLaws.{new_origins-append, same_origin-self, same_origin-sym, same_origin-trans}
use Rattle.pl_plain.specs.FlatRows.{IsFlat}
use Rattle.pl_plain.specs.Place.{IsSlotOf, urls_of}
use Rattle.pl_base.proofs.ListLaws.{map-alike}
use Rattle.pl_plain.proofs.Lists.{AreIds_push}
use Rattle.pl_base.proofs.Searches.{rises}
use Rattle.pl_base.proofs.OneChanged.{sum_changed}

-- ---- other marks and titles

-- the slots, counted over the kept pages
pub slots_of : (kept : Kept)
    → live_slots (store_of kept) ≡ origin_count (urls_of kept) + length kept.pages + length kept.visits
    + length kept.items + sum_by (λ (p : KeptPage). chunks p.page.url + chunks p.page.title) kept.pages
    + sum_by (λ (i : Item). chunks i.title) kept.items
slots_of kept =
    rw (
      map-map (λ (p : Page). p.url) (λ (p : KeptPage). p.page) kept.pages,
      length-map kept.pages (λ (p : KeptPage). p.page),
      sum_by-map (λ (p : Page). chunks p.url + chunks p.title) (λ (p : KeptPage). p.page) kept.pages,
    )

-- a page with this title and mark
abbrev with_both : List ℕ → Mark → KeptPage → KeptPage
with_both title mark p =
    record {
      page = record { id = p.page.id; url = p.page.url; title = title; typed = mark.typed };
      origin = p.origin;
      frecency = mark.frecency;
      count = mark.count;
      hidden = mark.hidden;
    }

-- the pages with these titles and marks
abbrev altered : (KeptPage → List ℕ) → (KeptPage → Mark) → Kept → Kept
altered title mark kept = record kept { pages = map (λ (p : KeptPage). with_both (title p) (mark p) p) kept.pages }

IsFlat-altered : (title : KeptPage → List ℕ) (mark : KeptPage → Mark) (kept : Kept) (origins live after : ℕ)
    → All (λ (p : KeptPage). IsTitle (title p)) kept.pages → after ≡ live_slots (store_of (altered title mark kept))
    → after ≤ slot_limit → IsFlat kept origins live → IsFlat (altered title mark kept) origins after
IsFlat-altered title mark kept origins live after titles filled few h =
    let f : KeptPage → KeptPage = λ (p : KeptPage). with_both (title p) (mark p) p in
    let whole : Kept = altered title mark kept in
    let has : (v : Visit) → IsTrue (has_page kept v.page) → IsTrue (has_page whole v.page) =
    λ v some. list_any-map (λ (p : KeptPage). p.page.id.0 == v.page.0) f kept.pages ∙ some in
    record {
      day = h.day;
      page_ids = rw (map-map (λ (p : KeptPage). p.page.id.0) f kept.pages) h.page_ids;
      visit_ids = h.visit_ids;
      item_ids = h.item_ids;
      urls = All-map (λ (p : KeptPage). IsTrue (is_store_url p.page.url)) f kept.pages h.urls;
      distinct_urls = AllPairs-map (λ (p q : KeptPage). p.page.url ≢ q.page.url) f kept.pages h.distinct_urls;
      titles = All-map (λ (p : KeptPage). IsTitle p.page.title) f kept.pages titles;
      visits =
          All-weaker (λ (v : Visit). IsDate v.date × IsTrue (has_page kept v.page))
          (λ (v : Visit). IsDate v.date × IsTrue (has_page whole v.page))
          (λ v good. (good.0, has v good.1)) kept.visits h.visits;
      sources = h.sources;
      named = All-map (λ (p : KeptPage). (0 < p.origin.0) × (p.origin.0 ≤ origins)) f kept.pages h.named;
      used = λ n some few. list_any-map (λ (p : KeptPage). p.origin.0 == n) f kept.pages ∙ h.used n some few;
      same =
          All-map (λ (p : KeptPage). All (AreAlike p) (map f kept.pages)) f kept.pages
          (All-weaker (λ (p : KeptPage). All (AreAlike p) kept.pages)
          (λ (p : KeptPage). All (AreAlike (f p)) (map f kept.pages))
          (λ p all. All-map (AreAlike (f p)) f kept.pages all) kept.pages h.same);
      counted = rw (map-map (λ (p : KeptPage). p.page.url) f kept.pages) h.counted;
      filled = filled;
      few = few;
    }

-- the slots where titles change
altered_slots : (title : KeptPage → List ℕ) (mark : KeptPage → Mark) (kept : Kept)
    → live_slots (store_of (altered title mark kept)) ≡ origin_count (urls_of kept) + length kept.pages
    + length kept.visits + length kept.items
    + sum_by (λ (p : KeptPage). chunks p.page.url + chunks (title p)) kept.pages
    + sum_by (λ (i : Item). chunks i.title) kept.items
altered_slots title mark kept =
    let f : KeptPage → KeptPage = λ (p : KeptPage). with_both (title p) (mark p) p in
    slots_of (altered title mark kept) ∙ rw (
      map-map (λ (p : KeptPage). p.page.url) f kept.pages,
      length-map kept.pages f,
      sum_by-map (λ (p : KeptPage). chunks p.page.url + chunks p.page.title) f kept.pages,
    ) refl

-- ---- a mark

marked_at : (b : Bool) (mark : Mark) (p : KeptPage)
    → (if b then marked mark p else p) ≡ with_both p.page.title (if b then mark else mark_of p) p
marked_at true mark p = refl
marked_at false mark p = refl

pub IsFlat-with_mark : (id : PageId) (mark : Mark) (kept : Kept) (origins live : ℕ) → IsFlat kept origins live
    → IsFlat (with_mark id mark kept) origins live
IsFlat-with_mark id mark kept origins live h =
    let title : KeptPage → List ℕ = λ (p : KeptPage). p.page.title in
    let new : KeptPage → Mark = λ (p : KeptPage). if p.page.id.0 == id.0 then mark else mark_of p in
    subst (λ (pages : List KeptPage). IsFlat (record kept { pages = pages }) origins live)
    (sym (map-alike (λ (p : KeptPage). if p.page.id.0 == id.0 then marked mark p else p)
    (λ (p : KeptPage). with_both (title p) (new p) p) kept.pages (λ p. marked_at (p.page.id.0 == id.0) mark p)))
    (IsFlat-altered title new kept origins live live h.titles
    (h.filled ∙ slots_of kept ∙ sym (altered_slots title new kept)) h.few h)

-- ---- a title

titled_at : (b : Bool) (title : List ℕ) (p : KeptPage)
    → (if b then titled title p else p) ≡ with_both (if b then title else p.page.title) (mark_of p) p
titled_at true title p = refl
titled_at false title p = refl

is_title_at : (b : Bool) (title old : List ℕ) → IsTitle title → IsTitle old → IsTitle (if b then title else old)
is_title_at true title old new before = new
is_title_at false title old new before = before

pub IsFlat-with_title : (id : PageId) (title : List ℕ) (kept : Kept) (origins live after : ℕ) → IsTitle title
    → after ≡ live_slots (store_of (with_title id title kept)) → after ≤ slot_limit → IsFlat kept origins live
    → IsFlat (with_title id title kept) origins after
IsFlat-with_title id title kept origins live after own filled few h =
    let new : KeptPage → List ℕ = λ (p : KeptPage). if p.page.id.0 == id.0 then title else p.page.title in
    let same : map (λ (p : KeptPage). if p.page.id.0 == id.0 then titled title p else p) kept.pages
    ≡ map (λ (p : KeptPage). with_both (new p) (mark_of p) p) kept.pages =
    map-alike (λ (p : KeptPage). if p.page.id.0 == id.0 then titled title p else p)
    (λ (p : KeptPage). with_both (new p) (mark_of p) p) kept.pages (λ p. titled_at (p.page.id.0 == id.0) title p) in
    subst (λ (pages : List KeptPage). IsFlat (record kept { pages = pages }) origins after) (sym same)
    (IsFlat-altered new mark_of kept origins live after
    (All-weaker (λ (p : KeptPage). IsTitle p.page.title) (λ (p : KeptPage). IsTitle (new p))
    (λ p before. is_title_at (p.page.id.0 == id.0) title p.page.title own before) kept.pages h.titles)
    (filled ∙ ap (λ (pages : List KeptPage). live_slots (store_of (record kept { pages = pages }))) same) few h)

pub one_page : (id : PageId) (ps : List KeptPage) → IsStrictlyIncreasing (map (λ (p : KeptPage). p.page.id.0) ps)
    → AllPairs (λ (p q : KeptPage). (p.page.id.0 == id.0) ≡ true → (q.page.id.0 == id.0) ≡ false) ps
one_page id ps ascending i j d before within passes =
    ne_eqb (get_or ps j d).page.id.0 id.0
    (λ same. omega (
      arith,
      eqb-true (get_or ps i d).page.id.0 id.0 passes,
      rises (λ (p : KeptPage). p.page.id.0) ps ascending i j d before within,
    ))

-- the slots of the old title go, and those of the new one come
pub slots_with_title : (id : PageId) (title : List ℕ) (kept : Kept) (p : KeptPage)
    → IsStrictlyIncreasing (map (λ (q : KeptPage). q.page.id.0) kept.pages) → page_at kept id ≡ Some p
    → live_slots (store_of (with_title id title kept)) + chunks p.page.title
    ≡ live_slots (store_of kept) + chunks title
slots_with_title id title kept p ascending found =
    let new : Kept = with_title id title kept in
    let f : KeptPage → KeptPage = λ (q : KeptPage). if q.page.id.0 == id.0 then titled title q else q in
    let urls : urls_of new ≡ urls_of kept =
    map-map (λ (q : KeptPage). q.page.url) f kept.pages
    ∙ map-alike (λ (q : KeptPage). (f q).page.url) (λ (q : KeptPage). q.page.url) kept.pages
    (λ q. url_at (q.page.id.0 == id.0) q) in
    omega (
      arith,
      slots_of new,
      slots_of kept,
      ap origin_count urls,
      length-map kept.pages f,
      sum_changed (λ (q : KeptPage). q.page.id.0 == id.0) (titled title)
          (λ (q : KeptPage). chunks q.page.url + chunks q.page.title) kept.pages p (one_page id kept.pages ascending)
          found,
    )
  where
    url_at : (b : Bool) (q : KeptPage) → (if b then titled title q else q).page.url ≡ q.page.url
    url_at true q = refl
    url_at false q = refl

-- ---- a page

origins_with_page : (url : List ℕ) (slot : Slot) (kept : Kept)
    → origin_count (urls_of (with_new_page url slot kept)) ≡ origin_count (urls_of kept)
    + new_origins (urls_of kept) (url ∷ [])
origins_with_page url slot kept =
    ap origin_count (map_push (λ (p : KeptPage). p.page.url) kept.pages (next_page url slot kept))
    ∙ new_origins-append [] (urls_of kept) (url ∷ [])

pub slots_with_page : (url : List ℕ) (slot : Slot) (kept : Kept)
    → live_slots (store_of (with_new_page url slot kept)) ≡ live_slots (store_of kept)
    + new_origins (urls_of kept) (url ∷ []) + (1 + chunks url)
slots_with_page url slot kept =
    omega (
      arith,
      slots_of (with_new_page url slot kept),
      slots_of kept,
      origins_with_page url slot kept,
      length_push kept.pages (next_page url slot kept),
      sum_by_push (λ (p : KeptPage). chunks p.page.url + chunks p.page.title) kept.pages (next_page url slot kept),
    )

pub IsFlat-with_page : (url : List ℕ) (slot : Slot) (kept : Kept) (named : List KeptOrigin) (origins after live : ℕ)
    → is_store_url url ≡ true → All (λ (p : KeptPage). p.page.url ≢ url) kept.pages
    → IsSlotOf kept origins url slot after → kept.ids.page < end_of_ids → live_with_page url kept ≤ slot_limit
    → IsFlat kept origins live
    → IsFlat (record (with_new_page url slot kept) { origins = named }) after
    (live + (after - origins + (1 + chunks url)))
IsFlat-with_page url slot kept named origins after live own absent place room fits h =
    let new : KeptPage = next_page url slot kept in
    let pages : List KeptPage = kept.pages ++ new ∷ [] in
    let whole : Kept = record (with_new_page url slot kept) { origins = named } in
    let slots : live_slots (store_of whole) ≡ live + (after - origins + (1 + chunks url)) =
    omega (arith, slots_with_page url slot kept, h.filled, place.counted) in
    record {
      day = h.day;
      page_ids =
          rw (map_push (λ (p : KeptPage). p.page.id.0) kept.pages new)
          (AreIds_push 1 kept.ids.page (map (λ (p : KeptPage). p.page.id.0) kept.pages) (omega arith)
          (λ full. omega arith) h.page_ids);
      visit_ids = h.visit_ids;
      item_ids = h.item_ids;
      urls = All-push (λ (p : KeptPage). IsTrue (is_store_url p.page.url)) kept.pages new h.urls own;
      distinct_urls =
          all_pairs_push (λ (p q : KeptPage). p.page.url ≢ q.page.url) kept.pages new h.distinct_urls absent;
      titles =
          All-push (λ (p : KeptPage). IsTitle p.page.title) kept.pages new h.titles (IsUtf8-nil, omega arith);
      visits =
          All-weaker (λ (v : Visit). IsDate v.date × IsTrue (has_page kept v.page))
          (λ (v : Visit). IsDate v.date × IsTrue (has_page whole v.page))
          (λ v good. (good.0, list_any_push (λ (p : KeptPage). p.page.id.0 == v.page.0) kept.pages new good.1))
          kept.visits h.visits;
      sources = h.sources;
      named =
          All-push (λ (p : KeptPage). (0 < p.origin.0) × (p.origin.0 ≤ after)) kept.pages new
          (All-weaker (λ (p : KeptPage). (0 < p.origin.0) × (p.origin.0 ≤ origins))
          (λ (p : KeptPage). (0 < p.origin.0) × (p.origin.0 ≤ after))
          (λ p good. (good.0, omega (arith, good.1, place.counted))) kept.pages h.named)
          (place.first, place.last);
      used =
          λ n some few.
          elim (place.others n few) [
            | inl old ↦ list_any_push (λ (p : KeptPage). p.origin.0 == n) kept.pages new (h.used n some old)
            | inr same ↦ list_any_last (λ (p : KeptPage). p.origin.0 == n) kept.pages new (eq-eqb slot.0 n same)
          ];
      same =
          All-push (λ (p : KeptPage). All (AreAlike p) pages) kept.pages new
          (λ k d within. All-push (AreAlike (get_or kept.pages k d)) kept.pages new (h.same k d within)
          (place.same k d within))
          (All-push (AreAlike new) kept.pages new
          (λ k d within. (
            λ same. same_origin-sym (get_or kept.pages k d).page.url url ((place.same k d within).0 (sym same)),
            λ same. sym ((place.same k d within).1 (same_origin-sym url (get_or kept.pages k d).page.url same)),
          ))
          (λ _. same_origin-self url own, λ _. refl));
      counted = omega (arith, origins_with_page url slot kept, h.counted, place.counted);
      filled = sym slots;
      few = omega (arith, slots_with_page url (record { 0 = 0 }) kept, fits, h.filled, place.counted);
    }

-- ---- a visit

-- a visit that is there has a smaller id than the next one
below_next : (kept : Kept) (origins live : ℕ) (id : VisitId) → IsFlat kept origins live → has_visit kept id ≡ true
    → id.0 < kept.ids.visit
below_next kept origins live id h there =
    let at = Any-from_list_any (λ (v : Visit). v.id.0 == id.0) kept.visits there in
    let below : at.1.id.0 < kept.ids.visit =
    subst (λ (v : Visit). v.id.0 < kept.ids.visit) at.3
    (All-from_map (λ n. (0 < n) × (n < kept.ids.visit)) (λ (v : Visit). v.id.0) kept.visits h.visit_ids.given at.0 at.1
    at.2).1 in
    omega (arith, eqb-true at.1.id.0 id.0 at.4)

pub IsFlat-with_visit : (row : VisitRow) (kept : Kept) (origins live : ℕ) → has_page kept row.page ≡ true
    → IsDate row.date → IfSome row.source (λ id. has_visit kept id ≡ true) → kept.ids.visit < end_of_ids
    → live_slots (store_of kept) < slot_limit → IsFlat kept origins live
    → IsFlat (with_visit row kept) origins (live + 1)
IsFlat-with_visit row kept origins live there in_range source room fits h =
    let new : Visit = next_visit row kept in
    let whole : Kept = with_visit row kept in
    let still : (id : VisitId) → has_visit kept id ≡ true → IsTrue (has_visit whole id) =
    λ id here. list_any_push (λ (v : Visit). v.id.0 == id.0) kept.visits new here in
    record {
      day = h.day;
      page_ids = h.page_ids;
      visit_ids =
          rw (map_push (λ (v : Visit). v.id.0) kept.visits new)
          (AreIds_push 1 kept.ids.visit (map (λ (v : Visit). v.id.0) kept.visits) (omega arith) (λ full. omega arith)
          h.visit_ids);
      item_ids = h.item_ids;
      urls = h.urls;
      distinct_urls = h.distinct_urls;
      titles = h.titles;
      visits =
          All-push (λ (v : Visit). IsDate v.date × IsTrue (has_page kept v.page)) kept.visits new h.visits
          (in_range, there);
      sources =
          All-push (HasSource whole) kept.visits new
          (All-weaker (HasSource kept) (HasSource whole)
          (λ v has. IfSome_then v.source {P = λ id. (id.0 < v.id.0) × IsTrue (has_visit kept id)} has
          (λ id old. (old.0, still id old.1))) kept.visits h.sources)
          (IfSome_then row.source {P = λ id. has_visit kept id ≡ true} source
          (λ id here. (below_next kept origins live id h here, still id here)));
      named = h.named;
      used = h.used;
      same = h.same;
      counted = h.counted;
      filled = omega (arith, h.filled, slots_of kept, slots_of (with_visit row kept), length_push kept.visits new);
      few = omega (arith, h.filled, fits);
    }

-- ---- the name of a new page's origin

pub origins_few : (kept : Kept) (origins live : ℕ) → IsFlat kept origins live → origins ≤ slot_limit
origins_few kept origins live h = omega (arith, slots_of kept, h.counted, h.filled, h.few)

weaker_any : {X : Type 0} (p q : X → Bool) (xs : List X) → ((x : X) → p x ≡ true → q x ≡ true) → list_any p xs ≡ true
    → list_any q xs ≡ true
weaker_any p q xs weaker some =
    let at = Any-from_list_any p xs some in
    list_any-from_Any q xs (at.0, at.1, at.2, at.3, weaker at.1 at.4)

-- the name that a page of the same origin has
pub place_known : (kept : Kept) (origins live : ℕ) (url : List ℕ) (slot : Slot) → IsFlat kept origins live
    → list_any (λ (p : KeptPage). (p.origin.0 == slot.0) && same_origin p.page.url url) kept.pages ≡ true
    → IsSlotOf kept origins url slot origins
place_known kept origins live url slot h there =
    let at =
    Any-from_list_any (λ (p : KeptPage). (p.origin.0 == slot.0) && same_origin p.page.url url) kept.pages
    there in
    let one : KeptPage = at.1 in
    let parts = and_parts (one.origin.0 == slot.0) (same_origin one.page.url url) at.4 in
    let name : one.origin.0 ≡ slot.0 = eqb-true one.origin.0 slot.0 parts.0 in
    let named : one.origin ≡ slot = ap (λ n. record { 0 = n }) name in
    let bounds : (0 < one.origin.0) × (one.origin.0 ≤ origins) =
    subst (λ (p : KeptPage). (0 < p.origin.0) × (p.origin.0 ≤ origins)) at.3 (h.named at.0 one at.2) in
    let urls : list_any (same_origin url) (urls_of kept) ≡ true =
    list_any-map (same_origin url) (λ (p : KeptPage). p.page.url) kept.pages
    ∙ weaker_any (λ (p : KeptPage). (p.origin.0 == slot.0) && same_origin p.page.url url)
    (λ (p : KeptPage). same_origin url p.page.url) kept.pages
    (λ p both. same_origin-sym p.page.url url (and_parts (p.origin.0 == slot.0) (same_origin p.page.url url) both).1)
    there in
    record {
      first = omega (arith, bounds.0, name);
      last = omega (arith, bounds.1, name);
      others = λ n few. inl few;
      same =
          λ k d within.
          let p : KeptPage = get_or kept.pages k d in
          let alike : AreAlike p one = subst (AreAlike p) at.3 (h.same k d within at.0 one at.2) in (
            λ same. same_origin-trans p.page.url one.page.url url (alike.0 (same ∙ sym named)) parts.1,
            λ same. alike.1 (same_origin-trans p.page.url url one.page.url same
                (same_origin-sym one.page.url url parts.1)) ∙ named,
          );
      counted = rw urls (omega arith);
    }

never : (a b : Bool) → (a ≡ true → b ≡ true) → b ≡ false → a ≡ false
never true b so none = absurd (false≢true (sym none ∙ so refl))
never false b so none = refl

-- a new name, where no page has the origin
pub place_new : (kept : Kept) (origins live : ℕ) (url : List ℕ) → IsFlat kept origins live
    → All (λ (p : KeptPage). same_origin p.page.url url ≡ false) kept.pages
    → IsSlotOf kept origins url (record { 0 = origins + 1 }) (origins + 1)
place_new kept origins live url h none =
    let urls : list_any (same_origin url) (urls_of kept) ≡ false =
    list_any_none (same_origin url) (urls_of kept)
    (All-map (λ (other : List ℕ). same_origin url other ≡ false) (λ (p : KeptPage). p.page.url) kept.pages
    (All-weaker (λ (p : KeptPage). same_origin p.page.url url ≡ false)
    (λ (p : KeptPage). same_origin url p.page.url ≡ false)
    (λ p apart. never (same_origin url p.page.url) (same_origin p.page.url url) (same_origin-sym url p.page.url) apart)
    kept.pages none)) in
    record {
      first = omega arith;
      last = omega arith;
      others = λ n few. elim (cases_lt origins n) [ inl above ↦ inr (omega arith) | inr below ↦ inl below ];
      same =
          λ k d within. (
            λ same. absurd (omega (arith, (h.named k d within).1, ap (λ (s : Slot). s.0) same)),
            λ same. absurd (false≢true (sym (none k d within) ∙ same)),
          );
      counted = rw urls (omega arith);
    }

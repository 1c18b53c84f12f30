-- The tests of the rows pass exactly where their store is good.
use Rattle.std.proofs.Common.{◌≡◌, ◌≢◌, ◌∙◌, ◌&&◌, ◌||◌, ◌==◌, ℕ, ◌+◌, ◌<◌, ◌≤◌, All, Bool, true}
use Rattle.std.proofs.Common.{false, not, IsTrue, zero, suc, List, [], ◌∷◌, Option, Some, None}
use Rattle.std.proofs.Common.{get_or, length, map, nat_le, nat_lt, sym, ap, refl, subst, arith, eq-eqb}
use Rattle.std.specs.List.{list_all, list_any}
use Rattle.std.specs.List.Sorted.{IsStrictlyIncreasing}
use Rattle.std.specs.Option.{IfSome, IsSome}
use Rattle.std.proofs.lemmas.Bool.{and_from, and_parts, false≢true, le-leb, leb-true}
use Rattle.std.proofs.lemmas.Bool.{lt-ltb, ltb-true, not-true, not_from_false, true≢false}
use Rattle.std.proofs.lemmas.List.Elements.{All-cons, All-map, All-nil, All-weaker}
use Rattle.std.proofs.lemmas.List.Folds.{Any-from_list_any}
use Rattle.std.proofs.lemmas.List.Sums.{AllPass-from_list_all, list_all-from_AllPass}
use Rattle.pl_base.specs.declared.id.PageId.{PageId}
use Rattle.pl_base.specs.declared.id.VisitId.{VisitId}
use Rattle.pl_base.specs.declared.transition.Transition.{Transition}
use Rattle.pl_base.specs.declared.transition.Transition.TheVariants.{Link, Typed, Bookmark, Embed, RedirectPermanent}
use Rattle.pl_base.specs.declared.transition.Transition.TheVariants.{RedirectTemporary, Download, FramedLink, Reload}
use Rattle.pl_base.specs.Good.{AreIds, HasRoots, IsGood, IsGoodPage, IsGoodVisit, IsTitle, IsTree}
use Rattle.pl_base.specs.Good.{end_of_ids}
use Rattle.pl_base.specs.Redirects.{visit_by_id}
use Rattle.pl_base.specs.Store.{Page, Visit, item_id}
use Rattle.pl_base.specs.Tree.{has_item}
use Rattle.pl_base.specs.Touched.{ascends_above}
use Rattle.pl_stored.specs.declared.stored.StoredVisit.{StoredVisit}
use Rattle.pl_stored.specs.declared.stored.StoredPage.{StoredPage}
use Rattle.pl_base.specs.Marks.{is_typed}
use Rattle.pl_check.specs.Rows.{are_good, are_good_numbers, are_ids, have_good_ids, have_good_rows, have_own_urls}
use Rattle.pl_check.specs.Rows.{is_good_page, is_good_source, is_good_visit, stored_page_ids, stored_visit_ids}
use Rattle.pl_check.specs.Rows.{is_kept, is_typed_visit}
use Rattle.pl_check.specs.Items.{has_reference, has_root, has_top_folder, have_roots, is_good_item, item_ids}
use Rattle.pl_check.specs.Items.{top_numbers}
use Rattle.pl_check.specs.Tags.{HaveGoodTags}
use Rattle.pl_stored.specs.Stored.{Stored, stored_page, stored_store}
use Rattle.pl_stored.specs.Stored.{visit_of}
use Rattle.pl_stored.specs.Fits.{IsUrl}
use Rattle.pl_check.specs.Readable.{AreReadable}
use Rattle.pl_base.proofs.ListLaws.{All-from_map, list_any-map, map-map, AllPairs-from_map, AllPairs-map}
use Rattle.pl_base.specs.Date.{last_date, last_day}
use Rattle.pl_base.proofs.IdsLaws.{same_page}
use Rattle.pl_check.proofs.ItemTests.{item-from, item-to}
use Rattle.pl_check.proofs.RootTests.{root-from, root-to, root_there, top-from, top-to}
use Rattle.pl_check.proofs.RowTests.{own_urls-from, own_urls-to}
use Rattle.pl_check.proofs.TagTests.{tags-from, tags-to}
use Rattle.pl_base.proofs.ListLaws.{found_in, some_in}
use Rattle.pl_base.proofs.LookUps.{none_at}
use Rattle.pl_base.proofs.Truths.{no_test}

-- ---- ids

ascends_all : (last : ℕ) (ids : List ℕ) → ascends_above last ids ≡ true → All (λ id. last < id) ids
ascends_all last [] h = All-nil _
ascends_all last (n ∷ ns) h =
    let parts = and_parts (nat_lt last n) (ascends_above n ns) h in
    let above : last < n = ltb-true last n parts.0 in
    All-cons (λ id. last < id) n ns above
    (All-weaker (λ id. n < id) (λ id. last < id) (λ id more. omega arith) ns (ascends_all n ns parts.1))

increases : (last : ℕ) (ids : List ℕ) → ascends_above last ids ≡ true → IsStrictlyIncreasing ids
increases last [] h k within = absurd (omega arith)
increases last (n ∷ []) h k within = absurd (omega arith)
increases last (n ∷ m ∷ ms) h zero within =
    let parts = and_parts (nat_lt last n) (ascends_above n (m ∷ ms)) h in
    ltb-true n m (and_parts (nat_lt n m) (ascends_above m ms) parts.1).0
increases last (n ∷ m ∷ ms) h (suc k) within =
    let parts = and_parts (nat_lt last n) (ascends_above n (m ∷ ms)) h in
    let P : ℕ → Type 0 = λ j. get_or (m ∷ ms) k 0 < get_or (n ∷ m ∷ ms) j 0 in
    let next : suc (k + 1) ≡ suc k + 1 = omega arith in
    subst P next (increases n (m ∷ ms) parts.1 k (omega arith))

rest_increases : (n : ℕ) (ns : List ℕ) → IsStrictlyIncreasing (n ∷ ns) → IsStrictlyIncreasing ns
rest_increases n ns h k within =
    let P : ℕ → Type 0 = λ j. get_or ns k 0 < get_or (n ∷ ns) j 0 in
    let next : suc k + 1 ≡ suc (k + 1) = omega arith in
    subst P next (h (suc k) (omega arith))

ascends : (last : ℕ) (ids : List ℕ) → IsStrictlyIncreasing ids → (0 < length ids → last < get_or ids 0 0)
    → ascends_above last ids ≡ true
ascends last [] increasing above = refl
ascends last (n ∷ ns) increasing above =
    and_from (nat_lt last n) (ascends_above n ns) (lt-ltb last n (above (omega arith)))
    (ascends n ns (rest_increases n ns increasing) (λ some. increasing 0 (omega arith)))

ids_given : (next : ℕ) (ids : List ℕ) → All (λ id. 0 < id) ids → All (λ id. nat_lt id next ≡ true) ids
    → All (λ id. (0 < id) × (id < next)) ids
ids_given next ids above below k d within = (above k d within, ltb-true (get_or ids k d) next (below k d within))

pub are_ids-to : (first next : ℕ) (ids : List ℕ) → first ≤ next → next ≤ end_of_ids → are_ids next ids ≡ true
    → AreIds first next ids
are_ids-to first next ids low last h =
    let parts = and_parts (ascends_above 0 ids) (list_all (λ id. nat_lt id next) ids) h in
    record {
      ascending = increases 0 ids parts.0;
      given =
          ids_given next ids (ascends_all 0 ids parts.0) (AllPass-from_list_all (λ id. nat_lt id next) ids parts.1);
      next_first = low;
      next_last = last;
    }

pub are_ids-from : (first next : ℕ) (ids : List ℕ) → AreIds first next ids → are_ids next ids ≡ true
are_ids-from first next ids h =
    and_from (ascends_above 0 ids) (list_all (λ id. nat_lt id next) ids)
    (ascends 0 ids h.ascending (λ some. (h.given 0 0 some).0))
    (list_all-from_AllPass (λ id. nat_lt id next) ids
    (λ k d within. lt-ltb (get_or ids k d) next (h.given k d within).1))

-- ---- pages

typed_number : (t : Transition) → is_typed t ≡ true → t ≡ Typed
typed_number Link h = absurd (false≢true h)
typed_number Typed h = refl
typed_number Bookmark h = absurd (false≢true h)
typed_number Embed h = absurd (false≢true h)
typed_number RedirectPermanent h = absurd (false≢true h)
typed_number RedirectTemporary h = absurd (false≢true h)
typed_number Download h = absurd (false≢true h)
typed_number FramedLink h = absurd (false≢true h)
typed_number Reload h = absurd (false≢true h)

abbrev IsTypedBy : PageId → Bool → Visit → Type 0
IsTypedBy id t v = v.page ≡ id → v.transition ≡ Typed → IsTrue t

typed-to : (id : PageId) (t : Bool) (visits : List StoredVisit)
    → (t || not (list_any (is_typed_visit id) visits)) ≡ true
    → All (λ (v : StoredVisit). IsTypedBy id t (visit_of v)) visits
typed-to id true visits h k d within page typed = refl
typed-to id false visits h k d within page typed =
    let none = none_at (is_typed_visit id) visits (not-true _ h) in
    let passes : is_typed_visit id (get_or visits k d) ≡ true =
    and_from ((get_or visits k d).page.0 == id.0) (is_typed (get_or visits k d).transition)
    (eq-eqb _ _ (ap (λ (p : PageId). p.0) page)) (ap is_typed typed) in
    absurd (true≢false (sym passes ∙ none k d within))

typed-from : (id : PageId) (t : Bool) (visits : List StoredVisit)
    → All (λ (v : StoredVisit). IsTypedBy id t (visit_of v)) visits
    → (t || not (list_any (is_typed_visit id) visits)) ≡ true
typed-from id true visits h = refl
typed-from id false visits h =
    not_from_false _ (no_test _ (λ some.
    let at = Any-from_list_any (is_typed_visit id) visits some in
    let parts = and_parts (at.1.page.0 == id.0) (is_typed at.1.transition) at.4 in
    let typed : IsTypedBy id false (visit_of at.1) =
    subst (λ (v : StoredVisit). IsTypedBy id false (visit_of v)) at.3 (h at.0 at.1 at.2) in
    false≢true (typed (same_page at.1.page id parts.0) (typed_number at.1.transition parts.1))))

-- ---- the rows

-- the store has the same visits and items
kept_alike : (rows : Stored) (p : StoredPage)
    → (list_any (λ (v : Visit). v.page.0 == p.id.0) (map visit_of rows.visits) || has_reference rows.items p.id)
    ≡ is_kept rows p
kept_alike rows p =
    ap (λ b. b || has_reference rows.items p.id) (list_any-map (λ (v : Visit). v.page.0 == p.id.0) visit_of rows.visits)

page-to : (rows : Stored) (p : StoredPage) → IsUrl p.url → IsTitle p.title → is_good_page rows p ≡ true
    → IsGoodPage (stored_store rows) (stored_page p)
page-to rows p own short h =
    let parts = and_parts (is_kept rows p) (p.typed || not (list_any (is_typed_visit p.id) rows.visits)) h in
    record {
      url = own.1;
      title = short;
      typed = All-map (IsTypedBy p.id p.typed) visit_of rows.visits (typed-to p.id p.typed rows.visits parts.1);
      kept = kept_alike rows p ∙ parts.0;
    }

pub page-from : (rows : Stored) (p : StoredPage) → IsGoodPage (stored_store rows) (stored_page p)
    → is_good_page rows p ≡ true
page-from rows p h =
    and_from (is_kept rows p) (p.typed || not (list_any (is_typed_visit p.id) rows.visits))
    (sym (kept_alike rows p) ∙ h.kept)
    (typed-from p.id p.typed rows.visits (All-from_map (IsTypedBy p.id p.typed) visit_of rows.visits h.typed))

-- a source with a smaller id that is there
abbrev IsEarlier : Stored → VisitId → VisitId → Type 0
IsEarlier rows id source = (source.0 < id.0) × IsSome (visit_by_id (stored_store rows) source)

source-to : (rows : Stored) (id : VisitId) (source : Option VisitId) → is_good_source rows.visits id source ≡ true
    → IfSome source (IsEarlier rows id)
source-to rows id None h = tt
source-to rows id (Some source) h =
    let parts =
    and_parts (nat_lt source.0 id.0) (list_any (λ (v : StoredVisit). v.id.0 == source.0) rows.visits) h in (
      ltb-true source.0 id.0 parts.0,
      found_in (λ (v : Visit). v.id.0 == source.0) (map visit_of rows.visits)
          (list_any-map (λ (v : Visit). v.id.0 == source.0) visit_of rows.visits ∙ parts.1),
    )

source-from : (rows : Stored) (id : VisitId) (source : Option VisitId) → IfSome source (IsEarlier rows id)
    → is_good_source rows.visits id source ≡ true
source-from rows id None h = refl
source-from rows id (Some source) h =
    and_from (nat_lt source.0 id.0) (list_any (λ (v : StoredVisit). v.id.0 == source.0) rows.visits)
    (lt-ltb source.0 id.0 h.0)
    (sym (list_any-map (λ (v : Visit). v.id.0 == source.0) visit_of rows.visits)
    ∙ some_in (λ (v : Visit). v.id.0 == source.0) (map visit_of rows.visits) h.1)

visit-to : (rows : Stored) (v : StoredVisit) → is_good_visit rows v ≡ true
    → IsGoodVisit (stored_store rows) (visit_of v)
visit-to rows v h =
    let parts = and_parts _ (is_good_source rows.visits v.id v.source) h in
    let first =
    and_parts (nat_le v.date.0 last_date) (list_any (λ (p : StoredPage). p.id.0 == v.page.0) rows.pages) parts.0 in
    record {
      date = leb-true v.date.0 last_date first.0;
      page = list_any-map (λ (p : Page). p.id.0 == v.page.0) stored_page rows.pages ∙ first.1;
      source = source-to rows v.id v.source parts.1;
    }

visit-from : (rows : Stored) (v : StoredVisit) → IsGoodVisit (stored_store rows) (visit_of v)
    → is_good_visit rows v ≡ true
visit-from rows v h =
    and_from _ (is_good_source rows.visits v.id v.source)
    (and_from (nat_le v.date.0 last_date) (list_any (λ (p : StoredPage). p.id.0 == v.page.0) rows.pages)
    (le-leb v.date.0 last_date h.date)
    (sym (list_any-map (λ (p : Page). p.id.0 == v.page.0) stored_page rows.pages) ∙ h.page))
    (source-from rows v.id v.source h.source)

-- ---- the whole

four_parts : (a b c d : Bool) → (a && b && c && d) ≡ true → (a ≡ true) × (b ≡ true) × (c ≡ true) × (d ≡ true)
four_parts true true true d h = (refl, refl, refl, h)
four_parts true true false d h = absurd (false≢true h)
four_parts true false c d h = absurd (false≢true h)
four_parts false b c d h = absurd (false≢true h)

five_parts : (a b c d e : Bool) → (a && b && c && d && e) ≡ true
    → (a ≡ true) × (b ≡ true) × (c ≡ true) × (d ≡ true) × (e ≡ true)
five_parts true b c d e h =
    let four = four_parts b c d e h in
    (refl, four.0, four.1, four.2, four.3)
five_parts false b c d e h = absurd (false≢true h)

-- the ids of the rows, as the test found them
record HaveIds (rows : Stored) : Type 0 where
  numbers : (nat_le rows.day.0 last_day ≡ true) × (nat_le 1 rows.ids.page ≡ true)
      × (nat_le 1 rows.ids.visit ≡ true) × (nat_le 7 rows.ids.item ≡ true)
  pages : are_ids rows.ids.page (stored_page_ids rows.pages) ≡ true
  visits : are_ids rows.ids.visit (stored_visit_ids rows.visits) ≡ true
  items : are_ids rows.ids.item (item_ids rows.items) ≡ true

have_ids : (rows : Stored) → have_good_ids rows ≡ true → HaveIds rows
have_ids rows h =
    let four =
    four_parts (are_good_numbers rows) (are_ids rows.ids.page (stored_page_ids rows.pages))
    (are_ids rows.ids.visit (stored_visit_ids rows.visits)) (are_ids rows.ids.item (item_ids rows.items)) h in
    record {
      numbers =
          four_parts (nat_le rows.day.0 last_day) (nat_le 1 rows.ids.page) (nat_le 1 rows.ids.visit)
          (nat_le 7 rows.ids.item) four.0;
      pages = four.1;
      visits = four.2;
      items = four.3;
    }

-- the ids ascend
ascending : (next : ℕ) (ids : List ℕ) → are_ids next ids ≡ true → IsStrictlyIncreasing ids
ascending next ids h =
    increases 0 ids (and_parts (ascends_above 0 ids) (list_all (λ id. nat_lt id next) ids) h).0

pub pages_rise : (rows : Stored) → have_good_ids rows ≡ true → IsStrictlyIncreasing (stored_page_ids rows.pages)
pages_rise rows h = ascending rows.ids.page (stored_page_ids rows.pages) (have_ids rows h).pages

pub visits_rise : (rows : Stored) → have_good_ids rows ≡ true → IsStrictlyIncreasing (stored_visit_ids rows.visits)
visits_rise rows h = ascending rows.ids.visit (stored_visit_ids rows.visits) (have_ids rows h).visits

pub items_rise : (rows : Stored) → have_good_ids rows ≡ true → IsStrictlyIncreasing (item_ids rows.items)
items_rise rows h = ascending rows.ids.item (item_ids rows.items) (have_ids rows h).items

roots-to : (rows : Stored) → have_roots rows.items ≡ true → HasRoots (stored_store rows)
roots-to rows h =
    let parts = and_parts (has_root rows.items) (list_all (has_top_folder rows.items) top_numbers) h in
    record {
      root = root-to rows.items parts.0;
      top =
          λ k d within. top-to rows.items (get_or top_numbers k d)
          (AllPass-from_list_all (has_top_folder rows.items) top_numbers parts.1 k d within);
    }

roots-from : (rows : Stored) → HasRoots (stored_store rows) → have_roots rows.items ≡ true
roots-from rows h =
    and_from (has_root rows.items) (list_all (has_top_folder rows.items) top_numbers) (root-from rows.items h.root)
    (list_all-from_AllPass (has_top_folder rows.items) top_numbers
    (λ k d within. top-from rows.items (get_or top_numbers k d) (h.top k d within)))

-- the two halves of the tests
halves : (rows : Stored) → are_good rows ≡ true → (have_good_ids rows ≡ true) × (have_good_rows rows ≡ true)
halves rows h = and_parts (have_good_ids rows) (have_good_rows rows) h

-- the rows, as the test found them
rows_parts : (rows : Stored) → have_good_rows rows ≡ true
    → (have_own_urls rows.pages ≡ true) × (list_all (is_good_page rows) rows.pages ≡ true)
    × (list_all (is_good_visit rows) rows.visits ≡ true)
    × (list_all (is_good_item rows.pages) rows.items ≡ true) × (have_roots rows.items ≡ true)
rows_parts rows h =
    five_parts (have_own_urls rows.pages) (list_all (is_good_page rows) rows.pages)
    (list_all (is_good_visit rows) rows.visits) (list_all (is_good_item rows.pages) rows.items)
    (have_roots rows.items) h

pub ids_rise : (rows : Stored) → are_good rows ≡ true → IsStrictlyIncreasing (item_ids rows.items)
ids_rise rows h = items_rise rows (halves rows h).0

pub page_ids_rise : (rows : Stored) → are_good rows ≡ true → IsStrictlyIncreasing (stored_page_ids rows.pages)
page_ids_rise rows h = pages_rise rows (halves rows h).0

pub visit_ids_rise : (rows : Stored) → are_good rows ≡ true → IsStrictlyIncreasing (stored_visit_ids rows.visits)
visit_ids_rise rows h = visits_rise rows (halves rows h).0

pub has_first : (rows : Stored) → are_good rows ≡ true → has_item rows.items (item_id 1) ≡ true
has_first rows h =
    let roots = (rows_parts rows (halves rows h).1).4 in
    root_there rows.items (and_parts (has_root rows.items) (list_all (has_top_folder rows.items) top_numbers) roots).0

pub good-to : (rows : Stored) → AreReadable rows → are_good rows ≡ true → HaveGoodTags rows.items → IsTree rows.items
    → IsGood (stored_store rows)
good-to rows read h tags tree =
    let ids = have_ids rows (halves rows h).0 in
    let five = rows_parts rows (halves rows h).1 in
    record {
      day = leb-true rows.day.0 last_day ids.numbers.0;
      page_ids =
          rw (map-map (λ (p : Page). p.id.0) stored_page rows.pages)
          (are_ids-to 1 rows.ids.page (stored_page_ids rows.pages) (leb-true 1 rows.ids.page ids.numbers.1)
          (omega (arith, read.ids.0)) ids.pages);
      visit_ids =
          rw (map-map (λ (v : Visit). v.id.0) visit_of rows.visits)
          (are_ids-to 1 rows.ids.visit (stored_visit_ids rows.visits) (leb-true 1 rows.ids.visit ids.numbers.2)
          (omega (arith, read.ids.1)) ids.visits);
      item_ids =
          are_ids-to 7 rows.ids.item (item_ids rows.items) (leb-true 7 rows.ids.item ids.numbers.3)
          (omega (arith, read.ids.2)) ids.items;
      pages =
          All-map (IsGoodPage (stored_store rows)) stored_page rows.pages
          (λ k d within. page-to rows (get_or rows.pages k d) (read.urls k d within) (read.titles k d within)
          (AllPass-from_list_all (is_good_page rows) rows.pages five.1 k d within));
      urls = AllPairs-map (λ (p q : Page). p.url ≢ q.url) stored_page rows.pages (own_urls-to rows.pages five.0);
      visits =
          All-map (IsGoodVisit (stored_store rows)) visit_of rows.visits
          (λ k d within. visit-to rows (get_or rows.visits k d)
          (AllPass-from_list_all (is_good_visit rows) rows.visits five.2 k d within));
      items =
          λ k d within. item-to rows (get_or rows.items k d) (read.item_titles k d within)
          (AllPass-from_list_all (is_good_item rows.pages) rows.items five.3 k d within);
      roots = roots-to rows five.4;
      tree = tree;
      tags = tags-to (stored_store rows) tags;
    }

ids-from : (rows : Stored) → IsGood (stored_store rows) → have_good_ids rows ≡ true
ids-from rows h =
    and_from _ (are_ids rows.ids.item (item_ids rows.items))
    (and_from _ (are_ids rows.ids.visit (stored_visit_ids rows.visits))
    (and_from (are_good_numbers rows) (are_ids rows.ids.page (stored_page_ids rows.pages))
    (and_from _ (nat_le 7 rows.ids.item)
    (and_from _ (nat_le 1 rows.ids.visit)
    (and_from (nat_le rows.day.0 last_day) (nat_le 1 rows.ids.page) (le-leb rows.day.0 last_day h.day)
    (le-leb 1 rows.ids.page h.page_ids.next_first))
    (le-leb 1 rows.ids.visit h.visit_ids.next_first))
    (le-leb 7 rows.ids.item h.item_ids.next_first))
    (are_ids-from 1 rows.ids.page (stored_page_ids rows.pages)
    (rw (map-map (λ (p : Page). p.id.0) stored_page rows.pages) at h.page_ids)))
    (are_ids-from 1 rows.ids.visit (stored_visit_ids rows.visits)
    (rw (map-map (λ (v : Visit). v.id.0) visit_of rows.visits) at h.visit_ids)))
    (are_ids-from 7 rows.ids.item (item_ids rows.items) h.item_ids)

pub good-from : (rows : Stored) → IsGood (stored_store rows) → are_good rows ≡ true
good-from rows h =
    and_from (have_good_ids rows) (have_good_rows rows) (ids-from rows h)
    (and_from _ (have_roots rows.items)
    (and_from _ (list_all (is_good_item rows.pages) rows.items)
    (and_from _ (list_all (is_good_visit rows) rows.visits)
    (and_from (have_own_urls rows.pages) (list_all (is_good_page rows) rows.pages)
    (own_urls-from rows.pages (AllPairs-from_map (λ (p q : Page). p.url ≢ q.url) stored_page rows.pages h.urls))
    (list_all-from_AllPass (is_good_page rows) rows.pages
    (λ k d within. page-from rows (get_or rows.pages k d)
    (All-from_map (IsGoodPage (stored_store rows)) stored_page rows.pages h.pages k d within))))
    (list_all-from_AllPass (is_good_visit rows) rows.visits
    (λ k d within. visit-from rows (get_or rows.visits k d)
    (All-from_map (IsGoodVisit (stored_store rows)) visit_of rows.visits h.visits k d within))))
    (list_all-from_AllPass (is_good_item rows.pages) rows.items
    (λ k d within. item-from rows (get_or rows.items k d) (h.items k d within))))
    (roots-from rows h.roots))

pub good_tags : (rows : Stored) → IsGood (stored_store rows) → HaveGoodTags rows.items
good_tags rows h = tags-from (stored_store rows) h.items h.tags

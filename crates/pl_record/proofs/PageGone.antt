-- Rows without a page that has no visit and no item, and without its origin if no other page has
-- that, stay rows of a store.
use Rattle.std.proofs.Common.{◌≡◌, ◌≢◌, ◌+◌, ◌<◌, ◌==◌, ◌∙◌, ℕ, All, Bool, true, false, IsTrue, List, [], ◌∷◌}
use Rattle.std.proofs.Common.{IfSome, None, Option, Some, ap, arith, eq-eqb, eqb-true, filter, find, get_or}
use Rattle.std.proofs.Common.{if◌then◌else◌, length, map, ne_eqb, not, refl, subst, sym}
use Rattle.std.specs.List.{AllByRecursion, Contains, list_any}
use Rattle.std.specs.Option.{IsSome, option_map}
use Rattle.std.proofs.lemmas.Bool.{false_from_ne_true, false≢true, not_from_false, not_from_true, true≢false}
use Rattle.std.proofs.lemmas.List.Elements.{All-filter, filter_passes}
use Rattle.std.proofs.lemmas.List.Kept.{AllPairs-filter, IsStrictlyIncreasing-filter}
use Rattle.pl_base.specs.declared.id.PageId.{PageId}
use Rattle.pl_base.specs.declared.id.Slot.{Slot}
use Rattle.pl_base.specs.declared.id.VisitId.{VisitId}
use Rattle.pl_base.specs.Address.{is_store_url}
use Rattle.pl_base.specs.Good.{AreIds, IsTitle, is_visited}
use Rattle.pl_base.specs.Live.{live_slots}
use Rattle.pl_base.specs.Marks.{is_referenced}
use Rattle.pl_base.specs.Rows.{AreAlike, IsWellKept, Kept, KeptOrigin, KeptPage, NamesOrigins, WithoutPage}
use Rattle.pl_base.specs.Rows.{has_origin, has_page, origin_names, other_pages, page_at, page_origins, store_of}
use Rattle.pl_base.specs.Rows.{totals_of}
use Rattle.pl_base.specs.Store.{Item, Visit}
use Rattle.pl_base.specs.Tree.{is_page}
use Rattle.pl_base.proofs.ItemLaws.{map-filter, one_less, sum_without}
use Rattle.pl_base.proofs.ListLaws.{everyone, found_in, some_in, weaker}
use Rattle.pl_base.proofs.LookUps.{found_one, none_at, none_pass}
use Rattle.pl_base.proofs.OneChanged.{once_by_number}
use Rattle.pl_base.proofs.PageLaws.{pages_apart}
use Rattle.pl_record.specs.Form.{AreRows}
use Rattle.pl_record.proofs.NamedSlots.{found_all, found_of}
use Rattle.pl_record.proofs.OriginsCounted.{all_named, has_number, numbered, one_origin, slots_of, texts_of}
use Rattle.pl_record.proofs.PagesChanged.{rows_still}

-- ---- what is left of a list

-- what is found stays where those that pass a test are left
find_left : {X : Type 0} (p q : X → Bool) (xs : List X) → AllByRecursion (λ x. p x ≡ true → q x ≡ true) xs
    → find p (filter q xs) ≡ find p xs
find_left p q [] stays = refl
find_left p q (x ∷ xs) stays = choose (q x) refl (find_left p q xs stays.1)
  where
    choose : (b : Bool) → q x ≡ b → find p (filter q xs) ≡ find p xs
        → find p (if b then x ∷ filter q xs else filter q xs) ≡ (if p x then Some x else find p xs)
    choose true is rest = ap (λ o. if p x then Some x else o) rest
    choose false is rest =
        rest
        ∙ sym (ap (λ b. if b then Some x else find p xs)
        (false_from_ne_true (p x) (λ passes. false≢true (sym is ∙ stays.0 passes))))

any_left : {X : Type 0} (p q : X → Bool) (xs : List X) → AllByRecursion (λ x. p x ≡ true → q x ≡ true) xs
    → list_any p xs ≡ true → list_any p (filter q xs) ≡ true
any_left p q xs stays some =
    some_in p (filter q xs) (subst IsSome (sym (find_left p q xs stays)) (found_in p xs some))

-- ---- the rows without the page

-- the origins without the one by this name, unless another page has it
abbrev pub origins_left : Bool → Slot → List KeptOrigin → List KeptOrigin
origins_left shared origin origins =
    if shared then origins else filter (λ (a : KeptOrigin). not (a.origin.0 == origin.0)) origins

-- the rows without the page, whose origin has this name
abbrev pub without_page : PageId → Bool → Slot → Kept → Kept
without_page page shared origin kept =
    record kept { pages = other_pages page kept.pages; origins = origins_left shared origin kept.origins }

-- a page of these has the name for its origin
abbrev pub is_shared : Slot → List KeptPage → Bool
is_shared origin ps = list_any (λ (q : KeptPage). q.origin.0 == origin.0) ps

module _ (kept : Kept) (page : PageId) (p : KeptPage) (h : IsWellKept kept) (found : page_at kept page ≡ Some p) where
  abbrev others : List KeptPage
  others = other_pages page kept.pages

  -- what another page passes, another page passes
  another : (test : KeptPage → Bool) → test p ≡ false → list_any test kept.pages ≡ true → list_any test others ≡ true
  another test fails some =
      any_left test (λ (q : KeptPage). not (q.page.id.0 == page.0)) kept.pages
      (weaker (λ (q : KeptPage). (q.page.id.0 == page.0) ≡ true → q ≡ p)
      (λ (q : KeptPage). test q ≡ true → not (q.page.id.0 == page.0) ≡ true) kept.pages
      (λ q one passes.
      not_from_false (q.page.id.0 == page.0)
      (false_from_ne_true (q.page.id.0 == page.0)
      (λ same. false≢true (sym fails ∙ ap test (sym (one same)) ∙ passes))))
      (found_one (λ (q : KeptPage). q.page.id.0) page.0 kept.pages p (pages_apart kept h) found)) some

  -- another page that is there is still there
  still_there : (id : PageId) → (id.0 == page.0) ≡ false → has_page kept id ≡ true
      → list_any (λ (q : KeptPage). q.page.id.0 == id.0) others ≡ true
  still_there id apart there =
      any_left (λ (q : KeptPage). q.page.id.0 == id.0) (λ (q : KeptPage). not (q.page.id.0 == page.0)) kept.pages
      (everyone (λ (q : KeptPage). (q.page.id.0 == id.0) ≡ true → not (q.page.id.0 == page.0) ≡ true) kept.pages
      (λ q same. ap (λ n. not (n == page.0)) (eqb-true q.page.id.0 id.0 same) ∙ not_from_false (id.0 == page.0) apart))
      there

  each_other : (P : KeptPage → Type 0) → All P kept.pages → All P others
  each_other P all = All-filter (λ (q : KeptPage). not (q.page.id.0 == page.0)) P kept.pages all

  all_alike : All (λ (q : KeptPage). All (AreAlike q) others) others
  all_alike k d within =
      each_other (AreAlike (get_or others k d))
      (each_other (λ (q : KeptPage). All (AreAlike q) kept.pages) h.origins.same k d within)

  -- ---- the names that are left

  -- the origin of a page that has another one stays
  stay : (q : KeptPage) → (q.origin.0 == p.origin.0) ≡ false
      → AllByRecursion (λ (a : KeptOrigin). (a.origin.0 == q.origin.0) ≡ true → not (a.origin.0 == p.origin.0) ≡ true)
      kept.origins
  stay q apart =
      everyone (λ (a : KeptOrigin). (a.origin.0 == q.origin.0) ≡ true → not (a.origin.0 == p.origin.0) ≡ true)
      kept.origins
      (λ a same.
      ap (λ n. not (n == p.origin.0)) (eqb-true a.origin.0 q.origin.0 same)
      ∙ not_from_false (q.origin.0 == p.origin.0) apart)

  names_left : (shared : Bool) → is_shared p.origin others ≡ shared
      → NamesOrigins (without_page page shared p.origin kept)
  names_left true is =
      record {
        distinct = h.origins.distinct;
        some = h.origins.some;
        known = each_other (λ (q : KeptPage). Contains (origin_names kept) q.origin.0) h.origins.known;
        used =
            λ k d within.
            let a : KeptOrigin = get_or kept.origins k d in
            has_number (λ (q : KeptPage). q.origin.0) others a.origin.0
            (choose a (numbered (λ (q : KeptPage). q.origin.0) kept.pages a.origin.0 (h.origins.used k d within))
            (p.origin.0 == a.origin.0) refl);
        same = all_alike;
      }
    where
      choose : (a : KeptOrigin) → is_shared a.origin kept.pages ≡ true → (b : Bool) → (p.origin.0 == a.origin.0) ≡ b
          → is_shared a.origin others ≡ true
      choose a some true same =
          subst (λ (n : ℕ). list_any (λ (q : KeptPage). q.origin.0 == n) others ≡ true)
          (eqb-true p.origin.0 a.origin.0 same) is
      choose a some false apart = another (λ (q : KeptPage). q.origin.0 == a.origin.0) apart some
  names_left false is =
      let stays : KeptOrigin → Bool = λ (a : KeptOrigin). not (a.origin.0 == p.origin.0) in
      record {
        distinct = AllPairs-filter (λ (a b : KeptOrigin). a.origin ≢ b.origin) stays kept.origins h.origins.distinct;
        some = All-filter stays (λ (a : KeptOrigin). 0 < a.origin.0) kept.origins h.origins.some;
        known =
            λ k d within.
            let q : KeptPage = get_or others k d in
            has_number (λ (a : KeptOrigin). a.origin.0) (filter stays kept.origins) q.origin.0
            (any_left (λ (a : KeptOrigin). a.origin.0 == q.origin.0) stays kept.origins
            (stay q (none_at (λ (r : KeptPage). r.origin.0 == p.origin.0) others is k d within))
            (each_other (λ (r : KeptPage). has_origin kept r.origin ≡ true) (all_named kept h.origins) k d within));
        used =
            λ k d within.
            let a : KeptOrigin = get_or (filter stays kept.origins) k d in
            has_number (λ (q : KeptPage). q.origin.0) others a.origin.0
            (another (λ (q : KeptPage). q.origin.0 == a.origin.0)
            (ne_eqb p.origin.0 a.origin.0
            (λ same.
            true≢false (sym (filter_passes stays kept.origins k d within)
            ∙ not_from_true (a.origin.0 == p.origin.0) (eq-eqb a.origin.0 p.origin.0 (sym same)))))
            (numbered (λ (q : KeptPage). q.origin.0) kept.pages a.origin.0
            (All-filter stays (λ (b : KeptOrigin). Contains (page_origins kept) b.origin.0) kept.origins
            h.origins.used k d within)));
        same = all_alike;
      }

  -- the other pages have the totals that they had
  totals_left : (shared : Bool) → is_shared p.origin others ≡ shared
      → totals_of (without_page page shared p.origin kept) others ≡ totals_of kept others
  totals_left true is = refl
  totals_left false is = each others (none_pass (λ (q : KeptPage). q.origin.0 == p.origin.0) others is)
    where
      each : (qs : List KeptPage) → AllByRecursion (λ (q : KeptPage). (q.origin.0 == p.origin.0) ≡ false) qs
          → totals_of (without_page page false p.origin kept) qs ≡ totals_of kept qs
      each [] apart = refl
      each (q ∷ qs) apart =
          let one = find_left (λ (a : KeptOrigin). a.origin.0 == q.origin.0)
          (λ (a : KeptOrigin). not (a.origin.0 == p.origin.0)) kept.origins (stay q apart.0) in
          let rest = each qs apart.1 in
          λ i. option_map (λ (a : KeptOrigin). a.total) (one i) ∷ rest i

  pub gone_page : (shared : Bool) → is_shared p.origin others ≡ shared
      → WithoutPage page kept (without_page page shared p.origin kept)
  gone_page shared is =
      record {
        day = refl;
        ids = refl;
        pages = refl;
        totals = totals_left shared is;
        visits = refl;
        items = refl;
      }

  -- ---- slots

  origins_gone : (shared : Bool)
      → length kept.origins ≡ length (origins_left shared p.origin kept.origins) + (if shared then 0 else 1)
  origins_gone true = omega arith
  origins_gone false =
      let named : KeptOrigin → Bool = λ (a : KeptOrigin). a.origin.0 == p.origin.0 in
      let one = found_of named kept.origins
      (found_all (λ (q : KeptPage). has_origin kept q.origin ≡ true) (λ (q : KeptPage). q.page.id.0 == page.0)
      kept.pages p (all_named kept h.origins) found) in
      omega (arith, one_less named kept.origins one.0 (one_origin kept p.origin.0 h.origins) one.1)

  -- those of the page and of its texts go, and that of its origin
  pub gone_slots : (shared : Bool) → is_shared p.origin others ≡ shared
      → live_slots (store_of kept)
      ≡ live_slots (store_of (without_page page shared p.origin kept)) + (1 + texts_of p) + (if shared then 0 else 1)
  gone_slots shared is =
      let once = once_by_number (λ (q : KeptPage). q.page.id.0) page.0 kept.pages h.page_ids.ascending in
      omega (
        arith,
        slots_of kept h.origins,
        slots_of (without_page page shared p.origin kept) (names_left shared is),
        origins_gone shared,
        one_less (λ (q : KeptPage). q.page.id.0 == page.0) kept.pages p once found,
        sum_without (λ (q : KeptPage). q.page.id.0 == page.0) texts_of kept.pages p once found,
      )

  -- ---- rows

  well_left : (shared : Bool) → is_shared p.origin others ≡ shared → is_visited (store_of kept) page ≡ false
      → IsWellKept (without_page page shared p.origin kept)
  well_left shared is unvisited =
      let other : ℕ → Bool = λ n. not (n == page.0) in
      let ids : List ℕ = map (λ (q : KeptPage). q.page.id.0) kept.pages in
      record {
        day = h.day;
        page_ids =
            subst (AreIds 1 kept.ids.page) (sym (map-filter (λ (q : KeptPage). q.page.id.0) other kept.pages))
            (record {
              ascending = IsStrictlyIncreasing-filter other ids h.page_ids.ascending;
              given = All-filter other (λ n. (0 < n) × (n < kept.ids.page)) ids h.page_ids.given;
              next_first = h.page_ids.next_first;
              next_last = h.page_ids.next_last;
            });
        visit_ids = h.visit_ids;
        item_ids = h.item_ids;
        urls = each_other (λ (q : KeptPage). IsTrue (is_store_url q.page.url)) h.urls;
        distinct_urls =
            AllPairs-filter (λ (q r : KeptPage). q.page.url ≢ r.page.url)
            (λ (q : KeptPage). not (q.page.id.0 == page.0)) kept.pages h.distinct_urls;
        titles = each_other (λ (q : KeptPage). IsTitle q.page.title) h.titles;
        visits =
            λ k d within. (
              (h.visits k d within).0,
              still_there (get_or kept.visits k d).page
                  (none_at (λ (v : Visit). v.page.0 == page.0) kept.visits unvisited k d within)
                  (h.visits k d within).1,
            );
        sources = h.sources;
        origins = names_left shared is;
        live = omega (arith, h.live, gone_slots shared is);
      }

  own_left : (own : Option PageId) → is_page page own ≡ false → IfSome own (λ id. has_page kept id ≡ true)
      → IfSome own (λ id. list_any (λ (q : KeptPage). q.page.id.0 == id.0) others ≡ true)
  own_left None apart there = tt
  own_left (Some id) apart there = still_there id apart there

  pub gone_rows : (targets : VisitId → List Visit) (shared : Bool) → is_shared p.origin others ≡ shared
      → is_visited (store_of kept) page ≡ false → is_referenced (store_of kept) page ≡ false → AreRows kept targets
      → AreRows (without_page page shared p.origin kept) targets
  gone_rows targets shared is unvisited unreferenced rows =
      rows_still kept kept.day kept.ids others (origins_left shared p.origin kept.origins) targets
      (well_left shared is unvisited)
      (λ k d within.
      own_left (get_or kept.items k d).page
      (none_at (λ (i : Item). is_page page i.page) kept.items unreferenced k d within) (rows.own k d within)) rows

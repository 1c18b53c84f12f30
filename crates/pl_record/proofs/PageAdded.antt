-- Rows with a page more, in an origin that is there or in a new one, stay rows of a store.
use Rattle.std.proofs.Common.{◌≡◌, ◌≢◌, ◌↔◌, ◌+◌, ◌<◌, ◌≤◌, ◌++◌, ◌==◌, ◌&&◌, ◌∙◌, ℕ, All, true, false, IsTrue, List}
use Rattle.std.proofs.Common.{[], ◌∷◌, None, Some, ap, arith, eq-eqb, eqb-true, get_or, map, refl, subst, sym}
use Rattle.std.specs.List.{AllPairs, Contains}
use Rattle.std.proofs.lemmas.Bool.{and_parts, false≢true}
use Rattle.std.proofs.lemmas.List.{length_push, map_push}
use Rattle.std.proofs.lemmas.List.Elements.{All-push, All-weaker, Contains-append_left, Contains-push}
use Rattle.std.proofs.lemmas.List.Folds.{Any-from_list_any}
use Rattle.std.proofs.lemmas.List.Kept.{AllPairs-from_increasing}
use Rattle.std.proofs.lemmas.List.Quantifiers.{all_pairs_push}
use Rattle.std.proofs.lemmas.List.Sums.{sum_by_push}
use Rattle.std.proofs.lemmas.Str.{IsUtf8-nil}
use Rattle.pl_base.specs.declared.id.Slot.{Slot}
use Rattle.pl_base.specs.declared.id.VisitId.{VisitId}
use Rattle.pl_base.specs.Address.{is_store_url, same_origin}
use Rattle.pl_base.specs.Good.{AreIds, IsTitle, end_of_ids}
use Rattle.pl_base.specs.Live.{chunks, live_slots, slot_limit}
use Rattle.pl_base.specs.Rows.{AreAlike, IsOriginOf, IsWellKept, Kept, KeptOrigin, KeptPage, NamesOrigins, WithPageIn}
use Rattle.pl_base.specs.Rows.{has_origin, live_with_page, next_page, origin_names, page_origins, store_of}
use Rattle.pl_base.specs.Rows.{with_new_page, with_origin, with_origins}
use Rattle.pl_base.specs.Store.{Page, Store, Visit}
use Rattle.pl_base.proofs.IdsLaws.{same_slot}
use Rattle.pl_base.proofs.ListLaws.{list_any_push}
use Rattle.pl_base.proofs.LookUps.{none_at}
use Rattle.pl_base.proofs.OriginLaws.{same_origin-self, same_origin-sym, same_origin-trans}
use Rattle.pl_record.specs.Form.{AreRows}
use Rattle.pl_record.proofs.OriginsCounted.{all_named, slots_of, texts_of}
use Rattle.pl_record.proofs.PagesChanged.{own_still, rows_still, visits_still}

-- ---- the names of origins

-- what holds of origins, of which one has the name and is that of a URL
record HasPlace (kept : Kept) (url : List ℕ) (origin : Slot) : Type 0 where
  pub distinct : AllPairs (λ (a b : KeptOrigin). a.origin ≢ b.origin) kept.origins
  pub some : All (λ (a : KeptOrigin). 0 < a.origin.0) kept.origins
  pub known : All (λ (p : KeptPage). Contains (origin_names kept) p.origin.0) kept.pages
  pub own : Contains (origin_names kept) origin.0
  pub used : All (λ (a : KeptOrigin). Contains (page_origins kept ++ origin.0 ∷ []) a.origin.0) kept.origins
  pub same : All (λ (p : KeptPage). All (AreAlike p) kept.pages) kept.pages
  pub alike : All (λ (p : KeptPage). (p.origin ≡ origin) ↔ IsTrue (same_origin p.page.url url)) kept.pages

names_pushed : (url : List ℕ) (origin : Slot) (kept : Kept) → is_store_url url ≡ true → HasPlace kept url origin
    → NamesOrigins (with_new_page url origin kept)
names_pushed url origin kept own h =
    let new : KeptPage = next_page url origin kept in
    record {
      distinct = h.distinct;
      some = h.some;
      known = All-push (λ (p : KeptPage). Contains (origin_names kept) p.origin.0) kept.pages new h.known h.own;
      used =
          subst (λ (names : List ℕ). All (λ (a : KeptOrigin). Contains names a.origin.0) kept.origins)
          (sym (map_push (λ (p : KeptPage). p.origin.0) kept.pages new)) h.used;
      same =
          All-push (λ (p : KeptPage). All (AreAlike p) (kept.pages ++ new ∷ [])) kept.pages new
          (λ k d within.
          All-push (AreAlike (get_or kept.pages k d)) kept.pages new (h.same k d within) (h.alike k d within))
          (All-push (AreAlike new) kept.pages new
          (λ k d within. (
            λ same. same_origin-sym (get_or kept.pages k d).page.url url ((h.alike k d within).0 (sym same)),
            λ same. sym ((h.alike k d within).1 (same_origin-sym url (get_or kept.pages k d).page.url same)),
          ))
          (λ _. same_origin-self url own, λ _. refl));
    }

-- the origins that pages had are had by one more page
used_more : (kept : Kept) (origin : Slot) → NamesOrigins kept
    → All (λ (a : KeptOrigin). Contains (page_origins kept ++ origin.0 ∷ []) a.origin.0) kept.origins
used_more kept origin h =
    All-weaker (λ (a : KeptOrigin). Contains (page_origins kept) a.origin.0)
    (λ (a : KeptOrigin). Contains (page_origins kept ++ origin.0 ∷ []) a.origin.0)
    (λ a used. Contains-append_left (page_origins kept) (origin.0 ∷ []) a.origin.0 used) kept.origins h.used

known_place : (url : List ℕ) (origin : Slot) (kept : Kept) → NamesOrigins kept → IsOriginOf kept url (Some origin)
    → HasPlace kept url origin
known_place url origin kept h there =
    let at =
    Any-from_list_any (λ (p : KeptPage). (p.origin.0 == origin.0) && same_origin p.page.url url) kept.pages there in
    let one : KeptPage = at.1 in
    let parts = and_parts (one.origin.0 == origin.0) (same_origin one.page.url url) at.4 in
    let named : one.origin ≡ origin = same_slot one.origin origin (eqb-true one.origin.0 origin.0 parts.0) in
    record {
      distinct = h.distinct;
      some = h.some;
      known = h.known;
      own =
          subst (λ (s : Slot). Contains (origin_names kept) s.0) (ap (λ (p : KeptPage). p.origin) at.3 ∙ named)
          (h.known at.0 one at.2);
      used = used_more kept origin h;
      same = h.same;
      alike =
          λ k d within.
          let p : KeptPage = get_or kept.pages k d in
          let like : AreAlike p one = subst (AreAlike p) at.3 (h.same k d within at.0 one at.2) in (
            λ same. same_origin-trans p.page.url one.page.url url (like.0 (same ∙ sym named)) parts.1,
            λ same. like.1 (same_origin-trans p.page.url url one.page.url same
                (same_origin-sym one.page.url url parts.1)) ∙ named,
          );
    }

new_place : (url : List ℕ) (origin : Slot) (kept : Kept) → NamesOrigins kept → IsOriginOf kept url None
    → 0 < origin.0 → has_origin kept origin ≡ false → HasPlace (with_origin origin kept) url origin
new_place url origin kept h apart some free =
    let one : KeptOrigin = record { origin = origin; total = 0 } in
    let names : origin_names (with_origin origin kept) ≡ origin_names kept ++ origin.0 ∷ [] =
    map_push (λ (a : KeptOrigin). a.origin.0) kept.origins one in
    record {
      distinct =
          all_pairs_push (λ (a b : KeptOrigin). a.origin ≢ b.origin) kept.origins one h.distinct
          (λ k d within same.
          false≢true (sym (none_at (λ (a : KeptOrigin). a.origin.0 == origin.0) kept.origins free k d within)
          ∙ eq-eqb (get_or kept.origins k d).origin.0 origin.0 (ap (λ (s : Slot). s.0) same)));
      some = All-push (λ (a : KeptOrigin). 0 < a.origin.0) kept.origins one h.some some;
      known =
          λ k d within.
          let n : ℕ = (get_or kept.pages k d).origin.0 in
          subst (λ (ns : List ℕ). Contains ns n) (sym names)
          (Contains-append_left (origin_names kept) (origin.0 ∷ []) n (h.known k d within));
      own = subst (λ (ns : List ℕ). Contains ns origin.0) (sym names) (Contains-push (origin_names kept) origin.0);
      used =
          All-push (λ (a : KeptOrigin). Contains (page_origins kept ++ origin.0 ∷ []) a.origin.0) kept.origins one
          (used_more kept origin h) (Contains-push (page_origins kept) origin.0);
      same = h.same;
      alike =
          λ k d within. (
            λ same. absurd (false≢true (sym free ∙ ap (has_origin kept) (sym same) ∙ all_named kept h k d within)),
            λ same. absurd (false≢true (sym (apart k d within) ∙ same)),
          );
    }

-- ---- the rows

-- the name does not bear on the store
same_store : (url : List ℕ) (origin : Slot) (kept : Kept) (origins : List KeptOrigin)
    → store_of (with_new_page url origin (with_origins origins kept))
    ≡ store_of (with_new_page url (record { 0 = 0 }) kept)
same_store url origin kept origins =
    ap (λ (ps : List Page). record (store_of kept) { ids = record kept.ids { page = kept.ids.page + 1 }; pages = ps })
    (map_push (λ (p : KeptPage). p.page) kept.pages (next_page url origin kept)
    ∙ sym (map_push (λ (p : KeptPage). p.page) kept.pages (next_page url (record { 0 = 0 }) kept)))

-- the next id behind those that were given
pub next_pushed : (first next : ℕ) (ids : List ℕ) → 0 < first → next < end_of_ids → AreIds first next ids
    → AreIds first (next + 1) (ids ++ next ∷ [])
next_pushed first next ids some room h =
    record {
      ascending =
          λ k within.
          all_pairs_push (λ m n. m < n) ids next (AllPairs-from_increasing ids h.ascending)
          (λ j d inside. (h.given j d inside).1) k (k + 1) 0 (omega arith) within;
      given =
          All-push (λ n. (0 < n) × (n < next + 1)) ids next
          (All-weaker (λ n. (0 < n) × (n < next)) (λ n. (0 < n) × (n < next + 1))
          (λ n given. (given.0, omega (arith, given.1))) ids h.given)
          (omega (arith, some, h.next_first), omega arith);
      next_first = omega (arith, h.next_first);
      next_last = omega (arith, room);
    }

pub ids_pushed : (next : ℕ) (ids : List ℕ) → next < end_of_ids → AreIds 1 next ids
    → AreIds 1 (next + 1) (ids ++ next ∷ [])
ids_pushed next ids room h = next_pushed 1 next ids (omega arith) room h

well_pushed : (url : List ℕ) (origin : Slot) (kept : Kept) (origins : List KeptOrigin) → is_store_url url ≡ true
    → All (λ (p : KeptPage). p.page.url ≢ url) kept.pages → kept.ids.page < end_of_ids
    → live_with_page url kept ≤ slot_limit
    → NamesOrigins (with_new_page url origin (with_origins origins kept)) → IsWellKept kept
    → IsWellKept (with_new_page url origin (with_origins origins kept))
well_pushed url origin kept origins own absent room fits named h =
    let new : KeptPage = next_page url origin kept in
    record {
      day = h.day;
      page_ids =
          subst (AreIds 1 (kept.ids.page + 1)) (sym (map_push (λ (p : KeptPage). p.page.id.0) kept.pages new))
          (ids_pushed kept.ids.page (map (λ (p : KeptPage). p.page.id.0) kept.pages) room h.page_ids);
      visit_ids = h.visit_ids;
      item_ids = h.item_ids;
      urls = All-push (λ (p : KeptPage). IsTrue (is_store_url p.page.url)) kept.pages new h.urls own;
      distinct_urls =
          all_pairs_push (λ (p q : KeptPage). p.page.url ≢ q.page.url) kept.pages new h.distinct_urls absent;
      titles =
          All-push (λ (p : KeptPage). IsTitle p.page.title) kept.pages new h.titles (IsUtf8-nil, omega arith);
      visits =
          visits_still kept (with_new_page url origin kept) kept.visits
          (λ id there. list_any_push (λ (p : KeptPage). p.page.id.0 == id.0) kept.pages new there) h.visits;
      sources = h.sources;
      origins = named;
      live = subst (λ (s : Store). live_slots s ≤ slot_limit) (sym (same_store url origin kept origins)) fits;
    }

rows_pushed : (url : List ℕ) (origin : Slot) (kept : Kept) (targets : VisitId → List Visit) (origins : List KeptOrigin)
    → is_store_url url ≡ true → All (λ (p : KeptPage). p.page.url ≢ url) kept.pages → kept.ids.page < end_of_ids
    → live_with_page url kept ≤ slot_limit
    → NamesOrigins (with_new_page url origin (with_origins origins kept)) → AreRows kept targets
    → AreRows (with_new_page url origin (with_origins origins kept)) targets
rows_pushed url origin kept targets origins own absent room fits named h =
    let new : KeptPage = next_page url origin kept in
    rows_still kept kept.day (record kept.ids { page = kept.ids.page + 1 }) (kept.pages ++ new ∷ []) origins targets
    (well_pushed url origin kept origins own absent room fits named h.well)
    (own_still kept (with_new_page url origin kept) kept.items
    (λ id there. list_any_push (λ (p : KeptPage). p.page.id.0 == id.0) kept.pages new there) h.own) h

-- ---- a page in an origin that is there

module _ (url : List ℕ) (origin : Slot) (kept : Kept) (own : is_store_url url ≡ true)
    (there : IsOriginOf kept url (Some origin)) where
  known_names : NamesOrigins kept → NamesOrigins (with_new_page url origin kept)
  known_names h = names_pushed url origin kept own (known_place url origin kept h there)

  pub known_rows : (targets : VisitId → List Visit) → All (λ (p : KeptPage). p.page.url ≢ url) kept.pages
      → kept.ids.page < end_of_ids → live_with_page url kept ≤ slot_limit → AreRows kept targets
      → AreRows (with_new_page url origin kept) targets
  known_rows targets absent room fits h =
      rows_pushed url origin kept targets kept.origins own absent room fits (known_names h.well.origins) h

  -- the slots of the page and of its URL come
  pub known_slots : NamesOrigins kept
      → live_slots (store_of (with_new_page url origin kept)) ≡ live_slots (store_of kept) + 1 + chunks url
  known_slots h =
      omega (
        arith,
        slots_of (with_new_page url origin kept) (known_names h),
        slots_of kept h,
        length_push kept.pages (next_page url origin kept),
        sum_by_push texts_of kept.pages (next_page url origin kept),
      )

  pub known_page : WithPageIn url (Some origin) kept (with_new_page url origin kept)
  known_page = refl

-- ---- a page in a new origin

module _ (url : List ℕ) (origin : Slot) (kept : Kept) (own : is_store_url url ≡ true)
    (apart : IsOriginOf kept url None) (some : 0 < origin.0) (free : has_origin kept origin ≡ false) where
  new_names : NamesOrigins kept → NamesOrigins (with_new_page url origin (with_origin origin kept))
  new_names h =
      names_pushed url origin (with_origin origin kept) own (new_place url origin kept h apart some free)

  pub new_rows : (targets : VisitId → List Visit) → All (λ (p : KeptPage). p.page.url ≢ url) kept.pages
      → kept.ids.page < end_of_ids → live_with_page url kept ≤ slot_limit → AreRows kept targets
      → AreRows (with_new_page url origin (with_origin origin kept)) targets
  new_rows targets absent room fits h =
      rows_pushed url origin kept targets (with_origin origin kept).origins own absent room fits
      (new_names h.well.origins) h

  -- the slots of the page, of its URL and of the origin come
  pub new_slots : NamesOrigins kept
      → live_slots (store_of (with_new_page url origin (with_origin origin kept)))
      ≡ live_slots (store_of kept) + 1 + chunks url + 1
  new_slots h =
      omega (
        arith,
        slots_of (with_new_page url origin (with_origin origin kept)) (new_names h),
        slots_of kept h,
        length_push kept.origins (record { origin = origin; total = 0 }),
        length_push kept.pages (next_page url origin kept),
        sum_by_push texts_of kept.pages (next_page url origin kept),
      )

  pub new_page : WithPageIn url None kept (with_new_page url origin (with_origin origin kept))
  new_page = (origin, refl)

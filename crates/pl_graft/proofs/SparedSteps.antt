-- The tally of the pages that stay where a tree is to come.
use Rattle.std.proofs.Common.{◌≡◌, ◌<◌, ◌≤◌, ◌∙◌, ◌+◌, ◌*◌, ◌^◌, ◌==◌, ◌||◌, ◌++◌, ℕ, Bool, true, false, List, []}
use Rattle.std.proofs.Common.{◌∷◌, Option, Some, None, ap, arith, bytes_eq, filter, if◌then◌else◌}
use Rattle.std.proofs.Common.{length, map, refl, subst, sym}
use Rattle.std.specs.Option.{is_none, is_some, option_map}
use Rattle.std.proofs.lemmas.List.{append-nil, length-append, length-map, length_push, map-append, map_push}
use Rattle.std.proofs.lemmas.List.Elements.{All-from_recursion, filter-append, recursion_from_All}
use Rattle.std.proofs.lemmas.List.Sums.{sum_by_push}
use Rattle.std.proofs.lemmas.Option.{same_Some}
use Rattle.pl_base.specs.declared.id.PageId.{PageId}
use Rattle.pl_base.specs.declared.id.VisitId.{VisitId}
use Rattle.pl_base.specs.Good.{IsTitle, longest_title}
use Rattle.pl_base.specs.Live.{chunks, live_slots, origin_count}
use Rattle.pl_base.specs.Removal.{is_standing}
use Rattle.pl_base.specs.Rows.{IsWellKept, Kept, KeptPage, first_id, page_at, page_visits, store_of, title_of, url_of}
use Rattle.pl_base.specs.Rows.{with_items}
use Rattle.pl_base.specs.Store.{Item, Page, Store, roots}
use Rattle.pl_base.specs.Visiting.{find_page, new_page, with_page_for}
use Rattle.pl_base.proofs.ListLaws.{list_any_push}
use Rattle.pl_base.proofs.LookUps.{found_holds}
use Rattle.pl_base.proofs.PageLaws.{id_at}
use Rattle.pl_base.proofs.PagesRun.{found_at, page_names}
use Rattle.pl_base.proofs.RootsLaws.{has_roots, no_tags, roots_are_good, roots_are_tree, roots_ascend}
use Rattle.pl_base.proofs.Walk.{StandsAt}
use Rattle.pl_history.proofs.GoodRows.{items_still}
use Rattle.pl_history.proofs.StandingPages.{stands_by_item, stands_by_visit}
use Rattle.pl_history.proofs.VisitRows.{grown_store}
use Rattle.pl_nbread.specs.declared.tree.Tree.{Tree}
use Rattle.pl_keyed.specs.declared.pages.Pages.{Pages}
use Rattle.pl_keyed.specs.declared.pages.urls.Named.{Named}
use Rattle.pl_keyed.specs.KnownPages.{IsOriginPage, KnowsPages, names}
use Rattle.pl_keyed.specs.KnownTags.{KnowsTags}
use Rattle.pl_keyed.specs.NamedUrls.{is_named}
use Rattle.pl_keyed.proofs.PageLookups.{not_in_front}
use Rattle.pl_graft.specs.declared.cost.Tally.{Tally}
use Rattle.pl_graft.specs.Ready.{IsReady}
use Rattle.pl_graft.specs.Restored.{emptied}
use Rattle.pl_graft.specs.Spared.{is_spared, stays, with_last, with_pages}
use Rattle.pl_graft.specs.Tally.{IsTallyOf, first_weight, size, spared_weight}
use Rattle.pl_graft.proofs.Slots.{live_page}

-- ---- a page more

abbrev texts : Page → ℕ
texts p = chunks p.url + chunks p.title

live_last : (store : Store) (p : Page) (origin : Option ℕ) → find_page p.url store.pages ≡ None
    → IsOriginPage store.pages p.url origin
    → live_slots (with_last true p store)
    ≡ live_slots store + (1 + chunks p.url + chunks p.title + (if is_none origin then 1 else 0))
live_last store p origin none of =
    let new : Page = new_page store p.url in
    let grown : live_slots (with_page_for store p.url) ≡ live_slots (grown_store store p.url) =
    ap (λ (o : Option Page). live_slots (if is_none o then grown_store store p.url else store)) none in
    let origins : origin_count (map (λ (q : Page). q.url) (store.pages ++ p ∷ []))
    ≡ origin_count (map (λ (q : Page). q.url) (store.pages ++ new ∷ [])) =
    ap origin_count
    (map_push (λ (q : Page). q.url) store.pages p ∙ sym (map_push (λ (q : Page). q.url) store.pages new)) in
    omega (
      arith,
      grown,
      live_page store p.url origin none of,
      origins,
      length_push store.pages p,
      length_push store.pages new,
      sum_by_push texts store.pages p,
      sum_by_push texts store.pages new,
    )

ready_last : (store : Store) (p : Page) → IsReady store → IsReady (with_last true p store)
ready_last store p r =
    record {
      good =
          items_still store (with_last true p store) refl
          (λ id there. list_any_push (λ (q : Page). q.id.0 == id.0) store.pages p there) r.good;
      ascending = r.ascending;
      below = r.below;
      first = r.first;
    }

pub last_taken : (old : Tally) (store : Store) (p : Page) (pages : Pages) (live : ℕ) (origin : Option ℕ)
    → IsTallyOf old store → find_page p.url store.pages ≡ None → IsOriginPage store.pages p.url origin
    → KnowsPages pages (store.pages ++ p ∷ [])
    → live ≡ 1 + chunks p.url + chunks p.title + (if is_none origin then 1 else 0)
    → IsTallyOf (record old { pages = pages; live = old.live + live }) (with_last true p store)
last_taken old store p pages live origin t none of known slots =
    record {
      pages = known;
      tags = t.tags;
      live =
          ap (λ (n : ℕ). n + live) t.live ∙ ap (λ (n : ℕ). live_slots store + n) slots
          ∙ sym (live_last store p origin none of);
      page = t.page;
      item = t.item;
      ready = ready_last store p t.ready;
    }

-- a page that does not stay
pub last_passed : (tally : Tally) (store : Store) (p : Page) (stays : Bool) → stays ≡ false → IsTallyOf tally store
    → IsTallyOf tally (with_last stays p store)
last_passed tally store p stays is t =
    subst (λ (b : Bool). IsTallyOf tally (with_last b p store)) (sym is)
    (subst (λ (ps : List Page). IsTallyOf tally (with_pages ps store)) (sym (append-nil store.pages)) t)

-- ---- a page of the rows

-- without bookmarks a page stands by its visits alone
pub stands_alone : (kept : Kept) (page : PageId) (latest : Option VisitId) (some : Bool)
    → latest ≡ first_id (page_visits kept page) → some ≡ is_some latest
    → some ≡ is_standing (emptied (store_of kept)) page
stands_alone kept page latest some is there = choose some refl
  where
    choose : (b : Bool) → some ≡ b → some ≡ is_standing (emptied (store_of kept)) page
    choose true here = stands_by_visit (with_items roots kept) page latest some is there here
    choose false here =
        here ∙ stands_by_item (with_items roots kept) page latest None some false is there here refl refl

-- the title of a page of the rows is not too long
pub title_fits : (kept : Kept) (page : PageId) (title : List ℕ) → IsWellKept kept
    → Some title ≡ title_of kept page → length title ≤ longest_title
title_fits kept page title h is = choose (page_at kept page) refl is
  where
    choose : (o : Option KeptPage) → page_at kept page ≡ o
        → Some title ≡ option_map (λ (p : KeptPage). p.page.title) o → length title ≤ longest_title
    choose None at told = absurd (cc)
    choose (Some p) at told =
        let same : p.page.title ≡ title = cc in
        subst (λ (t : List ℕ). length t ≤ longest_title) same
        (found_holds (λ (q : KeptPage). IsTitle q.page.title) (λ (q : KeptPage). q.page.id.0 == page.0) kept.pages p
        (recursion_from_All (λ (q : KeptPage). IsTitle q.page.title) kept.pages h.titles) at).1

module _ (kept : Kept) (page : PageId) (p : KeptPage) (at : page_at kept page ≡ Some p) where
  pub url_told : (url : List ℕ) → Some url ≡ url_of kept page → p.page.url ≡ url
  url_told url is =
      sym (same_Some url p.page.url (is ∙ ap (option_map (λ (q : KeptPage). q.page.url)) at))

  pub title_told : (title : List ℕ) → Some title ≡ title_of kept page → p.page.title ≡ title
  title_told title is =
      sym (same_Some title p.page.title (is ∙ ap (option_map (λ (q : KeptPage). q.page.title)) at))

  pub id_told : p.page.id ≡ page
  id_told = id_at kept page p at

  pub stays_told : (named : Named) (url : List ℕ) (b : Bool) → Some url ≡ url_of kept page
      → b ≡ (is_standing (emptied (store_of kept)) page || names named url)
      → stays named (emptied (store_of kept)) p.page ≡ b
  stays_told named url b told is =
      ap (λ (i : PageId). is_standing (emptied (store_of kept)) i || names named p.page.url) id_told
      ∙ ap (λ (u : List ℕ). is_standing (emptied (store_of kept)) page || names named u) (url_told url told)
      ∙ sym is

-- ---- all pages of the rows

-- a store without pages, bookmarks and tags
pub first_tally : (kept : Kept) (tally : Tally) → IsWellKept kept → KnowsPages tally.pages []
    → KnowsTags tally.tags [] → tally.live ≡ 6 + length kept.visits → tally.next_page ≡ kept.ids.page
    → tally.next_item ≡ kept.ids.item → IsTallyOf tally (with_pages [] (emptied (store_of kept)))
first_tally kept tally h pages tags live page item =
    record {
      pages = pages;
      tags = tags;
      live = omega (arith, live);
      page = page;
      item = item;
      ready =
          let store : Store = with_pages [] (emptied (store_of kept)) in
          record {
            good =
                record {
                  items = roots_are_good store;
                  roots = has_roots store;
                  tree = roots_are_tree;
                  tags = no_tags store;
                };
            ascending = roots_ascend;
            below = let late = h.item_ids.next_first in
                All-from_recursion (λ (i : Item). i.id.0 < kept.ids.item) roots
                (omega arith, (omega arith, (omega arith, (omega arith, (omega arith, (omega arith, tt))))));
            first = h.item_ids.next_first;
          };
    }

-- the tally is that of the pages in front that stay
pub record IsTallied (tree : Tree) (store : Store) (tally : Tally) (front : List KeptPage) : Type 0 where
  pub counted :
      IsTallyOf tally
      (with_pages (filter (is_spared tree store) (map (λ (p : KeptPage). p.page) front)) store)
  pub few : size tally ≤ first_weight + spared_weight * length front

-- a URL of no page is that of none of some of them
none_left : (test : Page → Bool) (url : List ℕ) (ps : List Page) → find_page url ps ≡ None
    → find_page url (filter test ps) ≡ None
none_left test url [] none = refl
none_left test url (p ∷ ps) none = choose (bytes_eq p.url url) refl none (test p) (none_left test url ps)
  where
    choose : (b : Bool) → bytes_eq p.url url ≡ b → (if b then Some p else find_page url ps) ≡ None → (k : Bool)
        → (find_page url ps ≡ None → find_page url (filter test ps) ≡ None)
        → find_page url (if k then p ∷ filter test ps else filter test ps) ≡ None
    choose true is some k rest = absurd (cc)
    choose false is nothing true rest = rw is (rest nothing)
    choose false is nothing false rest = rest nothing

module _ (kept : Kept) (h : IsWellKept kept) (tree : Tree) where
  abbrev left : List KeptPage → List Page
  left front = filter (is_spared tree (emptied (store_of kept))) (map (λ (p : KeptPage). p.page) front)

  -- no page counts too much
  pub room_here : (tally : Tally) (id : PageId)
      → (w : StandsAt page_names kept.pages (IsTallied tree (emptied (store_of kept)) tally) id)
      → size tally + spared_weight < 2 ^ 62
  room_here tally id w =
      omega (
        arith,
        w.so_far.few,
        ap length w.whole,
        length-append w.front (w.element ∷ w.rest),
        length-map kept.pages (λ (p : KeptPage). p.page),
        h.live,
      )

  -- a page more
  pub tallied_more : (named : Named) (old new : Tally) (id : PageId)
      → ((url : List ℕ) → names named url ≡ is_named tree url)
      → (w : StandsAt page_names kept.pages (IsTallied tree (emptied (store_of kept)) old) id)
      → size new ≤ size old + spared_weight
      → ((s : Store) (p : KeptPage) → IsTallyOf old s → page_at kept id ≡ Some p → find_page p.page.url s.pages ≡ None
      → IsTallyOf new (with_last (stays named (emptied (store_of kept)) p.page) p.page s))
      → IsTallied tree (emptied (store_of kept)) new (w.front ++ w.element ∷ [])
  tallied_more named old new id same w few makes =
      record {
        counted =
            subst (λ (ps : List Page). IsTallyOf new (with_pages ps (emptied (store_of kept)))) pages
            (makes (with_pages (left w.front) (emptied (store_of kept))) w.element w.so_far.counted
            (found_at kept id w.front w.element w.rest h w.whole w.is)
            (none_left (is_spared tree (emptied (store_of kept))) w.element.page.url
            (map (λ (p : KeptPage). p.page) w.front)
            (not_in_front kept w.front w.element w.rest h w.whole)));
        few = omega (arith, few, w.so_far.few, length_push w.front w.element);
      }
    where
      pages : left w.front ++ (if stays named (emptied (store_of kept)) w.element.page then w.element.page ∷ [] else [])
          ≡ left (w.front ++ w.element ∷ [])
      pages =
          ap (λ (b : Bool).
          left w.front
          ++ (if is_standing (emptied (store_of kept)) w.element.page.id || b then w.element.page ∷ [] else []))
          (same w.element.page.url)
          ∙ sym (filter-append (is_spared tree (emptied (store_of kept))) (map (λ (p : KeptPage). p.page) w.front)
          (w.element.page ∷ []))
          ∙ ap (filter (is_spared tree (emptied (store_of kept))))
          (sym (map-append (λ (p : KeptPage). p.page) w.front (w.element ∷ [])))

  -- in the end
  pub room_left : (more : ℕ) (tally : Tally) → more ≤ 2 ^ 38
      → IsTallied tree (emptied (store_of kept)) tally kept.pages → size tally + more < 2 ^ 62
  room_left more tally le t =
      omega (arith, le, t.few, length-map kept.pages (λ (p : KeptPage). p.page), h.live)

-- none are in front at first
pub first_tallied : (kept : Kept) (tree : Tree) (tally : Tally)
    → IsTallyOf tally (with_pages [] (emptied (store_of kept))) → size tally ≤ first_weight
    → IsTallied tree (emptied (store_of kept)) tally []
first_tallied kept tree tally t few = record { counted = t; few = omega (arith, few) }

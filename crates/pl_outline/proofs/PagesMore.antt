-- Pages by their URLs, where a store gets one more.
use Rattle.std.proofs.Common.{◌≡◌, ◌≢◌, ◌∙◌, ◌<◌, ◌≤◌, ◌+◌, ◌++◌, ◌==◌, ◌&&◌, ◌||◌, ℕ, All, Bool, true, false}
use Rattle.std.proofs.Common.{List, [], ◌∷◌, Option, Some, None, IfSome, ap, arith, bytes_eq, eq-eqb, find}
use Rattle.std.proofs.Common.{if◌then◌else◌, map, refl, subst, suc, sym}
use Rattle.std.specs.Prelude.{IsTrue, is_none, unwrap_or}
use Rattle.std.specs.List.{AllByRecursion, AllPairs, filter_map, list_any}
use Rattle.std.specs.List.Sorted.{IsStrictlyIncreasing}
use Rattle.std.specs.Option.{option_or}
use Rattle.std.proofs.lemmas.Bool.{eqb-true, false_from_ne_true, ne_eqb, true≢false}
use Rattle.std.proofs.lemmas.List.{map_push}
use Rattle.std.proofs.lemmas.List.Elements.{All-from_recursion, All-map, All-push, All-weaker, recursion_from_All}
use Rattle.std.proofs.lemmas.List.Folds.{find-append}
use Rattle.std.proofs.lemmas.List.Quantifiers.{all_pairs_push}
use Rattle.std.proofs.lemmas.Option.{none-some, same_Some}
use Rattle.std.proofs.lemmas.Slice.Eq.{bytes_eq-Decides}
use Rattle.pl_base.specs.declared.id.ItemId.{ItemId}
use Rattle.pl_base.specs.declared.id.PageId.{PageId}
use Rattle.pl_base.specs.Good.{IsGoodItem, has_page_at}
use Rattle.pl_base.specs.Store.{Item, Page, Store}
use Rattle.pl_base.specs.Tags.{tags_of}
use Rattle.pl_base.specs.Tree.{child_items, children_of, is_page, item_at}
use Rattle.pl_base.specs.Visiting.{find_page, new_page, page_for, with_page_for}
use Rattle.pl_base.proofs.IdsLaws.{same_page}
use Rattle.pl_base.proofs.ListLaws.{list_any-map, weaker}
use Rattle.pl_base.proofs.LookUps.{Apart, any_none, both, found_holds, found_passes, none_found}
use Rattle.pl_base.proofs.LookUps.{apart_increasing}
use Rattle.pl_base.proofs.Truths.{same_tests}
use Rattle.pl_tree.proofs.GoodStores.{ascends_push}
use Rattle.pl_keyed.specs.TagRows.{TagEntry, TagRow, entry_row, holds, tag_row, tag_rows}
use Rattle.pl_graft.specs.Ready.{IsReady}
use Rattle.pl_outline.proofs.Bare.{HasPages}
use Rattle.pl_outline.proofs.TagMarks.{marks}

-- ---- tests

-- two that are found are one where their keys are
one_found : {X : Type 0} (key : X → ℕ) (p q : X → Bool) (xs : List X) (a b : X) → Apart key xs → find p xs ≡ Some a
    → find q xs ≡ Some b → key a ≡ key b → a ≡ b
one_found key p q [] a b apart first second same = absurd (cc)
one_found {X} key p q (x ∷ xs) a b apart first second same =
    choose (p x) (q x) first second (λ f g. one_found key p q xs a b apart.1 f g same)
  where
    choose : (t u : Bool) → (if t then Some x else find p xs) ≡ Some a → (if u then Some x else find q xs) ≡ Some b
        → (find p xs ≡ Some a → find q xs ≡ Some b → a ≡ b) → a ≡ b
    choose true true f g rest = sym (same_Some x a f) ∙ same_Some x b g
    choose true false f g rest =
        absurd (found_holds (λ y. key y ≢ key x) q xs b apart.0 g (sym same ∙ ap key (sym (same_Some x a f))))
    choose false true f g rest =
        absurd (found_holds (λ y. key y ≢ key x) p xs a apart.0 f (same ∙ ap key (sym (same_Some x b g))))
    choose false false f g rest = rest f g

-- ---- looking up

module _ (store : Store) (h : HasPages store) where
  pub page_ids : Apart (λ (p : Page). p.id.0) store.pages
  page_ids =
      apart_increasing (λ (p : Page). p.id.0) store.pages h.ascending

  below : AllByRecursion (λ (p : Page). p.id.0 < store.ids.page) store.pages
  below = recursion_from_All (λ (p : Page). p.id.0 < store.ids.page) store.pages h.below

  -- the page of a URL is that of another one where the URLs are one
  pub page_of_url : (v u : List ℕ) (p : Page) → find_page v store.pages ≡ Some p
      → (p.id.0 == (page_for store u).id.0) ≡ bytes_eq v u
  page_of_url v u p found = choose (find_page u store.pages) refl
    where
      url : p.url ≡ v
      url = (bytes_eq-Decides p.url v).0 (found_passes (λ (q : Page). bytes_eq q.url v) store.pages p found)

      choose : (o : Option Page) → find_page u store.pages ≡ o
          → (p.id.0 == (unwrap_or o (new_page store u)).id.0) ≡ bytes_eq v u
      choose None none =
          let lower : p.id.0 < store.ids.page =
          found_holds (λ (q : Page). q.id.0 < store.ids.page) (λ (q : Page). bytes_eq q.url v) store.pages p below found
          in
          ne_eqb p.id.0 store.ids.page (λ same. omega arith)
          ∙ sym (false_from_ne_true (bytes_eq v u) (λ same.
          none-some p (sym none ∙ ap (λ (w : List ℕ). find_page w store.pages)
          (sym ((bytes_eq-Decides v u).0 same)) ∙ found)))
      choose (Some q) other =
          same_tests (p.id.0 == q.id.0) (bytes_eq v u)
          (λ same.
          let one : p ≡ q =
          one_found (λ (r : Page). r.id.0) (λ (r : Page). bytes_eq r.url v) (λ (r : Page). bytes_eq r.url u) store.pages
          p q page_ids found other (eqb-true p.id.0 q.id.0 same) in
          (bytes_eq-Decides v u).1
          (sym url ∙ ap (λ (r : Page). r.url) one
          ∙ (bytes_eq-Decides q.url u).0 (found_passes (λ (r : Page). bytes_eq r.url u) store.pages q other)))
          (λ same.
          let one : p ≡ q =
          same_Some p q (sym found ∙ ap (λ (w : List ℕ). find_page w store.pages) ((bytes_eq-Decides v u).0 same)
          ∙ other) in
          eq-eqb p.id.0 q.id.0 (ap (λ (r : Page). r.id.0) one))

-- each page is found by its URL
urls_found : (pages : List Page) → AllPairs (λ (p q : Page). p.url ≢ q.url) pages
    → AllByRecursion (λ (p : Page). find_page p.url pages ≡ Some p) pages
urls_found [] pairs = tt
urls_found (p ∷ ps) pairs = (
  ap (λ (b : Bool). if b then Some p else find_page p.url ps) ((bytes_eq-Decides p.url p.url).1 refl),
  both (λ (q : Page). p.url ≢ q.url) (λ (q : Page). find_page q.url ps ≡ Some q)
      (λ (q : Page). find_page q.url (p ∷ ps) ≡ Some q) ps
      (λ q other found.
      ap (λ (b : Bool). if b then Some p else find_page q.url ps)
      (false_from_ne_true (bytes_eq p.url q.url) (λ same. other ((bytes_eq-Decides p.url q.url).0 same))) ∙ found)
      (recursion_from_All (λ (q : Page). p.url ≢ q.url) ps
      (λ k d within. pairs 0 (suc k) d (omega arith) (omega arith)))
      (urls_found ps (λ i j d before within. pairs (suc i) (suc j) d (omega arith) (omega arith))),
)

-- a page that is found by its id is the one of its URL
pub own_page : (store : Store) (id : PageId) (p : Page) → HasPages store
    → find (λ (q : Page). q.id.0 == id.0) store.pages ≡ Some p → (page_for store p.url).id ≡ id
own_page store id p h found =
    ap (λ (o : Option Page). (unwrap_or o (new_page store p.url)).id)
    (found_holds (λ (q : Page). find_page q.url store.pages ≡ Some q) (λ (q : Page). q.id.0 == id.0) store.pages p
    (urls_found store.pages h.urls) found)
    ∙ same_page p.id id (found_passes (λ (q : Page). q.id.0 == id.0) store.pages p found)

abbrev page_with : List ℕ → ℕ → Page
page_with url n = record { id = record { 0 = n }; url = url; title = []; typed = false }

-- the same pages and the same next id give the same page
pub page_for_same : (a b : Store) (url : List ℕ) → a.pages ≡ b.pages → a.ids.page ≡ b.ids.page
    → page_for a url ≡ page_for b url
page_for_same a b url pages next =
    ap (λ (ps : List Page). unwrap_or (find_page url ps) (page_with url a.ids.page)) pages
    ∙ ap (λ (n : ℕ). unwrap_or (find_page url b.pages) (page_with url n)) next

pub has_pages_same : (a b : Store) → a.pages ≡ b.pages → a.ids.page ≡ b.ids.page → HasPages a → HasPages b
has_pages_same a b pages next h =
    record {
      ascending = subst (λ (ps : List Page). IsStrictlyIncreasing (map (λ (p : Page). p.id.0) ps)) pages h.ascending;
      below =
          subst (λ (ps : List Page). All (λ (p : Page). p.id.0 < b.ids.page) ps) pages
          (subst (λ (n : ℕ). All (λ (p : Page). p.id.0 < n) a.pages) next h.below);
      urls = subst (λ (ps : List Page). AllPairs (λ (p q : Page). p.url ≢ q.url) ps) pages h.urls;
    }

-- ---- a page more

module _ (store : Store) (url : List ℕ) where
  abbrev pages_more : List Page
  pages_more = store.pages ++ new_page store url ∷ []

  -- the store with the page, where there is none of that URL
  abbrev grown : Store
  grown = record store { pages = pages_more; ids = record store.ids { page = store.ids.page + 1 } }

  pub has_pages_for : HasPages store → HasPages (with_page_for store url)
  has_pages_for h = choose (find_page url store.pages) refl
    where
      choose : (o : Option Page) → find_page url store.pages ≡ o → HasPages (if is_none o then grown else store)
      choose (Some p) found = h
      choose None none =
          record {
            ascending =
                subst IsStrictlyIncreasing (sym (map_push (λ (p : Page). p.id.0) store.pages (new_page store url)))
                (ascends_push (map (λ (p : Page). p.id.0) store.pages) store.ids.page h.ascending
                (All-map (λ m. m < store.ids.page) (λ (p : Page). p.id.0) store.pages h.below));
            below =
                All-push (λ (p : Page). p.id.0 < store.ids.page + 1) store.pages (new_page store url)
                (All-weaker (λ (p : Page). p.id.0 < store.ids.page) (λ (p : Page). p.id.0 < store.ids.page + 1)
                (λ p lower. omega arith) store.pages h.below)
                (omega arith);
            urls =
                all_pairs_push (λ (p q : Page). p.url ≢ q.url) store.pages (new_page store url) h.urls
                (All-from_recursion (λ (p : Page). p.url ≢ url) store.pages
                (weaker (λ (p : Page). bytes_eq p.url url ≡ false) (λ (p : Page). p.url ≢ url) store.pages
                (λ p other same. true≢false (sym ((bytes_eq-Decides p.url url).1 same) ∙ other))
                (none_found (λ (p : Page). bytes_eq p.url url) store.pages none)));
          }

  -- the page is found then
  pub found_for : find_page url (with_page_for store url).pages ≡ Some (page_for store url)
  found_for = choose (find_page url store.pages) refl
    where
      choose : (o : Option Page) → find_page url store.pages ≡ o
          → find_page url (if is_none o then grown else store).pages ≡ Some (unwrap_or o (new_page store url))
      choose (Some p) found = found
      choose None none =
          find-append (λ (p : Page). bytes_eq p.url url) store.pages (new_page store url ∷ [])
          ∙ ap (λ (o : Option Page). option_or o (find_page url (new_page store url ∷ []))) none
          ∙ ap (λ (b : Bool). if b then Some (new_page store url) else None) ((bytes_eq-Decides url url).1 refl)

-- ---- no row holds a page that is not there

-- what holds of all items holds of those that are looked up
pub of_looked_up : (P : Item → Type 0) (items : List Item) → AllByRecursion P items → (ids : List ItemId)
    → AllByRecursion P (filter_map (item_at items) ids)
of_looked_up P items all [] = tt
of_looked_up P items all (id ∷ ids) = choose (item_at items id) refl (of_looked_up P items all ids)
  where
    choose : (o : Option Item) → item_at items id ≡ o → AllByRecursion P (filter_map (item_at items) ids)
        → AllByRecursion P (filter_map (item_at items) (id ∷ ids))
    choose None is rest = rw is rest
    choose (Some i) is rest =
        rw is (found_holds P (λ (j : Item). j.id.0 == id.0) items i all is, rest)

module _ (store : Store) (ready : IsReady store) (h : HasPages store) (id : PageId) (late : store.ids.page ≤ id.0) where
  not_there : has_page_at store id ≡ false
  not_there =
      any_none (λ (p : Page). p.id.0 == id.0) store.pages
      (weaker (λ (p : Page). p.id.0 < store.ids.page) (λ (p : Page). (p.id.0 == id.0) ≡ false) store.pages
      (λ p lower. ne_eqb p.id.0 id.0 (λ same. omega arith)) (below store h))

  -- it is the page of no item
  unlike : (page : Option PageId) → IfSome page (λ q. IsTrue (has_page_at store q)) → is_page id page ≡ false
  unlike None there = refl
  unlike (Some q) there =
      false_from_ne_true (q.0 == id.0) (λ same.
      true≢false (sym there ∙ ap (has_page_at store) (same_page q id same) ∙ not_there))

  items_unlike : AllByRecursion (λ (i : Item). is_page id i.page ≡ false) store.items
  items_unlike =
      weaker (IsGoodItem store) (λ (i : Item). is_page id i.page ≡ false) store.items (λ i g. unlike i.page g.page)
      (recursion_from_All (IsGoodItem store) store.items ready.good.items)

  held_by_none : (t : Item) → holds id (tag_row store.items t) ≡ false
  held_by_none t =
      list_any-map (λ (e : TagEntry). is_page id e.page) entry_row (child_items store.items t.id)
      ∙ any_none (λ (i : Item). is_page id i.page) (child_items store.items t.id)
      (of_looked_up (λ (i : Item). is_page id i.page ≡ false) store.items items_unlike (children_of store.items t.id))

  pub unmarked : (title : List ℕ) → marks id title (tag_rows store.items) ≡ false
  unmarked title =
      list_any-map (λ (r : TagRow). bytes_eq r.title title && holds id r) (tag_row store.items) (tags_of store)
      ∙ none (tags_of store)
    where
      and_false : (a b : Bool) → b ≡ false → (a && b) ≡ false
      and_false true b is = is
      and_false false b is = refl

      none : (ts : List Item)
          → list_any (λ (t : Item). bytes_eq t.title title && holds id (tag_row store.items t)) ts ≡ false
      none [] = refl
      none (t ∷ ts) =
          ap (λ (b : Bool).
          b || list_any (λ (u : Item). bytes_eq u.title title && holds id (tag_row store.items u)) ts)
          (and_false (bytes_eq t.title title) (holds id (tag_row store.items t)) (held_by_none t))
          ∙ none ts

-- ---- the page of each URL has the tags that it had

module _ (store : Store) (ready : IsReady store) (h : HasPages store) (url : List ℕ) (title : List ℕ) where
  pub marks_page : (v : List ℕ)
      → marks (page_for (with_page_for store v) url).id title (tag_rows store.items)
      ≡ marks (page_for store url).id title (tag_rows store.items)
  marks_page v = choose (find_page v store.pages) (find_page url store.pages) refl
    where
      found_in : (b : Bool) → find_page url store.pages ≡ None
          → marks (unwrap_or (if b then Some (new_page store v) else None)
          (new_page (grown store v) url)).id title (tag_rows store.items)
          ≡ marks (new_page store url).id title (tag_rows store.items)
      found_in true none = refl
      found_in false none =
          unmarked store ready h (record { 0 = store.ids.page + 1 }) (omega arith) title
          ∙ sym (unmarked store ready h (record { 0 = store.ids.page }) (omega arith) title)

      more : (o : Option Page) → find_page url store.pages ≡ o
          → find_page url (grown store v).pages
          ≡ option_or o (if bytes_eq v url then Some (new_page store v) else None)
      more o is =
          find-append (λ (p : Page). bytes_eq p.url url) store.pages (new_page store v ∷ [])
          ∙ ap (λ (q : Option Page). option_or q (if bytes_eq v url then Some (new_page store v) else None)) is

      choose : (f o : Option Page) → find_page url store.pages ≡ o
          → marks (page_for (if is_none f then grown store v else store) url).id title (tag_rows store.items)
          ≡ marks (unwrap_or o (new_page store url)).id title (tag_rows store.items)
      choose (Some p) o is =
          ap (λ (q : Option Page). marks (unwrap_or q (new_page store url)).id title (tag_rows store.items)) is
      choose None (Some q) is =
          ap (λ (r : Option Page).
          marks (unwrap_or r (new_page (grown store v) url)).id title (tag_rows store.items))
          (more (Some q) is)
      choose None None is =
          ap (λ (r : Option Page).
          marks (unwrap_or r (new_page (grown store v) url)).id title (tag_rows store.items))
          (more None is)
          ∙ found_in (bytes_eq v url) is

-- What is shown of an item without its tags, by the pages alone.
use Rattle.std.proofs.Common.{◌≡◌, ◌∙◌, ◌<◌, ◌≤◌, ◌+◌, ◌++◌, ◌==◌, ◌||◌, ℕ, All, Bool, true, false}
use Rattle.std.proofs.Common.{List, [], ◌∷◌, Option, Some, None, IfSome, ap, arith, bytes_eq, eq-eqb, find}
use Rattle.std.proofs.Common.{if◌then◌else◌, length, map, refl, subst, suc, sym}
use Rattle.std.specs.Prelude.{IsTrue}
use Rattle.std.specs.List.{AllByRecursion, AllPairs, list_any}
use Rattle.std.specs.Option.{is_none, option_and_then, option_map, unwrap_or}
use Rattle.std.proofs.lemmas.Bool.{le-leb, ne_eqb}
use Rattle.std.proofs.lemmas.List.Elements.{recursion_from_All}
use Rattle.std.proofs.lemmas.List.Kept.{AllPairs-from_increasing}
use Rattle.std.proofs.lemmas.Slice.Eq.{bytes_eq-Decides}
use Rattle.pl_base.specs.declared.id.ItemId.{ItemId}
use Rattle.pl_base.specs.declared.id.PageId.{PageId}
use Rattle.pl_base.specs.Good.{IsTitle, has_page_at, longest_title}
use Rattle.pl_base.specs.Store.{Item, Page, Store}
use Rattle.pl_base.specs.Title.{cut_title}
use Rattle.pl_base.specs.Tree.{new_item}
use Rattle.pl_base.specs.Visiting.{find_page, new_page, page_for, with_page_for}
use Rattle.pl_base.proofs.ListLaws.{AllPairs-from_map}
use Rattle.pl_base.proofs.LookUps.{found_holds, found_passes}
use Rattle.pl_nbread.specs.declared.tree.Node.{Node}
use Rattle.pl_graft.specs.Import.{node_row, page_of, with_page_of}
use Rattle.pl_tree.specs.declared.place.Place.TheVariants.{End}
use Rattle.pl_tree.specs.Changes.{put}
use Rattle.pl_outline.specs.Outline.{whole_node}
use Rattle.pl_outline.proofs.Bare.{HasPages, bare}
use Rattle.pl_outline.proofs.OneMore.{grown}
use Rattle.pl_outline.proofs.PagesMore.{has_pages_for}

-- ---- what is shown

-- the URL of a page
abbrev url_in : List Page → PageId → Option (List ℕ)
url_in pages id = option_map (λ (p : Page). p.url) (find (λ (p : Page). p.id.0 == id.0) pages)

-- an item with this address and this title
abbrev made : ℕ → Item → Option (List ℕ) → List ℕ → Node
made d i url title =
    record {
      depth = d;
      kind = i.kind;
      url = url;
      title = title;
      added = i.added;
      modified = i.modified;
      tags = [];
    }

-- the node of an item without its tags
pub shown : List Page → ℕ → Item → Node
shown pages d i = made d i (option_and_then (url_in pages) i.page) i.title

pub shown_is : (store : Store) (d : ℕ) (i : Item) → bare (whole_node store d i) ≡ shown store.pages d i
unfolding shown
shown_is store d i = refl

-- children are not shown
pub shown_grown : (pages : List Page) (p id : ItemId) (d : ℕ) (i : Item)
    → shown pages d (grown p id i) ≡ shown pages d i
unfolding shown
shown_grown pages p id d i = choose (i.id.0 == p.0)
  where
    choose : (b : Bool)
        → shown pages d (if b then record i { children = put End id i.children } else i) ≡ shown pages d i
    choose true = refl
    choose false = refl

-- ---- a page more

found_before : (test : Page → Bool) (pages more : List Page) → list_any test pages ≡ true
    → find test (pages ++ more) ≡ find test pages
found_before test [] more some = absurd (cc)
found_before test (p ∷ pages) more some = choose (test p) some (found_before test pages more)
  where
    choose : (b : Bool) → (b || list_any test pages) ≡ true
        → (list_any test pages ≡ true → find test (pages ++ more) ≡ find test pages)
        → (if b then Some p else find test (pages ++ more)) ≡ (if b then Some p else find test pages)
    choose true some rest = refl
    choose false some rest = rest some

same_url : (store : Store) (url : List ℕ) (id : PageId) → IsTrue (has_page_at store id)
    → url_in (with_page_for store url).pages id ≡ url_in store.pages id
same_url store url id there = choose (is_none (find_page url store.pages))
  where
    more : Store
    more =
        record store {
          pages = store.pages ++ new_page store url ∷ [];
          ids = record store.ids { page = store.ids.page + 1 };
        }

    choose : (b : Bool) → url_in (if b then more else store).pages id ≡ url_in store.pages id
    choose true =
        ap (option_map (λ (p : Page). p.url))
        (found_before (λ (p : Page). p.id.0 == id.0) store.pages (new_page store url ∷ []) there)
    choose false = refl

same_urls : (url : Option (List ℕ)) (store : Store) (id : PageId) → IsTrue (has_page_at store id)
    → url_in (with_page_of url store).pages id ≡ url_in store.pages id
same_urls None store id there = refl
same_urls (Some u) store id there = same_url store u id there

-- an item whose page is there is shown as before
pub shown_page : (url : Option (List ℕ)) (store : Store) (d : ℕ) (i : Item)
    → IfSome i.page (λ id. IsTrue (has_page_at store id))
    → shown (with_page_of url store).pages d i ≡ shown store.pages d i
unfolding shown
shown_page url store d i there = ap (λ (u : Option (List ℕ)). made d i u i.title) (same i.page there)
  where
    same : (o : Option PageId) → IfSome o (λ id. IsTrue (has_page_at store id))
        → option_and_then (url_in (with_page_of url store).pages) o ≡ option_and_then (url_in store.pages) o
    same None has = refl
    same (Some id) has = same_urls url store id has

-- ---- pages

-- a page that is found is found by its id
own_page : (pages : List Page) → AllPairs (λ (p q : Page). p.id.0 < q.id.0) pages → (test : Page → Bool) (p : Page)
    → find test pages ≡ Some p → find (λ (q : Page). q.id.0 == p.id.0) pages ≡ Some p
own_page [] pairs test p found = absurd (cc)
own_page (q ∷ pages) pairs test p found =
    choose (test q) found
    (own_page pages (λ i j d before within. pairs (suc i) (suc j) d (omega arith) (omega arith)) test p)
  where
    above : find test pages ≡ Some p → q.id.0 < p.id.0
    above is =
        found_holds (λ (z : Page). q.id.0 < z.id.0) test pages p
        (recursion_from_All (λ (z : Page). q.id.0 < z.id.0) pages
        (λ k d within. pairs 0 (suc k) d (omega arith) (omega arith))) is

    choose : (b : Bool) → (if b then Some q else find test pages) ≡ Some p
        → (find test pages ≡ Some p → find (λ (z : Page). z.id.0 == p.id.0) pages ≡ Some p)
        → (if q.id.0 == p.id.0 then Some q else find (λ (z : Page). z.id.0 == p.id.0) pages) ≡ Some p
    choose true here rest =
        let same : q ≡ p = cc in
        rw (eq-eqb q.id.0 p.id.0 (ap (λ (z : Page). z.id.0) same)) here
    choose false here rest =
        let lt : q.id.0 < p.id.0 = above here in
        rw (ne_eqb q.id.0 p.id.0 (λ same. omega arith)) (rest here)

-- a page that is last
last_page : (pages : List Page) (n : ℕ) → All (λ (p : Page). p.id.0 < n) pages → (new : Page) → new.id.0 ≡ n
    → find (λ (q : Page). q.id.0 == n) (pages ++ new ∷ []) ≡ Some new
last_page pages n below new is = go pages (recursion_from_All (λ (p : Page). p.id.0 < n) pages below)
  where
    use_new : find (λ (q : Page). q.id.0 == n) (new ∷ []) ≡ Some new
    use_new = rw (eq-eqb new.id.0 n is) refl

    go : (ps : List Page) → AllByRecursion (λ (p : Page). p.id.0 < n) ps
        → find (λ (q : Page). q.id.0 == n) (ps ++ new ∷ []) ≡ Some new
    go [] all = use_new
    go (p ∷ ps) all =
        let lt : p.id.0 < n = all.0 in
        rw (ne_eqb p.id.0 n (λ same. omega arith)) (go ps all.1)

-- the page for an address has it
pub has_url : (store : Store) (url : List ℕ) → HasPages store
    → url_in (with_page_for store url).pages (page_for store url).id ≡ Some url
has_url store url h = choose (find_page url store.pages) refl
  where
    more : Store
    more =
        record store {
          pages = store.pages ++ new_page store url ∷ [];
          ids = record store.ids { page = store.ids.page + 1 };
        }

    choose : (o : Option Page) → find_page url store.pages ≡ o
        → url_in (if is_none o then more else store).pages (unwrap_or o (new_page store url)).id ≡ Some url
    choose None none =
        ap (option_map (λ (p : Page). p.url)) (last_page store.pages store.ids.page h.below (new_page store url) refl)
    choose (Some p) found =
        ap (option_map (λ (q : Page). q.url))
        (own_page store.pages
        (AllPairs-from_map (λ m n. m < n) (λ (q : Page). q.id.0) store.pages
        (AllPairs-from_increasing (map (λ (q : Page). q.id.0) store.pages) h.ascending))
        (λ (q : Page). bytes_eq q.url url) p found)
        ∙ ap (λ (u : List ℕ). Some u)
        ((bytes_eq-Decides p.url url).0 (found_passes (λ (q : Page). bytes_eq q.url url) store.pages p found))

url_fits : (url : Option (List ℕ)) (store : Store) → HasPages store
    → option_and_then (url_in (with_page_of url store).pages) (page_of url store) ≡ url
url_fits None store h = refl
url_fits (Some u) store h = has_url store u h

-- ---- pages with one more

pub pages_more_of : (url : Option (List ℕ)) (store : Store) → HasPages store → HasPages (with_page_of url store)
pages_more_of None store h = h
pages_more_of (Some u) store h = has_pages_for store u h

-- ---- the item of a node

pub short_title : (title : List ℕ) → length title ≤ longest_title → cut_title title ≡ title
short_title title short = rw (le-leb (length title) longest_title short) refl

-- a title that is short is not cut
pub whole_title : (title : List ℕ) → IsTitle title → IsTitle (cut_title title)
whole_title title is = subst IsTitle (sym (short_title title is.1)) is

pub shown_new : (store : Store) (parent id : ItemId) (node : Node) → HasPages store
    → length node.title ≤ longest_title
    → shown (with_page_of node.url store).pages node.depth
    (new_item id (node_row parent (page_of node.url store) node) (cut_title node.title)) ≡ bare node
unfolding shown
shown_new store parent id node h short =
    let new : Item = new_item id (node_row parent (page_of node.url store) node) (cut_title node.title) in
    ap (λ (u : Option (List ℕ)). made node.depth new u (cut_title node.title)) (url_fits node.url store h)
    ∙ ap (made node.depth new node.url) (short_title node.title short)

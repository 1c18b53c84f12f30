-- The views of a store stand in the order of their ids, and fit a store.
use Rattle.std.proofs.Common.{◌≡◌, ◌≢◌, ◌<◌, ◌∙◌, ℕ, List, [], ◌∷◌, Ok, Err, Some, ap, arith, length, map, nat_eq}
use Rattle.std.proofs.Common.{nat_le, refl, subst, sym, true, ◌≤◌, unwrap_or, Option, None}
use Rattle.std.specs.List.{AllByRecursion, AllPairs, starts_with}
use Rattle.std.proofs.lemmas.Bool.{and_parts}
use Rattle.std.proofs.lemmas.List.Elements.{All-from_recursion, recursion_from_All}
use Rattle.std.proofs.lemmas.List.Kept.{AllPairs-from_increasing}
use Rattle.std.proofs.lemmas.Slice.Eq.{bytes_eq-Decides}
use Rattle.url.specs.Parser.{Parsed}
use Rattle.url.specs.Parts as url
use Rattle.url.specs.Parts.{serialize}
use Rattle.pl_base.specs.declared.id.PageId.{PageId}
use Rattle.pl_base.specs.declared.view.View.{View}
use Rattle.pl_base.specs.Address.{is_store_url, is_text, longest_url, origin_of_record, origin_of_url, prefix}
use Rattle.pl_base.specs.Address.{record_of, serialized}
use Rattle.pl_base.specs.Good.{IsGood, IsGoodPage}
use Rattle.pl_base.specs.Rows.{IsWellKept, Kept, store_of}
use Rattle.pl_base.specs.Live.{slot_limit}
use Rattle.pl_base.specs.Store.{Item, Page, Store, item_id, root_folder, top_folders}
use Rattle.pl_base.specs.Tree.{item_at}
use Rattle.pl_base.specs.View.{AreViews, AreViewsOf}
use Rattle.pl_base.proofs.ListLaws.{AllPairs-from_map, AllPairs-map}
use Rattle.pl_base.proofs.OriginLaws.{store_url-from_canon}
use Rattle.pl_follow.specs.Changes.{AreInOrder, FitStore}
use Rattle.pl_link.proofs.PartsLemmas.{starts_with-prefix}
use Rattle.pl_known.proofs.KnownPages.{as_many}
use Rattle.pl_changes.proofs.SmallShares.{small}

-- ---- as their pages

ids_same : (store : Store) (ps : List Page) (vs : List View) → AreViews store ps vs
    → map (λ (v : View). v.id.0) vs ≡ map (λ (p : Page). p.id.0) ps
ids_same store [] [] are = refl
ids_same store [] (v ∷ vs) are = absurd are
ids_same store (p ∷ ps) [] are = absurd are
ids_same store (p ∷ ps) (v ∷ vs) are =
    ap (λ n. n ∷ map (λ (w : View). w.id.0) vs) (ap (λ (id : PageId). id.0) are.0.id)
    ∙ ap (λ (ns : List ℕ). p.id.0 ∷ ns) (ids_same store ps vs are.1)

urls_same : (store : Store) (ps : List Page) (vs : List View) → AreViews store ps vs
    → map (λ (v : View). v.url) vs ≡ map (λ (p : Page). p.url) ps
urls_same store [] [] are = refl
urls_same store [] (v ∷ vs) are = absurd are
urls_same store (p ∷ ps) [] are = absurd are
urls_same store (p ∷ ps) (v ∷ vs) are =
    ap (λ (t : List ℕ). t ∷ map (λ (w : View). w.url) vs) are.0.url
    ∙ ap (λ (ts : List (List ℕ)). p.url ∷ ts) (urls_same store ps vs are.1)

pub in_order : (store : Store) (views : List View) → IsGood store → AreViewsOf store views → AreInOrder views
in_order store views good are =
    AllPairs-from_map (λ m n. m < n) (λ (v : View). v.id.0) views
    (subst (AllPairs (λ m n. m < n)) (sym (ids_same store store.pages views are))
    (AllPairs-from_increasing (map (λ (p : Page). p.id.0) store.pages) good.page_ids.ascending))

distinct_urls : (store : Store) (views : List View) → IsGood store → AreViewsOf store views
    → AllPairs (λ (v w : View). v.url ≢ w.url) views
distinct_urls store views good are =
    AllPairs-from_map (λ (a b : List ℕ). a ≢ b) (λ (v : View). v.url) views
    (subst (AllPairs (λ (a b : List ℕ). a ≢ b)) (sym (urls_same store store.pages views are))
    (AllPairs-map (λ (a b : List ℕ). a ≢ b) (λ (p : Page). p.url) store.pages good.urls))

-- ---- prefixes

-- a URL of the store begins with the prefix of its origin
prefix_first : (text start host : List ℕ) → is_store_url text ≡ true → origin_of_url text ≡ Some (start, host)
    → starts_with nat_eq text start ≡ true
prefix_first text start host good origin =
    let whole = and_parts (is_text text (serialized (record_of text))) (nat_le (length text) longest_url) good in
    choose (record_of text) whole.0 origin
  where
    choose : (r : Parsed url.Parts) → is_text text (serialized r) ≡ true → origin_of_record r ≡ Some (start, host)
        → starts_with nat_eq text start ≡ true
    choose (Ok f) same is =
        let whole : serialize f ≡ text = (bytes_eq-Decides (serialize f) text).0 same in
        let first : prefix f ≡ start = ap (λ (o : Option (List ℕ × List ℕ)). (unwrap_or o ([], [])).0) is in
        subst (λ (s : List ℕ). starts_with nat_eq text s ≡ true) first
        (subst (λ (t : List ℕ). starts_with nat_eq t (prefix f) ≡ true) whole (starts_with-prefix f))
    choose (Err e) same is =
        let none : ◌≡◌ {A = Option (List ℕ × List ℕ)} None (Some (start, host)) = is in
        absurd (cc)

prefixes : (store : Store) (ps : List Page) (vs : List View) → AllByRecursion (IsGoodPage store) ps
    → AreViews store ps vs → AllByRecursion (λ (v : View). starts_with nat_eq v.url v.prefix ≡ true) vs
prefixes store [] [] good are = tt
prefixes store [] (v ∷ vs) good are = absurd are
prefixes store (p ∷ ps) [] good are = absurd are
prefixes store (p ∷ ps) (v ∷ vs) good are = (
  subst (λ (t : List ℕ). starts_with nat_eq t v.prefix ≡ true) (sym are.0.url)
      (prefix_first p.url v.prefix v.host (store_url-from_canon p.url p.url good.0.url) are.0.origin),
  prefixes store ps vs good.1 are.1,
)

-- ---- how many

some_item : (store : Store) → IsGood store → 1 ≤ length store.items
some_item store good = choose store.items refl
  where
    choose : (items : List Item) → store.items ≡ items → 1 ≤ length store.items
    choose [] none =
        let there : item_at [] (item_id 1) ≡ Some (root_folder 1 top_folders) =
        ap (λ (items : List Item). item_at items (item_id 1)) (sym none) ∙ good.roots.root in
        absurd (cc)
    choose (i ∷ items) is = rw is (omega arith)

-- they are fewer than a store has slots
pub few_views : (kept : Kept) (views : List View) → IsWellKept kept → IsGood (store_of kept)
    → AreViewsOf (store_of kept) views → length views < slot_limit
few_views kept views h good are =
    omega (arith, as_many (store_of kept) views are, some_item (store_of kept) good, h.live)

-- ---- the whole

pub fits : (kept : Kept) (views : List View) → IsWellKept kept → IsGood (store_of kept)
    → AreViewsOf (store_of kept) views → FitStore views
fits kept views h good are =
    let store : Store = store_of kept in
    record {
      urls = distinct_urls store views good are;
      prefixes =
          All-from_recursion (λ (v : View). starts_with nat_eq v.url v.prefix ≡ true) views
          (prefixes store store.pages views (recursion_from_All (IsGoodPage store) store.pages good.pages) are);
      few = few_views kept views h good are;
      sum = omega (arith, small kept views h are);
    }

-- What a title makes of the rows: the step's store, and marks that stay right.
use Rattle.std.proofs.Common.{◌≡◌, ◌≢◌, ◌≤◌, ◌==◌, ◌++◌, ◌∙◌, if◌then◌else◌, ℕ, All, Bool, true, false, IsTrue}
use Rattle.std.proofs.Common.{List, [], ◌∷◌, ap, arith, bytes_eq, eq-eqb, get_or, map, refl}
use Rattle.std.proofs.Common.{subst, suc, sym}
use Rattle.std.specs.Cmp.{both_ways}
use Rattle.std.specs.List.{AllByRecursion, AllPairs, cons_option, filter_map}
use Rattle.std.specs.Option.{option_map}
use Rattle.std.proofs.lemmas.Bool.{cond_both}
use Rattle.std.proofs.lemmas.List.Elements.{All-map, recursion_from_All}
use Rattle.std.proofs.lemmas.Slice.Eq.{bytes_eq-Decides}
use Rattle.pl_base.specs.declared.id.PageId.{PageId}
use Rattle.pl_base.specs.Address.{origin_of_url}
use Rattle.pl_base.specs.Frecency.{frecency_of}
use Rattle.pl_base.specs.Good.{HasGoodItems, IsGood}
use Rattle.pl_base.specs.Marks.{is_hidden, visit_count}
use Rattle.pl_base.specs.Rows.{HaveSums, IsRight, IsSound, IsWellKept, Kept, KeptPage, store_of, titled, total_at}
use Rattle.pl_base.specs.Rows.{with_title}
use Rattle.pl_base.specs.Store.{Page, Store}
use Rattle.pl_base.specs.Title.{cut_title}
use Rattle.pl_base.specs.Totals.{Origin, Scored, most_share, share, total_of}
use Rattle.pl_history.specs.declared.find.Target.TheVariants.{Known}
use Rattle.pl_history.specs.Sound.{AreStanding, IsTypedRight}
use Rattle.pl_base.specs.Removal.{is_standing}
use Rattle.pl_step.specs.Step.{after_title, title_page}
use Rattle.pl_history.specs.Target.{IsTargetOf}
use Rattle.pl_history.proofs.GoodRows.{good_of, items_of, items_still, standing_of}
use Rattle.pl_history.proofs.KnownPage.{IsKnown, known, only_known}
use Rattle.pl_base.proofs.ListLaws.{list_any-alike, list_any-map}
use Rattle.pl_base.proofs.LookUps.{both, part}
use Rattle.pl_base.proofs.OriginSums.{sums_of_sound, totals_of_sums}

-- ---- the page that has the URL

-- no other page has its URL
only_url : (front : List KeptPage) (p : KeptPage) (rest : List KeptPage)
    → AllPairs (λ (a b : KeptPage). a.page.url ≢ b.page.url) (front ++ p ∷ rest)
    → AllByRecursion (λ (q : KeptPage). q.page.url ≡ p.page.url → q ≡ p) (front ++ p ∷ rest)
only_url [] p rest apart = (
  λ _. refl,
  recursion_from_All (λ (q : KeptPage). q.page.url ≡ p.page.url → q ≡ p) rest
      (λ k d within same. absurd (apart 0 (suc k) d (omega arith) (omega arith) (sym same))),
)
only_url (q ∷ front) p rest apart = (
  λ same. absurd (part (λ (x : KeptPage). q.page.url ≢ x.page.url) front p rest
      (recursion_from_All (λ (x : KeptPage). q.page.url ≢ x.page.url) (front ++ p ∷ rest)
      (λ k d within. apart 0 (suc k) d (omega arith) (omega arith))) same),
  only_url front p rest (λ i j d before within. apart (suc i) (suc j) d (omega arith) (omega arith)),
)

-- a page has the id exactly where it has the URL
abbrev HasBoth : List ℕ → PageId → KeptPage → Type 0
HasBoth url id q = (q.page.id.0 == id.0) ≡ bytes_eq q.page.url url

have_both : (kept : Kept) (url : List ℕ) (id : PageId) → IsWellKept kept → IsKnown kept url id
    → AllByRecursion (HasBoth url id) kept.pages
have_both kept url id h k =
    both (λ (q : KeptPage). (q.page.id.0 == id.0) ≡ true → q ≡ k.page)
    (λ (q : KeptPage). q.page.url ≡ k.page.page.url → q ≡ k.page) (HasBoth url id) kept.pages
    (λ q by_id by_url.
    both_ways (q.page.id.0 == id.0) (bytes_eq q.page.url url)
    (λ same. (bytes_eq-Decides q.page.url url).1 (ap (λ (x : KeptPage). x.page.url) (by_id same) ∙ k.url_is))
    (λ same.
    let one : q ≡ k.page = by_url ((bytes_eq-Decides q.page.url url).0 same ∙ sym k.url_is) in
    eq-eqb q.page.id.0 id.0 (ap (λ (x : KeptPage). x.page.id.0) one ∙ ap (λ (i : PageId). i.0) k.is)))
    (recursion_from_All (λ (q : KeptPage). (q.page.id.0 == id.0) ≡ true → q ≡ k.page) kept.pages
    (only_known kept url id h k))
    (rw k.whole (only_url k.front k.page k.rest
    (subst (AllPairs (λ (a b : KeptPage). a.page.url ≢ b.page.url)) k.whole h.distinct_urls)))

-- ---- the store

page_of-titled : (b : Bool) (title : List ℕ) (p : KeptPage)
    → (if b then titled title p else p).page ≡ (if b then record p.page { title = title } else p.page)
page_of-titled true title p = refl
page_of-titled false title p = refl

pages-titled : (url title : List ℕ) (id : PageId) (pages : List KeptPage) → AllByRecursion (HasBoth url id) pages
    → map (λ (p : KeptPage). p.page) (map (λ (p : KeptPage). if p.page.id.0 == id.0 then titled title p else p) pages)
    ≡ map (title_page url title) (map (λ (p : KeptPage). p.page) pages)
pages-titled url title id [] all = refl
pages-titled url title id (p ∷ pages) all =
    let here : (if p.page.id.0 == id.0 then titled title p else p).page ≡ title_page url title p.page =
    page_of-titled (p.page.id.0 == id.0) title p
    ∙ ap (λ (b : Bool). if b then record p.page { title = title } else p.page) all.0 in
    rw (here, pages-titled url title id pages all.1) refl

-- the rows with the title hold the step's store
pub store_titled : (kept : Kept) (url text : List ℕ) (id : PageId) → IsWellKept kept → IsTargetOf kept url (Known id)
    → store_of (with_title id (cut_title text) kept) ≡ after_title (store_of kept) url text
store_titled kept url text id h of =
    ap (λ (pages : List Page). record (store_of kept) { pages = pages })
    (pages-titled url (cut_title text) id kept.pages (have_both kept url id h (known kept url id of)))

-- ---- the marks

each_titled : (P : KeptPage → Type 0) (id : PageId) (title : List ℕ) (pages : List KeptPage)
    → ((p : KeptPage) → P p → P (titled title p)) → All P pages
    → All P (map (λ (p : KeptPage). if p.page.id.0 == id.0 then titled title p else p) pages)
each_titled P id title pages keeps all =
    All-map P (λ (p : KeptPage). if p.page.id.0 == id.0 then titled title p else p) pages
    (λ k d within.
    let p : KeptPage = get_or pages k d in
    cond_both (p.page.id.0 == id.0) (titled title p) p P (λ _. keeps p (all k d within)) (λ _. all k d within))

-- a title leaves the items, and each page keeps its id
items_titled : (kept : Kept) (id : PageId) (title : List ℕ) → IsGood (store_of kept)
    → HasGoodItems (store_of (with_title id title kept))
items_titled kept id title good =
    let page_of : KeptPage → Page = λ (p : KeptPage). p.page in
    let change : KeptPage → KeptPage = λ (p : KeptPage). if p.page.id.0 == id.0 then titled title p else p in
    items_still (store_of kept) (store_of (with_title id title kept)) refl
    (λ other some.
    let test : Page → Bool = λ (p : Page). p.id.0 == other.0 in
    list_any-map test page_of (map change kept.pages)
    ∙ list_any-map (λ (p : KeptPage). test p.page) change kept.pages
    ∙ list_any-alike (λ (p : KeptPage). test (change p).page) (λ (p : KeptPage). test p.page) kept.pages
    (λ p. same_id (p.page.id.0 == id.0) other p)
    ∙ sym (list_any-map test page_of kept.pages) ∙ some)
    (items_of (store_of kept) good)
  where
    same_id : (b : Bool) (other : PageId) (p : KeptPage)
        → ((if b then titled title p else p).page.id.0 == other.0) ≡ (p.page.id.0 == other.0)
    same_id true other p = refl
    same_id false other p = refl

-- the origins of some pages, and their frecencies
abbrev scores : List KeptPage → List Scored
scores pages =
    filter_map (λ (p : KeptPage). option_map (λ (o : Origin). (o, p.frecency)) (origin_of_url p.page.url)) pages

-- a page keeps its URL and its frecency
scores_titled : (id : PageId) (title : List ℕ) (pages : List KeptPage)
    → scores (map (λ (p : KeptPage). if p.page.id.0 == id.0 then titled title p else p) pages) ≡ scores pages
scores_titled id title [] = refl
scores_titled id title (p ∷ pages) = choose (p.page.id.0 == id.0) (scores_titled id title pages)
  where
    choose : (b : Bool)
        → scores (map (λ (q : KeptPage). if q.page.id.0 == id.0 then titled title q else q) pages) ≡ scores pages
        → scores ((if b then titled title p else p)
        ∷ map (λ (q : KeptPage). if q.page.id.0 == id.0 then titled title q else q) pages)
        ≡ scores (p ∷ pages)
    choose true rest =
        ap (cons_option (option_map (λ (o : Origin). (o, p.frecency)) (origin_of_url p.page.url))) rest
    choose false rest =
        ap (cons_option (option_map (λ (o : Origin). (o, p.frecency)) (origin_of_url p.page.url))) rest

sums_titled : (kept : Kept) (id : PageId) (title : List ℕ) → HaveSums kept → HaveSums (with_title id title kept)
sums_titled kept id title had =
    let Told : List Scored → KeptPage → Type 0 =
    λ (ss : List Scored) (p : KeptPage). total_at kept p.origin ≡ option_map (total_of ss) (origin_of_url p.page.url) in
    record {
      sums = subst (λ (ss : List Scored). All (Told ss) (with_title id title kept).pages)
          (sym (scores_titled id title kept.pages))
          (each_titled (Told (scores kept.pages)) id title kept.pages (λ p told. told) had.sums);
      small =
          each_titled (λ (p : KeptPage). share p.frecency ≤ most_share) id title kept.pages (λ p small. small)
          had.small;
    }

-- nothing that is kept of a page beside its texts depends on a title
pub sound_titled : (kept new : Kept) (id : PageId) (title : List ℕ) → new ≡ with_title id title kept → IsWellKept kept
    → IsWellKept new → IsSound kept → IsSound new
sound_titled kept new id title is well h s =
    let store : Store = store_of kept in
    let standing : AreStanding kept = standing_of kept s.good in
    let right : IsRight (with_title id title kept) =
    record {
      frecencies =
          each_titled (λ (p : KeptPage). p.frecency ≡ frecency_of store p.page) id title kept.pages
          (λ p is. is) s.right.frecencies;
      counts =
          each_titled (λ (p : KeptPage). p.count ≡ visit_count store p.page.id) id title kept.pages
          (λ p is. is) s.right.counts;
      hidden =
          each_titled (λ (p : KeptPage). p.hidden ≡ is_hidden store p.page) id title kept.pages
          (λ p is. is) s.right.hidden;
    } in
    subst IsSound (sym is)
    (record {
      good =
          good_of (with_title id title kept) (subst IsWellKept is h) (items_titled kept id title s.good)
          (record {
            by_row =
                each_titled (λ (p : KeptPage). IsTrue (is_standing store p.page.id)) id title kept.pages
                (λ p stands. stands) standing.by_row;
            typed = each_titled (IsTypedRight kept) id title kept.pages (λ p typed. typed) standing.typed;
          });
      right = right;
      totals = totals_of_sums (with_title id title kept) right (sums_titled kept id title (sums_of_sound kept well s));
    })

-- What the look-up of pages finds, and what one page more makes of it.
use Rattle.std.proofs.Common.{◌≡◌, ◌≢◌, ◌++◌, ◌==◌, ◌&&◌, ◌∙◌, ℕ, Bool, true, false, List, [], ◌∷◌, Option}
use Rattle.std.proofs.Common.{Some, None, ap, arith, bytes_eq, eq-eqb, find, map, refl}
use Rattle.std.proofs.Common.{if◌then◌else◌, subst, suc, sym}
use Rattle.std.specs.BTreeMap.{BTreeMap}
use Rattle.std.specs.List.{AllByRecursion, AllPairs}
use Rattle.std.specs.Option.{is_none, option_map, option_or}
use Rattle.std.proofs.lemmas.Bool.{and_from, false_from_ne_true}
use Rattle.std.proofs.lemmas.List.Elements.{All-nil, All-push, recursion_from_All}
use Rattle.std.proofs.lemmas.List.{map-append}
use Rattle.std.proofs.lemmas.Slice.Eq.{bytes_eq-Decides}
use Rattle.pl_base.specs.declared.id.PageId.{PageId}
use Rattle.pl_base.specs.Address.{origin_of_url, same_origin}
use Rattle.pl_base.specs.Rows.{IsWellKept, Kept, KeptPage, url_of}
use Rattle.pl_base.specs.Store.{Page}
use Rattle.pl_base.specs.Visiting.{find_page}
use Rattle.pl_base.proofs.ListLaws.{list_any_last, list_any_push}
use Rattle.pl_base.proofs.LookUps.{part}
use Rattle.pl_base.proofs.OriginLaws.{same_origin-by_texts}
use Rattle.pl_base.proofs.PagesRun.{found_at, page_names}
use Rattle.pl_base.proofs.Walk.{StandsAt}
use Rattle.pl_link.proofs.OriginParts.{origin_by_parts}
use Rattle.pl_link.specs.declared.parts.Parts.{Parts}
use Rattle.pl_marks.specs.UrlParts.{HasParts}
use Rattle.pl_keyed.specs.KnownPages.{EntersOrigin, EntersUrl, IsOriginPage, KnowsPages, are_alike, page_of_origin}
use Rattle.pl_keyed.specs.KnownPages.{page_of_url, with_page}
use Rattle.pl_keyed.specs.declared.pages.Address.{Address}
use Rattle.pl_keyed.specs.declared.pages.Origin.{Origin}
use Rattle.pl_keyed.specs.declared.pages.Pages.{Pages}
use Rattle.pl_keyed.proofs.KeyLookups.{or_none}

abbrev Texts : Type 0
Texts = List ℕ × List ℕ

-- ---- one page more

found_last : (test : Page → Bool) (all : List Page) (p : Page) → find test all ≡ None → test p ≡ true
    → find test (all ++ p ∷ []) ≡ Some p
found_last test [] p none passes = rw passes refl
found_last test (q ∷ all) p none passes = choose (test q) none (found_last test all p)
  where
    choose : (b : Bool) → (if b then Some q else find test all) ≡ None
        → (find test all ≡ None → test p ≡ true → find test (all ++ p ∷ []) ≡ Some p)
        → (if b then Some q else find test (all ++ p ∷ [])) ≡ Some p
    choose true some rest = absurd (cc)
    choose false none rest = rest none passes

passed_last : (test : Page → Bool) (all : List Page) (p : Page) → test p ≡ false
    → find test (all ++ p ∷ []) ≡ find test all
passed_last test [] p fails = rw fails refl
passed_last test (q ∷ all) p fails = ap (λ r. if test q then Some q else r) (passed_last test all p fails)

abbrev number : Page → ℕ
number p = p.id.0

abbrev FindsUrls : BTreeMap Address ℕ → List Page → Type 0
FindsUrls m all = (url : List ℕ) → page_of_url m url ≡ option_map number (find_page url all)

-- what is found by a URL, where a page stands behind the others unless one has its URL
found_more : (all : List Page) (p : Page) (url : List ℕ) → option_map number (find_page url (with_page p all))
    ≡ option_or (option_map number (find_page url all)) (if bytes_eq p.url url then Some p.id.0 else None)
found_more all p url = choose (find_page p.url all) refl (bytes_eq p.url url) refl
  where
    known : Option Page → List Page
    known o = if is_none o then all ++ p ∷ [] else all

    choose : (o : Option Page) → find_page p.url all ≡ o → (b : Bool) → bytes_eq p.url url ≡ b
        → option_map number (find_page url (known o))
        ≡ option_or (option_map number (find_page url all)) (if b then Some p.id.0 else None)
    choose None none true same =
        let here : find_page url all ≡ None =
        ap (λ x. find_page x all) (sym ((bytes_eq-Decides p.url url).0 same)) ∙ none in
        ap (option_map number) (found_last (λ (q : Page). bytes_eq q.url url) all p here same)
        ∙ sym (ap (λ (o : Option Page). option_or (option_map number o) (Some p.id.0)) here)
    choose None none false apart =
        ap (option_map number) (passed_last (λ (q : Page). bytes_eq q.url url) all p apart)
        ∙ sym (or_none (option_map number (find_page url all)))
    choose (Some q) some true same =
        let here : find_page url all ≡ Some q =
        ap (λ x. find_page x all) (sym ((bytes_eq-Decides p.url url).0 same)) ∙ some in
        ap (option_map number) here
        ∙ sym (ap (λ (o : Option Page). option_or (option_map number o) (Some p.id.0)) here)
    choose (Some q) some false apart = sym (or_none (option_map number (find_page url all)))

urls_more : (m n : BTreeMap Address ℕ) (url : List ℕ) (page : ℕ) (all : List Page) (p : Page) → FindsUrls m all
    → EntersUrl url page m n → p.url ≡ url → p.id.0 ≡ page → FindsUrls n (with_page p all)
urls_more m n url page all p finds enters at id other =
    enters.pages other
    ∙ ap (λ (o : Option ℕ). option_or o (if bytes_eq url other then Some page else None)) (finds other)
    ∙ ap (λ (u : List ℕ).
    option_or (option_map number (find_page other all)) (if bytes_eq u other then Some page else None)) (sym at)
    ∙ ap (λ (k : ℕ).
    option_or (option_map number (find_page other all)) (if bytes_eq p.url other then Some k else None)) (sym id)
    ∙ sym (found_more all p other)

abbrev FindsOrigins : BTreeMap Origin ℕ → List Page → Type 0
FindsOrigins m all =
    (url : List ℕ) (origin : Texts) → origin_of_url url ≡ Some origin
    → IsOriginPage all url (page_of_origin m origin)

page_kept : (all : List Page) (p : Page) (url : List ℕ) (found : Option ℕ) → same_origin p.url url ≡ false
    → IsOriginPage all url found → IsOriginPage (all ++ p ∷ []) url found
page_kept all p url None apart none = All-push (λ (q : Page). same_origin q.url url ≡ false) all p none apart
page_kept all p url (Some id) apart here =
    list_any_push (λ (q : Page). (q.id.0 == id) && same_origin q.url url) all p here

origins_more : (m n : BTreeMap Origin ℕ) (texts : Texts) (page : ℕ) (all : List Page) (p : Page)
    → FindsOrigins m all → EntersOrigin texts page m n → origin_of_url p.url ≡ Some texts → p.id.0 ≡ page
    → FindsOrigins n (all ++ p ∷ [])
origins_more m n texts page all p finds enters has id url origin is =
    subst (IsOriginPage (all ++ p ∷ []) url) (sym (enters.pages origin)) (choose (are_alike texts origin) refl)
  where
    same_as : same_origin p.url url ≡ are_alike texts origin
    same_as = same_origin-by_texts p.url url texts origin has is

    choose : (b : Bool) → are_alike texts origin ≡ b
        → IsOriginPage (all ++ p ∷ []) url (if b then Some page else page_of_origin m origin)
    choose true same =
        list_any_last (λ (q : Page). (q.id.0 == page) && same_origin q.url url) all p
        (and_from (p.id.0 == page) (same_origin p.url url) (eq-eqb p.id.0 page id) (same_as ∙ same))
    choose false apart =
        page_kept all p url (page_of_origin m origin) (same_as ∙ apart) (finds url origin is)

with_new : (all : List Page) (p : Page) → find_page p.url all ≡ None → with_page p all ≡ all ++ p ∷ []
with_new all p none = ap (λ (o : Option Page). if is_none o then all ++ p ∷ [] else all) none

-- a URL that has no page
pub not_found : (all : List Page) (url : List ℕ) → ◌≡◌ {A = Option ℕ} None (option_map number (find_page url all))
    → find_page url all ≡ None
not_found all url none = choose (find_page url all) none
  where
    choose : (o : Option Page) → ◌≡◌ {A = Option ℕ} None (option_map number o) → o ≡ None
    choose None is = refl
    choose (Some p) is = absurd (cc)

-- the look-up knows one page more
pub known_more : (known : Pages) (urls : BTreeMap Address ℕ) (origins : BTreeMap Origin ℕ) (url : List ℕ)
    (parts : Parts) (page : ℕ) → HasParts url parts → EntersUrl url page known.urls urls
    → EntersOrigin (parts.prefix, parts.host) page known.origins origins → (all : List Page) (p : Page)
    → KnowsPages known all → find_page url all ≡ None → p.url ≡ url → p.id.0 ≡ page
    → KnowsPages (record { urls = urls; origins = origins }) (all ++ p ∷ [])
known_more known urls origins url parts page has url_in origin_in all p knows absent at id =
    record {
      urls =
          subst (FindsUrls urls) (with_new all p (ap (λ x. find_page x all) at ∙ absent))
          (urls_more known.urls urls url page all p knows.urls url_in at id);
      origins =
          origins_more known.origins origins (parts.prefix, parts.host) page all p knows.origins origin_in
          (ap origin_of_url at ∙ origin_by_parts url parts has) id;
    }

-- a new page stands behind the others
pub knows_with : (known : Pages) (all : List Page) (p : Page) (url : List ℕ) → p.url ≡ url → find_page url all ≡ None
    → KnowsPages known (all ++ p ∷ []) → KnowsPages known (with_page p all)
knows_with known all p url at none knows =
    subst (KnowsPages known) (sym (with_new all p (ap (λ x. find_page x all) at ∙ none))) knows

-- ---- the walk over all pages

-- what is known are the pages of these rows
abbrev pub KnowsRows : Pages → List KeptPage → Type 0
KnowsRows known rows = KnowsPages known (map (λ (p : KeptPage). p.page) rows)

-- a look-up without entries knows no pages
pub knows_none : (urls : BTreeMap Address ℕ) (origins : BTreeMap Origin ℕ) → urls.entries ≡ []
    → origins.entries ≡ [] → KnowsRows (record { urls = urls; origins = origins }) []
knows_none urls origins no_urls no_origins =
    record {
      urls = λ url. rw no_urls refl;
      origins = λ url origin is. rw no_origins (All-nil (λ (p : Page). same_origin p.url url ≡ false));
    }

apart : (front : List KeptPage) (p : KeptPage) (rest : List KeptPage)
    → AllPairs (λ (a b : KeptPage). a.page.url ≢ b.page.url) (front ++ p ∷ rest)
    → AllByRecursion (λ (q : KeptPage). bytes_eq q.page.url p.page.url ≡ false) front
apart [] p rest pairs = tt
apart (q ∷ front) p rest pairs =
    let later : AllByRecursion (λ (b : KeptPage). q.page.url ≢ b.page.url) (front ++ p ∷ rest) =
    recursion_from_All (λ (b : KeptPage). q.page.url ≢ b.page.url) (front ++ p ∷ rest)
    (λ k d within. pairs 0 (suc k) d (omega arith) (omega arith)) in (
      false_from_ne_true (bytes_eq q.page.url p.page.url)
          (λ same. part (λ (b : KeptPage). q.page.url ≢ b.page.url) front p rest later
          ((bytes_eq-Decides q.page.url p.page.url).0 same)),
      apart front p rest (λ i j d before within. pairs (suc i) (suc j) d (omega arith) (omega arith)),
    )

none_found : (test : List ℕ → Bool) (ps : List KeptPage) → AllByRecursion (λ (p : KeptPage). test p.page.url ≡ false) ps
    → find (λ (p : Page). test p.url) (map (λ (p : KeptPage). p.page) ps) ≡ None
none_found test [] failed = refl
none_found test (p ∷ ps) failed = rw failed.0 (none_found test ps failed.1)

-- no page in front of a page of the rows has its URL
pub not_in_front : (kept : Kept) (front : List KeptPage) (p : KeptPage) (rest : List KeptPage) → IsWellKept kept
    → kept.pages ≡ front ++ p ∷ rest → find_page p.page.url (map (λ (q : KeptPage). q.page) front) ≡ None
not_in_front kept front p rest h whole =
    none_found (λ url. bytes_eq url p.page.url) front
    (apart front p rest (subst (AllPairs (λ (a b : KeptPage). a.page.url ≢ b.page.url)) whole h.distinct_urls))

-- what holds of the pages in front holds of one more, once it is added
pub knows_here : (kept : Kept) (known new : Pages) (id : PageId) (url : List ℕ) (page : ℕ) → IsWellKept kept
    → (w : StandsAt page_names kept.pages (KnowsRows known) id) → Some url ≡ url_of kept id → page ≡ id.0
    → ((all : List Page) (p : Page) → KnowsPages known all → find_page url all ≡ None → p.url ≡ url → p.id.0 ≡ page
    → KnowsPages new (all ++ p ∷ []))
    → KnowsRows new (w.front ++ w.element ∷ [])
knows_here kept known new id url page h w told is adds =
    let at : url_of kept id ≡ Some w.element.page.url =
    ap (option_map (λ (q : KeptPage). q.page.url)) (found_at kept id w.front w.element w.rest h w.whole w.is) in
    let some : Some url ≡ Some w.element.page.url = told ∙ at in
    let same : w.element.page.url ≡ url = cc in
    let number_is : w.element.page.id.0 ≡ page = ap (λ (i : PageId). i.0) w.is ∙ sym is in
    subst (KnowsPages new) (sym (map-append (λ (q : KeptPage). q.page) w.front (w.element ∷ [])))
    (adds (map (λ (q : KeptPage). q.page) w.front) w.element.page w.so_far
    (ap (λ x. find_page x (map (λ (q : KeptPage). q.page) w.front)) (sym same)
    ∙ not_in_front kept w.front w.element w.rest h w.whole) same number_is)

-- The page that a visit goes to, where one has its URL.
use Rattle.std.proofs.Common.{◌≡◌, ◌∙◌, ◌<◌, ◌++◌, ◌==◌, ℕ, All, Bool, true, false, List, [], ◌∷◌, Option, Some}
use Rattle.std.proofs.Common.{ap, arith, bytes_eq, eq-eqb, find, if◌then◌else◌, map, refl, subst, sym}
use Rattle.std.specs.List.{AllByRecursion}
use Rattle.std.specs.Option.{option_map}
use Rattle.std.proofs.lemmas.Bool.{eqb-true}
use Rattle.std.proofs.lemmas.List.Elements.{All-from_recursion}
use Rattle.std.proofs.lemmas.Slice.Eq.{bytes_eq-Decides}
use Rattle.pl_base.specs.declared.id.PageId.{PageId}
use Rattle.pl_base.specs.Rows.{IsWellKept, Kept, KeptPage, has_page, store_of}
use Rattle.pl_base.specs.Store.{Page}
use Rattle.pl_history.specs.declared.find.Target.TheVariants.{Known}
use Rattle.pl_base.specs.Visiting.{find_page}
use Rattle.pl_history.specs.Target.{IsTargetOf}
use Rattle.pl_base.proofs.ListLaws.{weaker}
use Rattle.pl_base.proofs.LookUps.{part}
use Rattle.pl_base.proofs.PagesRun.{Ascend, ascend, there}
use Rattle.pl_history.proofs.Targets.{IsFound, found_page}

record Split (test : Page → Bool) (ps : List KeptPage) (found : Page) : Type 0 where
  pub front : List KeptPage
  pub page : KeptPage
  pub rest : List KeptPage
  pub whole : ps ≡ front ++ page ∷ rest
  pub same : page.page ≡ found
  pub passes : test found ≡ true

split_found : (test : Page → Bool) (ps : List KeptPage) (p : Page)
    → find test (map (λ (q : KeptPage). q.page) ps) ≡ Some p → Split test ps p
split_found test [] p found = absurd (cc)
split_found test (q ∷ ps) p found = choose (test q.page) refl found (split_found test ps p)
  where
    choose : (b : Bool) → test q.page ≡ b
        → (if b then Some q.page else find test (map (λ (r : KeptPage). r.page) ps)) ≡ Some p
        → (find test (map (λ (r : KeptPage). r.page) ps) ≡ Some p → Split test ps p) → Split test (q ∷ ps) p
    choose true is here later =
        let same : q.page ≡ p = cc in
        record { front = []; page = q; rest = ps; whole = refl; same = same; passes = ap test (sym same) ∙ is }
    choose false is here later =
        let s : Split test ps p = later here in
        record {
          front = q ∷ s.front;
          page = s.page;
          rest = s.rest;
          whole = ap (λ (rs : List KeptPage). q ∷ rs) s.whole;
          same = s.same;
          passes = s.passes;
        }

-- the row of the page that has the URL
pub record IsKnown (kept : Kept) (url : List ℕ) (id : PageId) : Type 0 where
  pub front : List KeptPage
  pub page : KeptPage
  pub rest : List KeptPage
  pub whole : kept.pages ≡ front ++ page ∷ rest
  pub is : page.page.id ≡ id
  pub url_is : page.page.url ≡ url
  pub found : find_page url (store_of kept).pages ≡ Some page.page

pub known : (kept : Kept) (url : List ℕ) (id : PageId) → IsTargetOf kept url (Known id) → IsKnown kept url id
known kept url id target =
    let f : IsFound kept url id = found_page kept url id target in
    let s : Split (λ (p : Page). bytes_eq p.url url) kept.pages f.page =
    split_found (λ (p : Page). bytes_eq p.url url) kept.pages f.page f.there in
    record {
      front = s.front;
      page = s.page;
      rest = s.rest;
      whole = s.whole;
      is = ap (λ (p : Page). p.id) s.same ∙ f.is;
      url_is = ap (λ (p : Page). p.url) s.same ∙ (bytes_eq-Decides f.page.url url).0 s.passes;
      found = f.there ∙ ap (λ (p : Page). Some p) (sym s.same);
    }

pub has_known : (kept : Kept) (url : List ℕ) (id : PageId) → IsKnown kept url id → has_page kept id ≡ true
has_known kept url id k =
    rw k.whole (there (λ (p : KeptPage). p.page.id.0 == id.0) k.front k.page k.rest
    (eq-eqb k.page.page.id.0 id.0 (ap (λ (i : PageId). i.0) k.is)))

-- the page that was found stands among the rows
pub has_target : (kept : Kept) (url : List ℕ) (found : Option PageId) (id : PageId)
    → found ≡ option_map (λ (p : Page). p.id) (find_page url (store_of kept).pages) → found ≡ Some id
    → has_page kept id ≡ true
has_target kept url found id is some = has_known kept url id (known kept url id (sym is ∙ some))

only : (front : List KeptPage) (p : KeptPage) (rest : List KeptPage) → Ascend (front ++ p ∷ rest)
    → AllByRecursion (λ (q : KeptPage). (q.page.id.0 == p.page.id.0) ≡ true → q ≡ p) (front ++ p ∷ rest)
only [] p rest ordered = (
  λ _. refl,
  weaker (λ (q : KeptPage). p.page.id.0 < q.page.id.0) (λ (q : KeptPage). (q.page.id.0 == p.page.id.0) ≡ true → q ≡ p)
      rest
      (λ q above same. absurd (omega (arith, eqb-true q.page.id.0 p.page.id.0 same))) ordered.0,
)
only (q ∷ front) p rest ordered = (
  λ same. absurd (omega (
    arith,
    eqb-true q.page.id.0 p.page.id.0 same,
    part (λ (x : KeptPage). q.page.id.0 < x.page.id.0) front p rest ordered.0,
  )),
  only front p rest ordered.1,
)

-- no other page has its id
pub only_known : (kept : Kept) (url : List ℕ) (id : PageId) → IsWellKept kept → (k : IsKnown kept url id)
    → All (λ (q : KeptPage). (q.page.id.0 == id.0) ≡ true → q ≡ k.page) kept.pages
only_known kept url id h k =
    let ordered : Ascend (k.front ++ k.page ∷ k.rest) = subst Ascend k.whole (ascend kept h) in
    All-from_recursion (λ (q : KeptPage). (q.page.id.0 == id.0) ≡ true → q ≡ k.page) kept.pages
    (rw (k.whole, ← k.is) (only k.front k.page k.rest ordered))

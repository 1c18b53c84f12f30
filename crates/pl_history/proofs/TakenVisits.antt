-- The visits of some pages that pass a test, one page behind the other: each is there, none stands
-- twice, and they are those that a filter over all visits gives.
use Rattle.std.proofs.Common.{◌≡◌, ◌≢◌, ◌∙◌, ◌++◌, ◌&&◌, ◌||◌, ◌==◌, ℕ, Bool, true, false, List, [], ◌∷◌, Some, ap}
use Rattle.std.proofs.Common.{append_assoc, arith, eqb, filter, IsTrue, if◌then◌else◌, map, refl, subst, sym}
use Rattle.std.specs.List.{AllByRecursion, AllPairs, flat_map, list_any}
use Rattle.std.proofs.lemmas.Bool.{eqb-true}
use Rattle.std.proofs.lemmas.Bool.Decides.{nat_tests}
use Rattle.std.proofs.lemmas.Grind.{flat_map-append}
use Rattle.std.proofs.lemmas.List.{append-nil, map-append}
use Rattle.std.proofs.lemmas.List.Elements.{All-from_recursion, All-map, filter-append, recursion_from_All}
use Rattle.std.proofs.lemmas.List.Folds.{list_any-append}
use Rattle.std.proofs.lemmas.List.Kept.{AllPairs-cons}
use Rattle.pl_base.specs.declared.id.PageId.{PageId}
use Rattle.pl_base.specs.declared.id.VisitId.{VisitId}
use Rattle.pl_base.specs.Removal.{is_among, without_visits}
use Rattle.pl_base.specs.Date.{IsDate}
use Rattle.pl_base.specs.Rows.{IsWellKept, Kept, KeptPage, has_page, has_visit, page_visits, store_of, visit_at}
use Rattle.pl_base.specs.Store.{Store, Visit}
use Rattle.pl_base.specs.Visits.{visits_of}
use Rattle.pl_base.proofs.ListLaws.{AllPairs-map, all-filter, list_any-alike, list_any-map, to_map, weaker}
use Rattle.pl_base.proofs.ListLaws.{all_append, any-and, any-or, any-where, everyone}
use Rattle.pl_base.proofs.VisitLists.{any-latest_first}
use Rattle.pl_base.proofs.VisitsLaws.{Differ, Differ-filter}
use Rattle.pl_base.proofs.LookUps.{Apart, apart_increasing, found_some}
use Rattle.pl_base.proofs.VisitsRun.{IsVisitOf, differ, visits_stand}
use Rattle.pl_base.proofs.TargetsRun.{differ_append}
use Rattle.pl_history.specs.Taken.{AreThese, ids_of}
use Rattle.pl_history.proofs.SameVisits.{without_same}

-- the visits of a page that pass the test, the latest first
abbrev pub of_page : (Visit → Bool) → Kept → PageId → List Visit
of_page test kept page = filter test (page_visits kept page)

abbrev pub taken : (Visit → Bool) → Kept → List PageId → List Visit
taken test kept pages = flat_map (of_page test kept) pages

-- ---- lists

pairs : (vs : List Visit) → Differ vs → AllPairs (λ (v w : Visit). v.id.0 ≢ w.id.0) vs
pairs [] different = λ i j d before within. absurd (omega arith)
pairs (v ∷ vs) different =
    AllPairs-cons (λ (x y : Visit). x.id.0 ≢ y.id.0) v vs
    (All-from_recursion (λ (w : Visit). v.id.0 ≢ w.id.0) vs
    (weaker (λ (w : Visit). w.id.0 ≢ v.id.0) (λ (w : Visit). v.id.0 ≢ w.id.0) vs (λ w other same. other (sym same))
    different.0))
    (pairs vs different.1)

-- ---- tests over lists

pub any-filter : {X : Type 0} (p q : X → Bool) (xs : List X) → list_any p (filter q xs) ≡ list_any (λ x. q x && p x) xs
any-filter p q [] = refl
any-filter p q (x ∷ xs) = choose (q x) (any-filter p q xs)
  where
    choose : (b : Bool) → list_any p (filter q xs) ≡ list_any (λ y. q y && p y) xs
        → list_any p (if b then x ∷ filter q xs else filter q xs) ≡ ((b && p x) || list_any (λ y. q y && p y) xs)
    choose true rest = ap (λ (b : Bool). p x || b) rest
    choose false rest = rest

any-flat_map : {X Y : Type 0} (p : Y → Bool) (f : X → List Y) (xs : List X)
    → list_any p (flat_map f xs) ≡ list_any (λ x. list_any p (f x)) xs
any-flat_map p f [] = refl
any-flat_map p f (x ∷ xs) =
    list_any-append p (f x) (flat_map f xs) ∙ ap (λ (b : Bool). list_any p (f x) || b) (any-flat_map p f xs)

any-none : {X : Type 0} (xs : List X) → list_any (λ _. false) xs ≡ false
any-none [] = refl
any-none (x ∷ xs) = any-none xs

any-swap : {X Y : Type 0} (r : X → Y → Bool) (xs : List X) (ys : List Y)
    → list_any (λ x. list_any (r x) ys) xs ≡ list_any (λ y. list_any (λ x. r x y) xs) ys
any-swap r [] ys = sym (any-none ys)
any-swap r (x ∷ xs) ys =
    ap (λ (b : Bool). list_any (r x) ys || b) (any-swap r xs ys)
    ∙ sym (any-or (r x) (λ y. list_any (λ z. r z y) xs) ys)

-- ---- each is there, and once

found : (test : Visit → Bool) (kept : Kept) (pages : List PageId) → IsWellKept kept
    → AllByRecursion (λ (v : Visit). visit_at kept v.id ≡ Some v) (taken test kept pages)
found test kept [] h = tt
found test kept (p ∷ ps) h =
    all_append (λ (v : Visit). visit_at kept v.id ≡ Some v) (of_page test kept p) (taken test kept ps)
    (weaker (IsVisitOf kept p) (λ (v : Visit). visit_at kept v.id ≡ Some v) (of_page test kept p) (λ v both. both.0)
    (all-filter (IsVisitOf kept p) test (page_visits kept p) (visits_stand kept p h)))
    (found test kept ps h)

-- none is a visit of another page
elsewhere : (test : Visit → Bool) (kept : Kept) (page : PageId) (pages : List PageId) → IsWellKept kept
    → AllByRecursion (λ (q : PageId). q.0 ≢ page.0) pages
    → AllByRecursion (λ (v : Visit). (visit_at kept v.id ≡ Some v) × (v.page.0 ≢ page.0)) (taken test kept pages)
elsewhere test kept page [] h others = tt
elsewhere test kept page (q ∷ qs) h others =
    all_append (λ (v : Visit). (visit_at kept v.id ≡ Some v) × (v.page.0 ≢ page.0)) (of_page test kept q)
    (taken test kept qs)
    (weaker (IsVisitOf kept q) (λ (v : Visit). (visit_at kept v.id ≡ Some v) × (v.page.0 ≢ page.0))
    (of_page test kept q)
    (λ v both. (both.0, λ same. others.0 (sym (eqb-true v.page.0 q.0 both.1) ∙ same)))
    (all-filter (IsVisitOf kept q) test (page_visits kept q) (visits_stand kept q h)))
    (elsewhere test kept page qs h others.1)

other_id : (kept : Kept) (page : PageId) (x y : Visit) → IsVisitOf kept page x
    → (visit_at kept y.id ≡ Some y) × (y.page.0 ≢ page.0) → y.id.0 ≢ x.id.0
other_id kept page x y here there same =
    let one : Some y ≡ Some x =
    sym there.0 ∙ ap (λ (n : ℕ). visit_at kept (record { 0 = n })) same ∙ here.0 in
    let visit : y ≡ x = cc in
    there.1 (ap (λ (v : Visit). v.page.0) visit ∙ eqb-true x.page.0 page.0 here.1)

differ_taken : (test : Visit → Bool) (kept : Kept) (pages : List PageId) → IsWellKept kept
    → Apart (λ (p : PageId). p.0) pages → Differ (taken test kept pages)
differ_taken test kept [] h apart = tt
differ_taken test kept (p ∷ ps) h apart =
    differ_append (of_page test kept p) (taken test kept ps)
    (Differ-filter test (page_visits kept p) (differ kept p h)) (differ_taken test kept ps h apart.1)
    (weaker (IsVisitOf kept p) (λ (x : Visit). AllByRecursion (λ (y : Visit). y.id.0 ≢ x.id.0) (taken test kept ps))
    (of_page test kept p)
    (λ x here. weaker (λ (v : Visit). (visit_at kept v.id ≡ Some v) × (v.page.0 ≢ p.0)) (λ (y : Visit). y.id.0 ≢ x.id.0)
    (taken test kept ps) (λ y there. other_id kept p x y here there) (elsewhere test kept p ps h apart.0))
    (all-filter (IsVisitOf kept p) test (page_visits kept p) (visits_stand kept p h)))

-- ---- they are the same

-- the id that the visit has
abbrev pub named : VisitId → Visit → Bool
named id v = v.id.0 == id.0

and_assoc : (a b c : Bool) → (a && (b && c)) ≡ ((a && b) && c)
and_assoc true b c = refl
and_assoc false b c = refl

one_page : (test : Visit → Bool) (kept : Kept) (id : VisitId) (page : PageId)
    → list_any (named id) (of_page test kept page)
    ≡ list_any (λ (v : Visit). (v.page.0 == page.0) && (test v && named id v)) kept.visits
one_page test kept id page =
    any-filter (named id) test (page_visits kept page)
    ∙ any-latest_first (λ (v : Visit). test v && named id v) (visits_of (store_of kept) page)
    ∙ any-filter (λ (v : Visit). test v && named id v) (λ (v : Visit). v.page.0 == page.0) kept.visits

-- a visit to one of the pages
abbrev pub to_pages : List PageId → Visit → Bool
to_pages pages v = list_any (λ (p : PageId). v.page.0 == p.0) pages

all_pages : (test : Visit → Bool) (kept : Kept) (id : VisitId) (pages : List PageId)
    → list_any (named id) (taken test kept pages)
    ≡ list_any (λ (v : Visit). (to_pages pages v && test v) && named id v) kept.visits
all_pages test kept id pages =
    any-flat_map (named id) (of_page test kept) pages
    ∙ list_any-alike (λ (p : PageId). list_any (named id) (of_page test kept p))
    (λ (p : PageId). list_any (λ (v : Visit). (v.page.0 == p.0) && (test v && named id v)) kept.visits) pages
    (one_page test kept id)
    ∙ any-swap (λ (p : PageId) (v : Visit). (v.page.0 == p.0) && (test v && named id v)) pages kept.visits
    ∙ list_any-alike (λ (v : Visit). list_any (λ (p : PageId). (v.page.0 == p.0) && (test v && named id v)) pages)
    (λ (v : Visit). (to_pages pages v && test v) && named id v) kept.visits
    (λ v. any-and (λ (p : PageId). v.page.0 == p.0) (test v && named id v) pages
    ∙ and_assoc (to_pages pages v) (test v) (named id v))

among_ids : (vs : List Visit) (id : VisitId) → is_among (ids_of vs) id ≡ list_any (named id) vs
among_ids vs id = list_any-map (λ (i : VisitId). i.0 == id.0) (λ (v : Visit). v.id) vs

same_ids : (test wanted : Visit → Bool) (kept : Kept) (pages : List PageId)
    → AllByRecursion (λ (v : Visit). (to_pages pages v && test v) ≡ wanted v) kept.visits → (id : VisitId)
    → is_among (ids_of (taken test kept pages)) id ≡ is_among (ids_of (filter wanted kept.visits)) id
same_ids test wanted kept pages alike id =
    among_ids (taken test kept pages) id ∙ all_pages test kept id pages
    ∙ any-where (λ (v : Visit). (to_pages pages v && test v) && named id v) (λ (v : Visit). wanted v && named id v)
    kept.visits
    (weaker (λ (v : Visit). (to_pages pages v && test v) ≡ wanted v)
    (λ (v : Visit). ((to_pages pages v && test v) && named id v) ≡ (wanted v && named id v)) kept.visits
    (λ v same. ap (λ (b : Bool). b && named id v) same) alike)
    ∙ sym (any-filter (named id) wanted kept.visits) ∙ sym (among_ids (filter wanted kept.visits) id)

-- ---- all together

pub are_these : (test wanted : Visit → Bool) (kept : Kept) (pages : List PageId) (ids : List VisitId)
    → IsWellKept kept → Apart (λ (p : PageId). p.0) pages
    → AllByRecursion (λ (v : Visit). (to_pages pages v && test v) ≡ wanted v) kept.visits
    → ids ≡ ids_of (taken test kept pages) → AreThese (ids_of (filter wanted kept.visits)) kept ids
are_these test wanted kept pages ids h apart alike are =
    subst (AreThese (ids_of (filter wanted kept.visits)) kept) (sym are)
    (record {
      there =
          All-map (λ (id : VisitId). has_visit kept id ≡ true) (λ (v : Visit). v.id) (taken test kept pages)
          (All-from_recursion (λ (v : Visit). has_visit kept v.id ≡ true) (taken test kept pages)
          (weaker (λ (v : Visit). visit_at kept v.id ≡ Some v) (λ (v : Visit). has_visit kept v.id ≡ true)
          (taken test kept pages) (λ v at. found_some (λ (w : Visit). w.id.0 == v.id.0) kept.visits v at)
          (found test kept pages h)));
      apart =
          AllPairs-map (λ (a b : VisitId). a.0 ≢ b.0) (λ (v : Visit). v.id) (taken test kept pages)
          (pairs (taken test kept pages) (differ_taken test kept pages h apart));
      same = same_ids test wanted kept pages alike;
    })

-- ---- as they are collected

-- the ids of the visits that pass joined the others
abbrev pub AreAdded : (Visit → Bool) → List VisitId → List VisitId → List Visit → Type 0
AreAdded test old now front = now ≡ old ++ ids_of (filter test front)

pub none_added : (test : Visit → Bool) (old : List VisitId) → AreAdded test old old []
none_added test old = sym (append-nil old)

pub added_more : (test : Visit → Bool) (old now more : List VisitId) (front : List Visit) (v : Visit)
    → AreAdded test old now front → more ≡ now ++ ids_of (filter test (v ∷ []))
    → AreAdded test old more (front ++ v ∷ [])
added_more test old now more front v are pushed =
    pushed ∙ ap (λ (ids : List VisitId). ids ++ ids_of (filter test (v ∷ []))) are
    ∙ append_assoc old (ids_of (filter test front)) (ids_of (filter test (v ∷ [])))
    ∙ ap (λ (ids : List VisitId). old ++ ids)
    (sym (ap ids_of (filter-append test front (v ∷ []))
    ∙ map-append (λ (w : Visit). w.id) (filter test front) (filter test (v ∷ []))))

pub filter_all : {X : Type 0} (xs : List X) → filter (λ _. true) xs ≡ xs
filter_all [] = refl
filter_all (x ∷ xs) = ap (λ ys. x ∷ ys) (filter_all xs)

-- the visits of one page more
pub taken_more : (test : Visit → Bool) (kept : Kept) (pages : List PageId) (page : PageId) (now more : List VisitId)
    → now ≡ ids_of (taken test kept pages) → more ≡ now ++ ids_of (of_page test kept page)
    → more ≡ ids_of (taken test kept (pages ++ page ∷ []))
taken_more test kept pages page now more are pushed =
    pushed ∙ ap (λ (ids : List VisitId). ids ++ ids_of (of_page test kept page)) are
    ∙ sym (map-append (λ (w : Visit). w.id) (taken test kept pages) (of_page test kept page))
    ∙ ap ids_of (sym (flat_map-append (of_page test kept) pages (page ∷ [])
    ∙ ap (λ (vs : List Visit). taken test kept pages ++ vs) (append-nil (of_page test kept page))))

-- those of all pages in front
abbrev pub page_ids : List KeptPage → List PageId
page_ids pages = map (λ (p : KeptPage). p.page.id) pages

abbrev pub HasTaken : (Visit → Bool) → Kept → List VisitId → List KeptPage → Type 0
HasTaken test kept ids front = ids ≡ ids_of (taken test kept (page_ids front))

pub has_more : (test : Visit → Bool) (kept : Kept) (front : List KeptPage) (page : KeptPage) (id : PageId)
    (now more : List VisitId) → HasTaken test kept now front → page.page.id ≡ id
    → more ≡ now ++ ids_of (of_page test kept id) → HasTaken test kept more (front ++ page ∷ [])
has_more test kept front page id now more are same pushed =
    taken_more test kept (page_ids front) page.page.id now more are
    (pushed ∙ ap (λ (i : PageId). now ++ ids_of (of_page test kept i)) (sym same))
    ∙ ap (λ (ids : List PageId). ids_of (taken test kept ids))
    (sym (map-append (λ (p : KeptPage). p.page.id) front (page ∷ [])))

-- ---- visits to all pages

apart_ids : (pages : List KeptPage) → Apart (λ (p : KeptPage). p.page.id.0) pages
    → Apart (λ (p : PageId). p.0) (page_ids pages)
apart_ids [] apart = tt
apart_ids (p ∷ ps) apart = (
  to_map (λ (q : PageId). q.0 ≢ p.page.id.0) (λ (q : KeptPage). q.page.id) ps apart.0,
  apart_ids ps apart.1,
)

pub kept_apart : (kept : Kept) → IsWellKept kept → Apart (λ (p : PageId). p.0) (page_ids kept.pages)
kept_apart kept h =
    apart_ids kept.pages
    (apart_increasing (λ (p : KeptPage). p.page.id.0) kept.pages h.page_ids.ascending)

pub eqb-sym : (m n : ℕ) → eqb m n ≡ eqb n m
eqb-sym m n = grind (arith, nat_tests)

pub to_any : (kept : Kept) (v : Visit) → has_page kept v.page ≡ true → to_pages (page_ids kept.pages) v ≡ true
to_any kept v there =
    list_any-map (λ (p : PageId). v.page.0 == p.0) (λ (p : KeptPage). p.page.id) kept.pages
    ∙ list_any-alike (λ (p : KeptPage). v.page.0 == p.page.id.0) (λ (p : KeptPage). p.page.id.0 == v.page.0) kept.pages
    (λ p. eqb-sym v.page.0 p.page.id.0)
    ∙ there

-- the visits of all pages that pass the test are all that pass it
pub all_these : (test : Visit → Bool) (kept : Kept) (ids : List VisitId) → IsWellKept kept
    → HasTaken test kept ids kept.pages → AreThese (ids_of (filter test kept.visits)) kept ids
all_these test kept ids h are =
    are_these test test kept (page_ids kept.pages) ids h (kept_apart kept h)
    (weaker (λ (v : Visit). IsDate v.date × IsTrue (has_page kept v.page))
    (λ (v : Visit). (to_pages (page_ids kept.pages) v && test v) ≡ test v) kept.visits
    (λ v both. ap (λ (b : Bool). b && test v) (to_any kept v both.1))
    (recursion_from_All (λ (v : Visit). IsDate v.date × IsTrue (has_page kept v.page)) kept.visits h.visits))
    are

-- ---- visits to one page

alone : (b : Bool) → ((b || false) && true) ≡ b
alone true = refl
alone false = refl

pub page_these : (kept : Kept) (page : PageId) (none ids : List VisitId) → IsWellKept kept → none ≡ []
    → ids ≡ none ++ ids_of (page_visits kept page) → AreThese (ids_of (visits_of (store_of kept) page)) kept ids
page_these kept page none ids h empty are =
    are_these (λ _. true) (λ (v : Visit). v.page.0 == page.0) kept (page ∷ []) ids h (tt, tt)
    (everyone (λ (v : Visit). (to_pages (page ∷ []) v && true) ≡ (v.page.0 == page.0)) kept.visits
    (λ v. alone (v.page.0 == page.0)))
    (are ∙ ap (λ (front : List VisitId). front ++ ids_of (page_visits kept page)) empty
    ∙ ap ids_of (sym (append-nil (of_page (λ _. true) kept page) ∙ filter_all (page_visits kept page))))

-- ---- the store without them

pub these_gone : (wanted gone : List VisitId) (kept : Kept) (new : Store) → AreThese wanted kept gone
    → new ≡ without_visits gone (store_of kept) → new ≡ without_visits wanted (store_of kept)
these_gone wanted gone kept new these is = is ∙ without_same gone wanted (store_of kept) these.same

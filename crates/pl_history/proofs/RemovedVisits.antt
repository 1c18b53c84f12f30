-- Visits that go one after another, and the pages that they bore on once these are put in order.
use Rattle.std.proofs.Common.{◌≡◌, ◌≢◌, ◌∙◌, ◌+◌, ◌<◌, ◌≤◌, ◌==◌, ◌||◌, ℕ, All, Bool, true, false, IsTrue}
use Rattle.std.proofs.Common.{List, [], ◌∷◌, ap, arith, eq-eqb, eqb-true, get_or}
use Rattle.std.proofs.Common.{length, refl, subst, suc, sym, take, zero}
use Rattle.std.specs.List.{AllByRecursion, AllPairs, Contains, list_any}
use Rattle.std.specs.List.Sorted.{IsStrictlyIncreasing}
use Rattle.std.proofs.lemmas.Bool.{false_from_ne_true, false≢true, ne_eqb, or_from}
use Rattle.std.proofs.lemmas.List.{take_all, take_more}
use Rattle.std.proofs.lemmas.List.Elements.{All-head, All-tail}
use Rattle.std.proofs.lemmas.List.Kept.{AllPairs-from_increasing}
use Rattle.pl_base.specs.declared.id.PageId.{PageId}
use Rattle.pl_base.specs.declared.id.VisitId.{VisitId}
use Rattle.pl_base.specs.Good.{IsGoodPage}
use Rattle.pl_base.specs.Removal.{is_among, is_standing, visits_left, without_idle_pages, without_visits}
use Rattle.pl_base.specs.Rows.{IsSound, IsWellKept, Kept, KeptPage, has_page, has_visit, store_of}
use Rattle.pl_base.specs.Store.{Page, Store, Visit}
use Rattle.pl_base.proofs.IdsLaws.{same_page}
use Rattle.pl_base.proofs.ListLaws.{All-from_map, AllPairs-from_map}
use Rattle.pl_base.proofs.OriginSums.{sums_of_sound}
use Rattle.pl_base.proofs.PageOrder.{numbers}
use Rattle.pl_base.proofs.TargetsRun.{differ_all}
use Rattle.pl_marks.specs.Alike.{AreOthersAlike}
use Rattle.pl_history.specs.Bears.{BearsOnlyOn}
use Rattle.pl_history.specs.Settled.{AreOthersSettled, AreSettledBut}
use Rattle.pl_history.proofs.GoodRows.{items_of}
use Rattle.pl_history.proofs.OthersAlike.{alike_on, alike_ordered, bears_on, contains_unfiltered, pages_once}
use Rattle.pl_history.proofs.OthersAlike.{settled_alike}
use Rattle.pl_history.proofs.PageOrder.{is_one}
use Rattle.pl_history.proofs.VisitsLeft.{Keeps, any_left, left_none, left_twice, one_fewer}

-- ---- before the first

pub sound_settled : (kept : Kept) → IsWellKept kept → IsSound kept → AreOthersSettled [] kept
sound_settled kept h s =
    let pages : All (λ (p : KeptPage). IsGoodPage (store_of kept) p.page) kept.pages =
    All-from_map (IsGoodPage (store_of kept)) (λ (p : KeptPage). p.page) kept.pages s.good.pages in
    record {
      there = λ k d within. absurd (omega arith);
      items = items_of (store_of kept) s.good;
      counts = s.right.counts;
      right = λ k d within _. (s.right.frecencies k d within, s.right.counts k d within, s.right.hidden k d within);
      by_row = λ k d within _. (pages k d within).kept;
      typed = λ k d within. (pages k d within).typed;
      sums = sums_of_sound kept h s;
    }

pub none_gone : (kept : Kept) → store_of kept ≡ record (store_of kept) { visits = visits_left [] kept.visits }
none_gone kept = ap (λ (vs : List Visit). record (store_of kept) { visits = vs }) (sym (left_none kept.visits))

-- ---- the next

not_before : (ids : List VisitId) (k : ℕ) (d : VisitId) → AllPairs (λ (a b : VisitId). a.0 ≢ b.0) ids → k < length ids
    → is_among (take k ids) (get_or ids k d) ≡ false
not_before [] k d pairs within = absurd (omega arith)
not_before (i ∷ ids) zero d pairs within = refl
not_before (i ∷ ids) (suc k) d pairs within =
    or_from (i.0 == (get_or ids k d).0) (is_among (take k ids) (get_or ids k d))
    (ne_eqb i.0 (get_or ids k d).0 (pairs 0 (suc k) d (omega arith) (omega arith)))
    (not_before ids k d (λ a b e before inside. pairs (suc a) (suc b) e (omega arith) (omega arith)) (omega arith))

still_there : (gone : List VisitId) (id : VisitId) (vs : List Visit) → is_among gone id ≡ false
    → list_any (λ (v : Visit). v.id.0 == id.0) (visits_left gone vs) ≡ list_any (λ (v : Visit). v.id.0 == id.0) vs
still_there gone id vs stays =
    any_left gone (λ (v : Visit). v.id.0 == id.0) (λ (v : Visit). v.id.0 == id.0) vs (each vs)
  where
    each : (ws : List Visit)
        → AllByRecursion (Keeps gone (λ (v : Visit). v.id.0 == id.0) (λ (v : Visit). v.id.0 == id.0)) ws
    each [] = tt
    each (w ∷ ws) = (
      (
        λ goes.
            false_from_ne_true (w.id.0 == id.0)
            (λ same. false≢true (sym stays
            ∙ ap (λ (n : ℕ). is_among gone (record { 0 = n })) (sym (eqb-true w.id.0 id.0 same)) ∙ goes)),
        refl,
      ),
      each ws,
    )

pub next_there : (old now : Kept) (ids : List VisitId) (k : ℕ) (d : VisitId)
    → All (λ (id : VisitId). has_visit old id ≡ true) ids → AllPairs (λ (a b : VisitId). a.0 ≢ b.0) ids
    → k < length ids → store_of now ≡ record (store_of old) { visits = visits_left (take k ids) old.visits }
    → has_visit now (get_or ids k d) ≡ true
next_there old now ids k d there apart within store =
    let id : VisitId = get_or ids k d in
    ap (λ (s : Store). list_any (λ (v : Visit). v.id.0 == id.0) s.visits) store
    ∙ still_there (take k ids) id old.visits (not_before ids k d apart within) ∙ there k d within

pub next_gone : (old now new : Kept) (ids : List VisitId) (k : ℕ) (d : VisitId) → k < length ids
    → store_of now ≡ record (store_of old) { visits = visits_left (take k ids) old.visits }
    → store_of new ≡ record (store_of now) { visits = visits_left (get_or ids k d ∷ []) now.visits }
    → store_of new ≡ record (store_of old) { visits = visits_left (take (k + 1) ids) old.visits }
next_gone old now new ids k d within so_far more =
    more
    ∙ ap (λ (s : Store). record s { visits = visits_left (get_or ids k d ∷ []) s.visits }) so_far
    ∙ ap (λ (vs : List Visit). record (store_of old) { visits = vs })
    (left_twice (take k ids) (get_or ids k d) old.visits
    ∙ ap (λ (gone : List VisitId). visits_left gone old.visits) (sym (take_more ids k d within)))

pub next_fewer : (old now new : Kept) (ids : List VisitId) (k : ℕ) (d : VisitId) → IsWellKept now
    → has_visit now (get_or ids k d) ≡ true → length now.visits + k ≡ length old.visits
    → store_of new ≡ record (store_of now) { visits = visits_left (get_or ids k d ∷ []) now.visits }
    → length new.visits + (k + 1) ≡ length old.visits
next_fewer old now new ids k d h there so_far more =
    omega (
      arith,
      ap (λ (s : Store). length s.visits) more,
      one_fewer (get_or ids k d) now.visits (differ_all now h) there,
      so_far,
    )

-- ---- the pages in order

one_self : (ids : List PageId) (k : ℕ) (d : PageId) → k < length ids → is_one (get_or ids k d) ids ≡ true
one_self [] k d within = absurd (omega arith)
one_self (i ∷ ids) zero d within = ap (λ (b : Bool). b || is_one i ids) (eq-eqb i.0 i.0 refl)
one_self (i ∷ ids) (suc k) d within =
    choose ((get_or ids k d).0 == i.0) (one_self ids k d (omega arith))
  where
    choose : (b : Bool) → is_one (get_or ids k d) ids ≡ true → (b || is_one (get_or ids k d) ids) ≡ true
    choose true rest = refl
    choose false rest = rest

holds_of_one : (P : PageId → Type 0) (page : PageId) (ids : List PageId) → All P ids → is_one page ids ≡ true → P page
holds_of_one P page [] all one = absurd (false≢true one)
holds_of_one P page (i ∷ ids) all one =
    choose (page.0 == i.0) refl one (holds_of_one P page ids (All-tail P i ids all))
  where
    choose : (b : Bool) → (page.0 == i.0) ≡ b → (b || is_one page ids) ≡ true → (is_one page ids ≡ true → P page)
        → P page
    choose true same one rest = subst P (sym (same_page page i same)) (All-head P i ids all)
    choose false other one rest = rest one

pub ordered_settled : (ids pages : List PageId) (kept : Kept) → IsStrictlyIncreasing (numbers pages)
    → ((page : PageId) → is_one page pages ≡ is_one page ids) → AreOthersSettled ids kept → AreSettledBut pages kept
ordered_settled ids pages kept ascending same s =
    let pairs : AllPairs (λ (a b : PageId). a.0 < b.0) pages =
    AllPairs-from_map (λ m n. m < n) (λ (page : PageId). page.0) pages
    (AllPairs-from_increasing (numbers pages) ascending) in
    record {
      there =
          λ k d within.
          holds_of_one (λ (id : PageId). IsTrue (has_page kept id)) (get_or pages k d) ids s.there
          (sym (same (get_or pages k d)) ∙ one_self pages k d within);
      apart =
          λ i j d before within equal.
          let less : (get_or pages i d).0 < (get_or pages j d).0 = pairs i j d before within in
          omega (arith, less, equal);
      items = s.items;
      counts = s.counts;
      right = λ k d within other. s.right k d within (sym (same (get_or kept.pages k d).page.id) ∙ other);
      by_row = λ k d within other. s.by_row k d within (sym (same (get_or kept.pages k d).page.id) ∙ other);
      typed = s.typed;
      sums = s.sums;
    }

-- ---- behind the last

pub all_gone : (old now new : Kept) (ids : List VisitId) (k : ℕ) → length ids ≤ k
    → store_of now ≡ record (store_of old) { visits = visits_left (take k ids) old.visits }
    → store_of new ≡ without_idle_pages (store_of now) → store_of new ≡ without_visits ids (store_of old)
all_gone old now new ids k past so_far settled =
    settled ∙ ap without_idle_pages so_far
    ∙ ap (λ (gone : List VisitId). without_idle_pages (record (store_of old) { visits = visits_left gone old.visits }))
    (take_all k ids past)

-- the visits bore on the pages that were told, and on no others
pub all_borne : (old now new : Kept) (visits : List VisitId) (ids pages : List PageId) → IsWellKept old
    → ((id : PageId) → is_one id pages ≡ is_one id ids) → AreSettledBut pages now
    → AreOthersAlike ids (store_of old) (store_of now) → store_of new ≡ without_idle_pages (store_of now)
    → store_of new ≡ without_visits visits (store_of old) → BearsOnlyOn pages (store_of old) (store_of new)
all_borne old now new visits ids pages h same s alike idle is =
    let left : Store = record (store_of old) { visits = visits_left visits old.visits } in
    bears_on pages (store_of old) (store_of new) (pages_once old h) (ap (λ (t : Store). t.items) is)
    (λ q there. (
      q,
      contains_unfiltered (λ (p : Page). is_standing left p.id) (store_of old).pages q
          (subst (λ (t : Store). Contains t.pages q) is there),
      refl,
      refl,
      refl,
    ))
    (alike_on pages (store_of old) (store_of now) (store_of new)
    (alike_ordered ids pages (store_of old) (store_of now) same alike) (settled_alike pages now new s idle))

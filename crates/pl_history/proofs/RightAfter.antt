-- Pages that a visit does not bear on stay right, and one whose mark is computed afresh is right.
use Rattle.std.proofs.Common.{◌≡◌, ◌+◌, ◌<◌, ◌==◌, ◌&&◌, ◌||◌, ◌++◌, ◌∙◌, if◌then◌else◌, ℕ, ℤ, All}
use Rattle.std.proofs.Common.{Bool, true, false, cond, filter, List, [], ◌∷◌, Option, Some, None, IfSome}
use Rattle.std.proofs.Common.{ap, arith, count_by, get_or, length, map, option_to_list, refl, subst, sym, take}
use Rattle.std.specs.List.{AllByRecursion, list_all, list_any, sum_by}
use Rattle.std.specs.Option.{option_and_then, option_map}
use Rattle.std.proofs.lemmas.Bool.{cond_both, eq-eqb, eqb-true, false_from_ne_true, false≢true, ne_eqb, or_parts}
use Rattle.std.proofs.lemmas.Bool.{eqb-false, or_from}
use Rattle.std.proofs.lemmas.List.{append-nil}
use Rattle.std.proofs.lemmas.List.Elements.{All-from_recursion, All-map, All-take, filter-append, recursion_from_All}
use Rattle.std.proofs.lemmas.List.Folds.{list_any-append}
use Rattle.std.proofs.lemmas.List.Sums.{sum_by_push}
use Rattle.pl_base.specs.declared.id.PageId.{PageId}
use Rattle.pl_base.specs.declared.id.VisitId.{VisitId}
use Rattle.pl_base.specs.declared.row.Mark.{Mark}
use Rattle.pl_base.specs.declared.row.VisitRow.{VisitRow}
use Rattle.pl_base.specs.declared.transition.Transition.{Transition}
use Rattle.pl_base.specs.Address.{is_place_url}
use Rattle.pl_base.specs.Frecency.{frecency_from, frecency_of, points, visit_bonus}
use Rattle.pl_base.specs.Marks.{is_counted, is_framed, is_hidden, is_referenced, visit_count}
use Rattle.pl_base.specs.Redirects.{is_redirect, is_redirect_source, is_source, source_transition, visit_transition}
use Rattle.pl_base.specs.Rows.{HasSource, IsWellKept, Kept, KeptPage, has_visit, marked}
use Rattle.pl_base.specs.Rows.{store_of, visit_at, with_mark, with_visit, next_visit}
use Rattle.pl_base.specs.Store.{Page, Store, Visit}
use Rattle.pl_base.specs.Tables.{bonus_of}
use Rattle.pl_base.specs.Visits.{latest_first, sample_of, visits_of}
use Rattle.pl_marks.specs.Refreshed.{AreRightBut, HaveCounts, IsRightPage, Refreshes, is_passing, source_page}
use Rattle.pl_base.proofs.IdsLaws.{same_page}
use Rattle.pl_base.proofs.ListLaws.{sum_by-agree, weaker}
use Rattle.pl_base.proofs.VisitLists.{each_visit_found}
use Rattle.pl_base.proofs.VisitsLaws.{all-latest_first}
use Rattle.pl_base.proofs.LookUps.{both, find_push, front, where_passes}
use Rattle.pl_base.proofs.Walk.{stands}
use Rattle.pl_marks.proofs.SeenVisits.{hidden_by}

-- ---- what a visit leaves of another

filter_last : {X : Type 0} (p : X → Bool) (xs : List X) (x : X) → p x ≡ false → filter p (xs ++ x ∷ []) ≡ filter p xs
filter_last p xs x fails =
    filter-append p xs (x ∷ []) ∙ ap (λ (b : Bool). filter p xs ++ cond b (x ∷ []) []) fails ∙ append-nil (filter p xs)

count_last : {X : Type 0} (p : X → Bool) (xs : List X) (x : X) → p x ≡ false → count_by p (xs ++ x ∷ []) ≡ count_by p xs
count_last p xs x fails =
    sum_by_push (λ y. cond (p y) 1 0) xs x ∙ ap (λ (b : Bool). count_by p xs + cond b 1 0) fails ∙ omega arith

or_end : (b : Bool) → (b || false) ≡ b
or_end true = refl
or_end false = refl

pub any_last : {X : Type 0} (p : X → Bool) (xs : List X) (x : X) → p x ≡ false
    → list_any p (xs ++ x ∷ []) ≡ list_any p xs
any_last p xs x fails =
    list_any-append p xs (x ∷ []) ∙ ap (λ (b : Bool). list_any p xs || (b || false)) fails ∙ or_end (list_any p xs)

-- the visit came from the same, and led to a redirect or not as before
record IsAlike (store after : Store) (w : Visit) : Type 0 where
  pub came : source_transition after w ≡ source_transition store w
  pub led : is_redirect_source after w ≡ is_redirect_source store w

came_alike : (old : Kept) (row : VisitRow) (n : ℕ) (source : Option VisitId)
    → IfSome source (λ id. (id.0 < n) × (has_visit old id ≡ true))
    → option_and_then (visit_transition (store_of (with_visit row old))) source
    ≡ option_and_then (visit_transition (store_of old)) source
came_alike old row n None stands = refl
came_alike old row n (Some id) stands =
    ap (option_map (λ (v : Visit). v.transition))
    (find_push (λ (v : Visit). v.id.0 == id.0) old.visits (next_visit row old ∷ []) stands.1)

-- a redirect did not come from a visit of another page than that of its source
pub led_apart : (now : Kept) (redirect : Bool) (source : Option VisitId) (page : PageId) (w : Visit)
    → list_any (λ (id : PageId). page.0 == id.0) (option_to_list
    (if redirect then option_map (λ (v : Visit). v.page) (option_and_then (visit_at now) source) else None)) ≡ false
    → visit_at now w.id ≡ Some w → (w.page.0 == page.0) ≡ true → (redirect && is_source w.id source) ≡ false
led_apart now false source page w other found of = refl
led_apart now true None page w other found of = refl
led_apart now true (Some id) page w other found of =
    false_from_ne_true (id.0 == w.id.0)
    (λ same.
    let number : id.0 ≡ w.id.0 = eqb-true id.0 w.id.0 same in
    let at : visit_at now id ≡ Some w =
    ap (λ (n : ℕ). visit_at now (record { 0 = n })) number ∙ found in
    let apart : (page.0 == w.page.0) ≡ false =
    (or_parts (page.0 == w.page.0) false
    (ap (λ (o : Option Visit). list_any (λ (i : PageId). page.0 == i.0)
    (option_to_list (option_map (λ (v : Visit). v.page) o))) (sym at) ∙ other)).0 in
    false≢true (sym apart ∙ eq-eqb page.0 w.page.0 (sym (eqb-true w.page.0 page.0 of))))

-- no visit to this page, and no redirect from one
pub record IsElsewhere (row : VisitRow) (old : Kept) (page : PageId) : Type 0 where
  pub visited : (row.page.0 == page.0) ≡ false
  pub led : list_any (λ (id : PageId). page.0 == id.0) (option_to_list (source_page (with_visit row old) row)) ≡ false

visits_alike : (old : Kept) (row : VisitRow) (page : PageId) → IsWellKept old → IsWellKept (with_visit row old)
    → IsElsewhere row old page
    → AllByRecursion (IsAlike (store_of old) (store_of (with_visit row old))) (visits_of (store_of old) page)
visits_alike old row page h made e =
    let now : Kept = with_visit row old in
    let Alike : Visit → Type 0 = IsAlike (store_of old) (store_of now) in
    where_passes Alike (λ (w : Visit). w.page.0 == page.0) old.visits
    (both (HasSource old) (λ (w : Visit). visit_at now w.id ≡ Some w)
    (λ (w : Visit). (w.page.0 == page.0) ≡ true → Alike w) old.visits
    (λ w stands found of. record {
      came =
          ap (λ (o : Option Transition). if is_redirect w.transition then o else None)
          (came_alike old row w.id.0 w.source stands);
      led =
          any_last (λ (u : Visit). is_redirect u.transition && is_source w.id u.source) old.visits (next_visit row old)
          (led_apart now (is_redirect row.transition) row.source page w e.led found of);
    })
    (recursion_from_All (HasSource old) old.visits h.sources)
    (front (λ (w : Visit). visit_at now w.id ≡ Some w) old.visits (next_visit row old ∷ [])
    (each_visit_found now made)))

pub visits_same : (old : Kept) (row : VisitRow) (page : PageId) → IsElsewhere row old page
    → visits_of (store_of (with_visit row old)) page ≡ visits_of (store_of old) page
visits_same old row page e = filter_last (λ (w : Visit). w.page.0 == page.0) old.visits (next_visit row old) e.visited

pub count_same : (old : Kept) (row : VisitRow) (page : PageId) → (row.page.0 == page.0) ≡ false
    → visit_count (store_of (with_visit row old)) page ≡ visit_count (store_of old) page
count_same old row page other =
    count_last (λ (w : Visit). (w.page.0 == page.0) && is_counted w.transition) old.visits (next_visit row old)
    (ap (λ (b : Bool). b && is_counted row.transition) other)

points_alike : (store after : Store) (w : Visit) → store.day ≡ after.day → store.items ≡ after.items
    → IsAlike store after w
    → points store.day w.date (bonus_of w.transition (source_transition after w) (is_redirect_source after w)
    (is_referenced store w.page)) ≡ points store.day w.date (visit_bonus store w)
points_alike store after w days items alike =
    ap (points store.day w.date)
    (ap (λ (o : Option Transition). bonus_of w.transition o (is_redirect_source after w) (is_referenced store w.page))
    alike.came
    ∙ ap (λ (b : Bool). bonus_of w.transition (source_transition store w) b (is_referenced store w.page)) alike.led)

pub frecency_same : (old : Kept) (row : VisitRow) (p : Page) → IsWellKept old → IsWellKept (with_visit row old)
    → IsElsewhere row old p.id → frecency_of (store_of (with_visit row old)) p ≡ frecency_of (store_of old) p
frecency_same old row p h made e =
    let store : Store = store_of old in
    let after : Store = store_of (with_visit row old) in
    let from : List Visit → ℕ → ℤ =
    λ (sample : List Visit) (count : ℕ). frecency_from
    (sum_by (λ (w : Visit). points store.day w.date (visit_bonus after w)) sample) (length sample) count
    (is_referenced store p.id) p.typed (is_place_url p.url) in
    ap (λ (vs : List Visit). from (take 10 (latest_first vs)) (visit_count after p.id)) (visits_same old row p.id e)
    ∙ ap (from (sample_of store p.id)) (count_same old row p.id e.visited)
    ∙ ap (λ (total : ℕ). frecency_from total (length (sample_of store p.id)) (visit_count store p.id)
    (is_referenced store p.id) p.typed (is_place_url p.url))
    (sum_by-agree (λ (w : Visit). points store.day w.date (visit_bonus after w))
    (λ (w : Visit). points store.day w.date (visit_bonus store w)) (sample_of store p.id)
    (All-take (λ (w : Visit). points store.day w.date (visit_bonus after w)
    ≡ points store.day w.date (visit_bonus store w)) 10 (latest_first (visits_of store p.id))
    (All-from_recursion (λ (w : Visit). points store.day w.date (visit_bonus after w)
    ≡ points store.day w.date (visit_bonus store w)) (latest_first (visits_of store p.id))
    (weaker (IsAlike store after) (λ (w : Visit). points store.day w.date (visit_bonus after w)
    ≡ points store.day w.date (visit_bonus store w)) (latest_first (visits_of store p.id))
    (λ w alike. points_alike store after w refl refl alike)
    (all-latest_first (IsAlike store after) (visits_of store p.id) (visits_alike old row p.id h made e))))))

all-alike : (p q : Visit → Bool) (vs : List Visit) → AllByRecursion (λ (v : Visit). p v ≡ q v) vs
    → list_all p vs ≡ list_all q vs
all-alike p q [] alike = refl
all-alike p q (v ∷ vs) alike = rw (alike.0, all-alike p q vs alike.1) refl

hidden_by-alike : (store after : Store) (vs : List Visit) → AllByRecursion (IsAlike store after) vs
    → hidden_by after vs ≡ hidden_by store vs
hidden_by-alike store after [] alike = refl
hidden_by-alike store after (v ∷ vs) alike =
    all-alike (is_passing after) (is_passing store) (v ∷ vs)
    (weaker (IsAlike store after) (λ (w : Visit). is_passing after w ≡ is_passing store w) (v ∷ vs)
    (λ w a. ap (λ (b : Bool). is_framed w.transition || b) a.led) alike)

pub hidden_same : (old : Kept) (row : VisitRow) (p : Page) → IsWellKept old → IsWellKept (with_visit row old)
    → IsElsewhere row old p.id → is_hidden (store_of (with_visit row old)) p ≡ is_hidden (store_of old) p
hidden_same old row p h made e =
    let after : Store = store_of (with_visit row old) in
    ap (λ (vs : List Visit). is_place_url p.url || hidden_by after vs) (visits_same old row p.id e)
    ∙ ap (λ (b : Bool). is_place_url p.url || b)
    (hidden_by-alike (store_of old) after (visits_of (store_of old) p.id) (visits_alike old row p.id h made e))

-- ---- the rows with a visit more

pub other_way : (a b : PageId) → (a.0 == b.0) ≡ false → (b.0 == a.0) ≡ false
other_way a b other = ne_eqb b.0 a.0 (λ same. eqb-false a.0 b.0 other (sym same))

-- all pages stay right but the visited one, and where a redirect made the visit that of its source
pub right_visited : (old : Kept) (row : VisitRow) → IsWellKept old → IsWellKept (with_visit row old)
    → AreRightBut (row.page ∷ []) old
    → AreRightBut (row.page ∷ option_to_list (source_page (with_visit row old) row)) (with_visit row old)
right_visited old row h made right k d within other =
    let p : KeptPage = get_or old.pages k d in
    let sources : List PageId = option_to_list (source_page (with_visit row old) row) in
    let apart : ((p.page.id.0 == row.page.0) ≡ false)
    × (list_any (λ (id : PageId). p.page.id.0 == id.0) sources ≡ false) =
    or_parts (p.page.id.0 == row.page.0) (list_any (λ (id : PageId). p.page.id.0 == id.0) sources) other in
    let e : IsElsewhere row old p.page.id =
    record { visited = other_way p.page.id row.page apart.0; led = apart.1 } in
    let was : IsRightPage (store_of old) p = right k d within (or_from (p.page.id.0 == row.page.0) false apart.0 refl)
    in (
      was.0 ∙ sym (frecency_same old row p.page h made e),
      was.1 ∙ sym (count_same old row p.page.id e.visited),
      was.2 ∙ sym (hidden_same old row p.page h made e),
    )

-- ---- a mark computed afresh

-- what the mark of a page makes of each page
abbrev after_mark : PageId → Mark → KeptPage → KeptPage
after_mark page mark p = if p.page.id.0 == page.0 then marked mark p else p

-- what holds of the marked page and of the others holds of all
pub each_marked : (P : KeptPage → Type 0) (page : PageId) (mark : Mark) (pages : List KeptPage)
    → All (λ (p : KeptPage). (p.page.id.0 == page.0) ≡ true → P (marked mark p)) pages
    → All (λ (p : KeptPage). (p.page.id.0 == page.0) ≡ false → P p) pages → All P (map (after_mark page mark) pages)
each_marked P page mark pages same other =
    All-map P (after_mark page mark) pages
    (λ k d within.
    let p : KeptPage = get_or pages k d in
    cond_both (p.page.id.0 == page.0) (marked mark p) p P (same k d within) (other k d within))

-- the page is right, and need no longer be left out
right_marked : (ids : List PageId) (page : PageId) (mark : Mark) (old : Kept) → AreRightBut (page ∷ ids) old
    → All (λ (p : KeptPage). (p.page.id.0 == page.0) ≡ true → IsRightPage (store_of old) (marked mark p)) old.pages
    → AreRightBut ids (with_mark page mark old)
right_marked ids page mark old right own =
    each_marked (λ (p : KeptPage). list_any (λ (id : PageId). p.page.id.0 == id.0) ids ≡ false
    → IsRightPage (store_of old) p) page mark old.pages
    (λ k d within same _. own k d within same)
    (λ k d within other apart.
    let id : PageId = (get_or old.pages k d).page.id in
    right k d within (or_from (id.0 == page.0) (list_any (λ (i : PageId). id.0 == i.0) ids) other apart))

pub right_refreshed : (ids : List PageId) (page : PageId) (told : Mark) (is_place : Bool) (old new : Kept)
    (frecency : ℤ) → AreRightBut (page ∷ ids) old → Refreshes page told is_place old new frecency
    → told.count ≡ visit_count (store_of old) page
    → All (λ (p : KeptPage). (p.page.id.0 == page.0) ≡ true → is_place ≡ is_place_url p.page.url) old.pages
    → AreRightBut ids new
right_refreshed ids page told is_place old new frecency right r counted place =
    let mark : Mark = record told { frecency = frecency; hidden = r.hidden } in
    subst (AreRightBut ids) (sym r.rows)
    (right_marked ids page mark old right
    (λ k d within same.
    let p : KeptPage = get_or old.pages k d in
    let id : p.page.id ≡ page = same_page p.page.id page same in (
      r.scored (marked mark p).page id refl (place k d within same),
      counted ∙ ap (visit_count (store_of old)) (sym id),
      r.shown (marked mark p).page id (place k d within same),
    )))

pub counts_refreshed : (page : PageId) (told : Mark) (is_place : Bool) (old new : Kept) (frecency : ℤ)
    → All (λ (p : KeptPage). (p.page.id.0 == page.0) ≡ false → p.count ≡ visit_count (store_of old) p.page.id) old.pages
    → Refreshes page told is_place old new frecency → told.count ≡ visit_count (store_of old) page → HaveCounts new
counts_refreshed page told is_place old new frecency others r counted =
    subst HaveCounts (sym r.rows)
    (each_marked (λ (p : KeptPage). p.count ≡ visit_count (store_of old) p.page.id) page
    (record told { frecency = frecency; hidden = r.hidden }) old.pages
    (λ k d within same.
    counted ∙ ap (visit_count (store_of old)) (sym (same_page (get_or old.pages k d).page.id page same)))
    others)

-- the counts of the other pages are those before the visit
pub counts_visited : (old : Kept) (row : VisitRow) → HaveCounts old
    → All (λ (p : KeptPage). (p.page.id.0 == row.page.0) ≡ false
    → p.count ≡ visit_count (store_of (with_visit row old)) p.page.id) old.pages
counts_visited old row counts k d within other =
    let id : PageId = (get_or old.pages k d).page.id in
    counts k d within ∙ sym (count_same old row id (other_way id row.page other))

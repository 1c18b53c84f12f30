-- Pages that a visit does not bear on stay right when it goes.
use Rattle.std.proofs.Common.{◌≡◌, ◌==◌, ◌&&◌, ◌||◌, ◌∙◌, if◌then◌else◌, ℕ, ℤ}
use Rattle.std.proofs.Common.{Bool, true, false, List, [], ◌∷◌, Option, Some, None}
use Rattle.std.proofs.Common.{ap, find, length, map, option_to_list, refl, sym, take}
use Rattle.std.specs.List.{AllByRecursion, list_all, list_any, sum_by}
use Rattle.std.specs.Option.{option_and_then, option_map}
use Rattle.std.proofs.lemmas.Bool.{eq-eqb, eqb-true, false_from_ne_true, false≢true}
use Rattle.std.proofs.lemmas.List.{length-map, take-map}
use Rattle.std.proofs.lemmas.List.Elements.{All-from_recursion, All-take}
use Rattle.pl_base.specs.declared.id.PageId.{PageId}
use Rattle.pl_base.specs.declared.id.VisitId.{VisitId}
use Rattle.pl_base.specs.declared.transition.Transition.{Transition}
use Rattle.pl_base.specs.Address.{is_place_url}
use Rattle.pl_base.specs.Frecency.{frecency_from, frecency_of, points, visit_bonus}
use Rattle.pl_base.specs.Good.{is_visited}
use Rattle.pl_base.specs.Marks.{is_counted, is_framed, is_hidden, is_referenced, visit_count}
use Rattle.pl_base.specs.Redirects.{is_redirect, is_redirect_source, is_source, source_transition, visit_transition}
use Rattle.pl_base.specs.Removal.{is_among, source_left, visit_left}
use Rattle.pl_base.specs.Rows.{IsWellKept, Kept, row_of, store_of, visit_at, without_visit}
use Rattle.pl_base.specs.Store.{Page, Store, Visit}
use Rattle.pl_base.specs.Tables.{bonus_of}
use Rattle.pl_base.specs.Visits.{latest_first, sample_of, visits_of}
use Rattle.pl_marks.specs.Refreshed.{is_passing, source_page}
use Rattle.pl_base.proofs.ListLaws.{sum_by-agree, sum_by-map, weaker}
use Rattle.pl_base.proofs.VisitLists.{each_visit_found}
use Rattle.pl_base.proofs.VisitsLaws.{all-latest_first}
use Rattle.pl_base.proofs.LookUps.{apart_increasing, both, found_one, where_passes}
use Rattle.pl_marks.proofs.SeenVisits.{hidden_by}
use Rattle.pl_history.proofs.RightAfter.{led_apart}
use Rattle.pl_history.proofs.VisitsLeft.{Keeps, among_is, among_one, any_left, count_left, filter_left, find_left}
use Rattle.pl_history.proofs.VisitsLeft.{order_left}

-- not the page of the visit, nor that of its source where a redirect made it, nor that of a
-- redirect that came from it
pub record IsApart (old : Kept) (id : VisitId) (gone : Visit) (page : PageId) : Type 0 where
  pub own : (gone.page.0 == page.0) ≡ false
  pub source : list_any (λ (i : PageId). page.0 == i.0) (option_to_list (source_page old (row_of gone))) ≡ false
  pub redirects :
      AllByRecursion (λ (v : Visit). (is_redirect v.transition && is_source id v.source) ≡ true
      → (v.page.0 == page.0) ≡ false) old.visits

-- the visit came from the same, and led to a redirect or not as before
record IsAlikeLeft (old : Kept) (id : VisitId) (w : Visit) : Type 0 where
  pub came :
      source_transition (store_of (without_visit id old)) (visit_left (id ∷ []) w)
      ≡ source_transition (store_of old) w
  pub led :
      is_redirect_source (store_of (without_visit id old)) (visit_left (id ∷ []) w)
      ≡ is_redirect_source (store_of old) w

-- ---- sources

-- a visit that stays is a source as before
source_stays : (gone : List VisitId) (id : VisitId) (source : Option VisitId) → is_among gone id ≡ false
    → is_source id (source_left gone source) ≡ is_source id source
source_stays gone id None stays = refl
source_stays gone id (Some s) stays = choose (is_among gone s) refl
  where
    choose : (b : Bool) → is_among gone s ≡ b
        → is_source id (if b then None else Some s) ≡ (s.0 == id.0)
    choose true goes =
        sym (false_from_ne_true (s.0 == id.0)
        (λ same. false≢true (sym stays
        ∙ ap (λ (n : ℕ). is_among gone (record { 0 = n })) (sym (eqb-true s.0 id.0 same)) ∙ goes)))
    choose false other = refl

transition_left : (gone : List VisitId) (o : Option Visit)
    → option_map (λ (v : Visit). v.transition) (option_map (visit_left gone) o)
    ≡ option_map (λ (v : Visit). v.transition) o
transition_left gone None = refl
transition_left gone (Some v) = refl

-- the transition of a visit that stays
transition_stays : (old : Kept) (id other : VisitId) → (other.0 == id.0) ≡ false
    → visit_transition (store_of (without_visit id old)) other ≡ visit_transition (store_of old) other
transition_stays old id other apart =
    ap (option_map (λ (v : Visit). v.transition))
    (find_left (id ∷ []) (λ (v : Visit). v.id.0 == other.0) (λ (v : Visit). v.id.0 == other.0) old.visits
    (each old.visits))
    ∙ transition_left (id ∷ []) (find (λ (v : Visit). v.id.0 == other.0) old.visits)
  where
    each : (vs : List Visit)
        → AllByRecursion (Keeps (id ∷ []) (λ (v : Visit). v.id.0 == other.0) (λ (v : Visit). v.id.0 == other.0)) vs
    each [] = tt
    each (v ∷ vs) = (
      (
        λ goes.
            false_from_ne_true (v.id.0 == other.0)
            (λ same. false≢true (sym apart
            ∙ eq-eqb other.0 id.0 (sym (eqb-true v.id.0 other.0 same) ∙ eqb-true v.id.0 id.0 (among_is id v.id goes)))),
        refl,
      ),
      each vs,
    )

came_left : (old : Kept) (id : VisitId) (redirect : Bool) (source : Option VisitId)
    → (redirect && is_source id source) ≡ false
    → (if redirect then option_and_then (visit_transition (store_of (without_visit id old)))
    (source_left (id ∷ []) source) else None)
    ≡ (if redirect then option_and_then (visit_transition (store_of old)) source else None)
came_left old id false source other = refl
came_left old id true None other = refl
came_left old id true (Some s) other =
    ap (λ (b : Bool). option_and_then (visit_transition (store_of (without_visit id old))) (if b then None else Some s))
    (among_one id s false other)
    ∙ transition_stays old id s other

-- ---- the visits of another page

module _ (old : Kept) (id : VisitId) (gone : Visit) (h : IsWellKept old) (at : visit_at old id ≡ Some gone) where
  gone_is : AllByRecursion (λ (v : Visit). is_among (id ∷ []) v.id ≡ true → v ≡ gone) old.visits
  gone_is =
      weaker (λ (v : Visit). (v.id.0 == id.0) ≡ true → v ≡ gone)
      (λ (v : Visit). is_among (id ∷ []) v.id ≡ true → v ≡ gone) old.visits
      (λ v one among. one (among_is id v.id among))
      (found_one (λ (v : Visit). v.id.0) id.0 old.visits gone
      (apart_increasing (λ (v : Visit). v.id.0) old.visits h.visit_ids.ascending) at)

  -- a test that the visit fails, and that does not ask for a source
  keeps : (q : Visit → Bool) → q gone ≡ false → ((v : Visit) → q (visit_left (id ∷ []) v) ≡ q v)
      → AllByRecursion (Keeps (id ∷ []) q q) old.visits
  keeps q fails alike =
      weaker (λ (v : Visit). is_among (id ∷ []) v.id ≡ true → v ≡ gone) (Keeps (id ∷ []) q q) old.visits
      (λ v one. (λ among. ap q (one among) ∙ fails, alike v)) gone_is

  pub visited_left : (page : PageId) → (gone.page.0 == page.0) ≡ false
      → is_visited (store_of (without_visit id old)) page ≡ is_visited (store_of old) page
  visited_left page other =
      let q : Visit → Bool = λ (v : Visit). v.page.0 == page.0 in
      any_left (id ∷ []) q q old.visits (keeps q other (λ v. refl))

  pub count_apart : (page : PageId) → (gone.page.0 == page.0) ≡ false
      → visit_count (store_of (without_visit id old)) page ≡ visit_count (store_of old) page
  count_apart page other =
      let q : Visit → Bool = λ (v : Visit). (v.page.0 == page.0) && is_counted v.transition in
      count_left (id ∷ []) q q old.visits
      (keeps q (ap (λ (b : Bool). b && is_counted gone.transition) other) (λ v. refl))

  pub visits_apart : (page : PageId) → (gone.page.0 == page.0) ≡ false
      → visits_of (store_of (without_visit id old)) page
      ≡ map (visit_left (id ∷ [])) (visits_of (store_of old) page)
  visits_apart page other =
      let q : Visit → Bool = λ (v : Visit). v.page.0 == page.0 in
      filter_left (id ∷ []) q q old.visits (keeps q other (λ v. refl))

  led_left : (page : PageId) → IsApart old id gone page → (w : Visit) → visit_at old w.id ≡ Some w
      → (is_among (id ∷ []) w.id ≡ true → w ≡ gone) → (w.page.0 == page.0) ≡ true
      → is_redirect_source (store_of (without_visit id old)) (visit_left (id ∷ []) w)
      ≡ is_redirect_source (store_of old) w
  led_left page e w found one of =
      let q : Visit → Bool = λ (u : Visit). is_redirect u.transition && is_source w.id u.source in
      let stays : is_among (id ∷ []) w.id ≡ false =
      false_from_ne_true (is_among (id ∷ []) w.id)
      (λ among. false≢true (sym e.own ∙ ap (λ (v : Visit). v.page.0 == page.0) (sym (one among)) ∙ of)) in
      any_left (id ∷ []) q q old.visits
      (keeps q (led_apart old (is_redirect gone.transition) gone.source page w e.source found of)
      (λ u. ap (λ (b : Bool). is_redirect u.transition && b) (source_stays (id ∷ []) w.id u.source stays)))

  visits_alike : (page : PageId) → IsApart old id gone page
      → AllByRecursion (IsAlikeLeft old id) (visits_of (store_of old) page)
  visits_alike page e =
      let One : Visit → Type 0 = λ (v : Visit). is_among (id ∷ []) v.id ≡ true → v ≡ gone in
      let Found : Visit → Type 0 = λ (v : Visit). visit_at old v.id ≡ Some v in
      let Other : Visit → Type 0 =
      λ (v : Visit). (is_redirect v.transition && is_source id v.source) ≡ true → (v.page.0 == page.0) ≡ false in
      where_passes (IsAlikeLeft old id) (λ (w : Visit). w.page.0 == page.0) old.visits
      (both (λ (v : Visit). One v × Found v) Other (λ (w : Visit). (w.page.0 == page.0) ≡ true → IsAlikeLeft old id w)
      old.visits
      (λ w known other of. record {
        came =
            came_left old id (is_redirect w.transition) w.source
            (false_from_ne_true (is_redirect w.transition && is_source id w.source)
            (λ from. false≢true (sym (other from) ∙ of)));
        led = led_left page e w known.1 known.0 of;
      })
      (both One Found (λ (v : Visit). One v × Found v) old.visits (λ v one found. (one, found)) gone_is
      (each_visit_found old h))
      e.redirects)

  -- ---- what is computed of another page

  points_alike : (w : Visit) → IsAlikeLeft old id w
      → points old.day w.date (visit_bonus (store_of (without_visit id old)) (visit_left (id ∷ []) w))
      ≡ points old.day w.date (visit_bonus (store_of old) w)
  points_alike w alike =
      let store : Store = store_of old in
      let after : Store = store_of (without_visit id old) in
      let left : Visit = visit_left (id ∷ []) w in
      ap (points old.day w.date)
      (ap (λ (o : Option Transition).
      bonus_of w.transition o (is_redirect_source after left) (is_referenced store w.page)) alike.came
      ∙ ap (λ (b : Bool). bonus_of w.transition (source_transition store w) b (is_referenced store w.page)) alike.led)

  pub sample_left : (page : PageId) → (gone.page.0 == page.0) ≡ false
      → sample_of (store_of (without_visit id old)) page
      ≡ map (visit_left (id ∷ [])) (sample_of (store_of old) page)
  sample_left page other =
      ap (λ (vs : List Visit). take 10 (latest_first vs)) (visits_apart page other)
      ∙ ap (take 10) (order_left (id ∷ []) (visits_of (store_of old) page))
      ∙ take-map (visit_left (id ∷ [])) 10 (latest_first (visits_of (store_of old) page))

  pub frecency_left : (p : Page) → IsApart old id gone p.id
      → frecency_of (store_of (without_visit id old)) p ≡ frecency_of (store_of old) p
  frecency_left p e =
      let store : Store = store_of old in
      let after : Store = store_of (without_visit id old) in
      let left : Visit → Visit = visit_left (id ∷ []) in
      let new_points : Visit → ℕ = λ (w : Visit). points store.day w.date (visit_bonus after w) in
      let old_points : Visit → ℕ = λ (w : Visit). points store.day w.date (visit_bonus store w) in
      let Same : Visit → Type 0 = λ (w : Visit). new_points (left w) ≡ old_points w in
      let from : ℕ → ℕ → ℕ → ℤ =
      λ (total sampled count : ℕ). frecency_from total sampled count (is_referenced store p.id) p.typed
      (is_place_url p.url) in
      ap (λ (sample : List Visit). from (sum_by new_points sample) (length sample) (visit_count after p.id))
      (sample_left p.id e.own)
      ∙ ap (from (sum_by new_points (map left (sample_of store p.id))) (length (map left (sample_of store p.id))))
      (count_apart p.id e.own)
      ∙ ap (λ (n : ℕ). from (sum_by new_points (map left (sample_of store p.id))) n (visit_count store p.id))
      (length-map (sample_of store p.id) left)
      ∙ ap (λ (total : ℕ). from total (length (sample_of store p.id)) (visit_count store p.id))
      (sum_by-map new_points left (sample_of store p.id)
      ∙ sum_by-agree (λ (w : Visit). new_points (left w)) old_points (sample_of store p.id)
      (All-take Same 10 (latest_first (visits_of store p.id))
      (All-from_recursion Same (latest_first (visits_of store p.id))
      (weaker (IsAlikeLeft old id) Same (latest_first (visits_of store p.id)) points_alike
      (all-latest_first (IsAlikeLeft old id) (visits_of store p.id) (visits_alike p.id e))))))

  all_passing : (vs : List Visit) → AllByRecursion (IsAlikeLeft old id) vs
      → list_all (is_passing (store_of (without_visit id old))) (map (visit_left (id ∷ [])) vs)
      ≡ list_all (is_passing (store_of old)) vs
  all_passing [] alike = refl
  all_passing (v ∷ vs) alike =
      ap (λ (b : Bool). (is_framed v.transition || b)
      && list_all (is_passing (store_of (without_visit id old))) (map (visit_left (id ∷ [])) vs)) alike.0.led
      ∙ ap (λ (b : Bool). is_passing (store_of old) v && b) (all_passing vs alike.1)

  hidden_by_left : (vs : List Visit) → AllByRecursion (IsAlikeLeft old id) vs
      → hidden_by (store_of (without_visit id old)) (map (visit_left (id ∷ [])) vs) ≡ hidden_by (store_of old) vs
  hidden_by_left [] alike = refl
  hidden_by_left (v ∷ vs) alike = all_passing (v ∷ vs) alike

  pub hidden_left : (p : Page) → IsApart old id gone p.id
      → is_hidden (store_of (without_visit id old)) p ≡ is_hidden (store_of old) p
  hidden_left p e =
      let after : Store = store_of (without_visit id old) in
      ap (λ (vs : List Visit). is_place_url p.url || hidden_by after vs) (visits_apart p.id e.own)
      ∙ ap (λ (b : Bool). is_place_url p.url || b)
      (hidden_by_left (visits_of (store_of old) p.id) (visits_alike p.id e))

  pub computed_left : (p : Page) (frecency : ℤ) (count : ℕ) (hidden : Bool) → IsApart old id gone p.id
      → (frecency ≡ frecency_of (store_of old) p) × (count ≡ visit_count (store_of old) p.id)
      × (hidden ≡ is_hidden (store_of old) p)
      → (frecency ≡ frecency_of (store_of (without_visit id old)) p)
      × (count ≡ visit_count (store_of (without_visit id old)) p.id)
      × (hidden ≡ is_hidden (store_of (without_visit id old)) p)
  computed_left p frecency count hidden e was = (
    was.0 ∙ sym (frecency_left p e),
    was.1 ∙ sym (count_apart p.id e.own),
    was.2 ∙ sym (hidden_left p e),
  )

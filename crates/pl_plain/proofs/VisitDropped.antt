-- The rows stay well kept where a visit goes, and no visit came from it from then on.
use Rattle.std.proofs.Common.{◌≡◌, ◌+◌, ◌-◌, ◌<◌, ◌==◌, ◌||◌, ◌∙◌, ℕ, Bool, true, false, IsTrue}
use Rattle.std.proofs.Common.{IfSome, List, [], ◌∷◌, Option, None, Some, ap, arith, filter, get_or}
use Rattle.std.proofs.Common.{◌++◌, drop, if◌then◌else◌, length, map, not, refl, set, subst, suc, sym, take}
use Rattle.std.specs.List.{AllPairs, list_any}
use Rattle.std.proofs.lemmas.Bool.{eqb-true, false≢true, ne_eqb}
use Rattle.std.proofs.lemmas.List.{get_or_default, length-map}
use Rattle.std.proofs.lemmas.List.Edits.{map_over_more}
use Rattle.std.proofs.lemmas.List.Elements.{All-filter, All-map, All-weaker, filter_agree}
use Rattle.std.proofs.lemmas.List.Kept.{IsStrictlyIncreasing-filter}
use Rattle.std.proofs.lemmas.Map.Views.{any-filter_same}
use Rattle.pl_base.specs.declared.id.VisitId.{VisitId}
use Rattle.pl_base.specs.Date.{IsDate}
use Rattle.pl_base.specs.Good.{AreIds}
use Rattle.pl_base.specs.Live.{live_slots}
use Rattle.pl_base.specs.Removal.{is_among, source_left, visit_left, visits_left}
use Rattle.pl_base.specs.Rows.{HasSource, Kept, has_page, has_visit, store_of, without_visit}
use Rattle.pl_base.specs.Store.{Visit}
use Rattle.pl_base.proofs.ItemLaws.{map-filter}
use Rattle.pl_base.proofs.ListLaws.{list_any-map, map-map}
use Rattle.pl_base.proofs.Searches.{rises}
use Rattle.pl_stored.specs.Stored.{visit_of}
use Rattle.pl_stored.specs.declared.stored.StoredVisit.{StoredVisit}
use Rattle.pl_plain.specs.FlatRows.{IsFlat, left_by}
use Rattle.pl_plain.proofs.FlatChanges.{slots_of}
use Rattle.pl_plain.proofs.PagesButOne.{all_pass}
use Rattle.pl_base.proofs.VisitLists.{among_one}

-- ---- the visits but one

-- the visits with other ids
abbrev others : VisitId → List Visit → List Visit
others id vs = filter (λ (v : Visit). not (v.id.0 == id.0)) vs

left_is : (id : VisitId) (vs : List Visit) → visits_left (id ∷ []) vs ≡ map (visit_left (id ∷ [])) (others id vs)
left_is id vs =
    ap (map (visit_left (id ∷ [])))
    (filter_agree (λ (v : Visit). not (is_among (id ∷ []) v.id)) (λ (v : Visit). not (v.id.0 == id.0))
    (λ v. ap not (among_one id v.id)) vs)

-- a list without the only element that passes is one shorter
one_less : {X : Type 0} (q : X → Bool) (xs : List X) → AllPairs (λ a b. q a ≡ true → q b ≡ false) xs
    → list_any q xs ≡ true → length (filter (λ x. not (q x)) xs) + 1 ≡ length xs
one_less q [] once some = absurd (false≢true some)
one_less {X} q (x ∷ xs) once some =
    choose (q x) refl some
    (one_less q xs (λ i j d before within. once (suc i) (suc j) d (omega arith) (omega arith)))
  where
    choose : (b : Bool) → q x ≡ b → (b || list_any q xs) ≡ true
        → (list_any q xs ≡ true → length (filter (λ y. not (q y)) xs) + 1 ≡ length xs)
        → length (if not b then x ∷ filter (λ y. not (q y)) xs else filter (λ y. not (q y)) xs) + 1
        ≡ length (x ∷ xs)
    choose true passes here rest =
        omega (
          arith,
          ap length (all_pass q xs (λ k d within. once 0 (suc k) d (omega arith) (omega arith) passes)),
        )
    choose false fails here rest = omega (arith, rest here)

one_visit : (kept : Kept) (origins live : ℕ) (id : VisitId) → IsFlat kept origins live
    → AllPairs (λ (v w : Visit). (v.id.0 == id.0) ≡ true → (w.id.0 == id.0) ≡ false) kept.visits
one_visit kept origins live id h i j d before within passes =
    ne_eqb (get_or kept.visits j d).id.0 id.0
    (λ same. omega (
      arith,
      eqb-true (get_or kept.visits i d).id.0 id.0 passes,
      rises (λ (v : Visit). v.id.0) kept.visits h.visit_ids.ascending i j d before within,
    ))

-- ---- the rows without the visit

-- the visit's slot, and those of the rows without it
pub slots_without_visit : (id : VisitId) (kept : Kept) (origins live : ℕ) → has_visit kept id ≡ true
    → IsFlat kept origins live → live ≡ live_slots (store_of (without_visit id kept)) + 1
slots_without_visit id kept origins live there h =
    omega (
      arith,
      h.filled,
      slots_of kept,
      slots_of (without_visit id kept),
      ap length (left_is id kept.visits),
      length-map (others id kept.visits) (visit_left (id ∷ [])),
      one_less (λ (v : Visit). v.id.0 == id.0) kept.visits (one_visit kept origins live id h) there,
    )

-- another visit is still there
still : (id other : VisitId) (kept : Kept) → is_among (id ∷ []) other ≡ false → has_visit kept other ≡ true
    → IsTrue (has_visit (record kept { visits = map (visit_left (id ∷ [])) (others id kept.visits) }) other)
still id other kept apart there =
    list_any-map (λ (v : Visit). v.id.0 == other.0) (visit_left (id ∷ [])) (others id kept.visits)
    ∙ any-filter_same (λ (v : Visit). v.id.0 == other.0) (λ (v : Visit). not (v.id.0 == id.0)) true
    (λ v same. ap not (ap (λ n. n == id.0) (eqb-true v.id.0 other.0 same) ∙ sym (among_one id other) ∙ apart))
    kept.visits
    ∙ there

source_stays : (id : VisitId) (kept : Kept) (v : Visit) → HasSource kept v
    → HasSource (record kept { visits = map (visit_left (id ∷ [])) (others id kept.visits) })
    (visit_left (id ∷ []) v)
source_stays id kept v has = of v.source has
  where
    whole : Kept
    whole = record kept { visits = map (visit_left (id ∷ [])) (others id kept.visits) }

    choose : (source : VisitId) (b : Bool) → is_among (id ∷ []) source ≡ b
        → (source.0 < v.id.0) × IsTrue (has_visit kept source)
        → IfSome (if b then None else Some source) (λ s. (s.0 < v.id.0) × IsTrue (has_visit whole s))
    choose source true gone before = tt
    choose source false apart before = (before.0, still id source kept apart before.1)

    of : (source : Option VisitId) → IfSome source (λ s. (s.0 < v.id.0) × IsTrue (has_visit kept s))
        → IfSome (source_left (id ∷ []) source) (λ s. (s.0 < v.id.0) × IsTrue (has_visit whole s))
    of None before = tt
    of (Some source) before = choose source (is_among (id ∷ []) source) refl before

pub IsFlat-without_visit : (id : VisitId) (kept : Kept) (origins live : ℕ) → has_visit kept id ≡ true
    → IsFlat kept origins live → IsFlat (without_visit id kept) origins (live - 1)
IsFlat-without_visit id kept origins live there h =
    let f : Visit → Visit = visit_left (id ∷ []) in
    let q : Visit → Bool = λ (v : Visit). not (v.id.0 == id.0) in
    let rest : List Visit = others id kept.visits in
    let whole : Kept = record kept { visits = map f rest } in
    let ids : map (λ (v : Visit). v.id.0) (map f rest)
    ≡ filter (λ n. not (n == id.0)) (map (λ (v : Visit). v.id.0) kept.visits) =
    map-map (λ (v : Visit). v.id.0) f rest
    ∙ map-filter (λ (v : Visit). v.id.0) (λ n. not (n == id.0)) kept.visits in
    let slots = slots_without_visit id kept origins live there h in
    subst (λ (vs : List Visit). IsFlat (record kept { visits = vs }) origins (live - 1))
    (sym (left_is id kept.visits))
    (record {
      day = h.day;
      page_ids = h.page_ids;
      visit_ids = subst (AreIds 1 kept.ids.visit) (sym ids) (record {
        ascending =
            IsStrictlyIncreasing-filter (λ n. not (n == id.0)) (map (λ (v : Visit). v.id.0) kept.visits)
            h.visit_ids.ascending;
        given =
            All-filter (λ n. not (n == id.0)) (λ n. (0 < n) × (n < kept.ids.visit))
            (map (λ (v : Visit). v.id.0) kept.visits) h.visit_ids.given;
        next_first = h.visit_ids.next_first;
        next_last = h.visit_ids.next_last;
      });
      item_ids = h.item_ids;
      urls = h.urls;
      distinct_urls = h.distinct_urls;
      titles = h.titles;
      visits =
          All-map (λ (v : Visit). IsDate v.date × IsTrue (has_page kept v.page)) f rest
          (All-filter q (λ (v : Visit). IsDate v.date × IsTrue (has_page kept v.page)) kept.visits h.visits);
      sources =
          All-map (HasSource whole) f rest
          (All-filter q (λ (v : Visit). HasSource whole (f v)) kept.visits
          (All-weaker (HasSource kept) (λ (v : Visit). HasSource whole (f v)) (λ v has. source_stays id kept v has)
          kept.visits h.sources));
      named = h.named;
      used = h.used;
      same = h.same;
      counted = h.counted;
      filled =
          omega (
            arith,
            slots,
            ap (λ (vs : List Visit). live_slots (store_of (record kept { visits = vs })))
                (left_is id kept.visits),
          );
      few = omega (arith, h.few);
    })

-- ---- over rows

-- one more of the elements of a list is changed, as it was read
pub map_over_read : {X : Type 0} (f : X → X) (xs ys : List X) (i : ℕ) (d new : X) → i < length xs → i < length ys
    → ys ≡ map f (take i xs) ++ drop i xs → new ≡ f (get_or ys i d)
    → set ys i new ≡ map f (take (i + 1) xs) ++ drop (i + 1) xs
map_over_read f xs ys i d new within inside before is =
    ap (set ys i) is
    ∙ map_over_more f xs ys i (get_or ys i d) within before (get_or_default ys i d (get_or ys i d) inside)

-- the rows of visits that are left, seen as what is kept
pub visits_dropped : (id : VisitId) (vs left new : List StoredVisit)
    → left ≡ filter (λ (v : StoredVisit). not (v.id.0 == id.0)) vs → new ≡ map (left_by id) left
    → map visit_of new ≡ visits_left (id ∷ []) (map visit_of vs)
visits_dropped id vs left new is changed =
    ap (map visit_of) changed
    ∙ map-map visit_of (left_by id) left
    ∙ sym (map-map (visit_left (id ∷ [])) visit_of left)
    ∙ ap (λ (ws : List StoredVisit). map (visit_left (id ∷ [])) (map visit_of ws)) is
    ∙ ap (map (visit_left (id ∷ []))) (seen vs)
    ∙ sym (left_is id (map visit_of vs))
  where
    seen : (ws : List StoredVisit)
        → map visit_of (filter (λ (v : StoredVisit). not (v.id.0 == id.0)) ws) ≡ others id (map visit_of ws)
    seen [] = refl
    seen (w ∷ ws) = choose (w.id.0 == id.0) (seen ws)
      where
        choose : (b : Bool)
            → map visit_of (filter (λ (v : StoredVisit). not (v.id.0 == id.0)) ws) ≡ others id (map visit_of ws)
            → map visit_of (if not b then w ∷ filter (λ (v : StoredVisit). not (v.id.0 == id.0)) ws
            else filter (λ (v : StoredVisit). not (v.id.0 == id.0)) ws)
            ≡ (if not b then visit_of w ∷ others id (map visit_of ws) else others id (map visit_of ws))
        choose true rest = rest
        choose false rest = ap (λ (xs : List Visit). visit_of w ∷ xs) rest

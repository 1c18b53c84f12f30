-- Rows without a visit, from which no visit came from then on, stay rows of a store. They are the
-- rows where it is the source of none, without it.
use Rattle.std.proofs.Common.{◌≡◌, ◌≢◌, ◌+◌, ◌<◌, ◌==◌, ◌&&◌, ◌∙◌, ℕ, Bool, true, false, IfSome}
use Rattle.std.proofs.Common.{IsTrue, List, [], ◌∷◌, Option, None, Some, ap, arith, eq-eqb, filter}
use Rattle.std.proofs.Common.{if◌then◌else◌, length, map, not, refl, subst, sym}
use Rattle.std.specs.List.{AllByRecursion}
use Rattle.std.specs.List.Sorted.{IsPermutation}
use Rattle.std.proofs.lemmas.Bool.{and_parts, eqb-true, false≢true, ne_eqb}
use Rattle.std.proofs.lemmas.List.{length-map}
use Rattle.std.proofs.lemmas.List.Elements.{All-filter, All-map, All-weaker, filter-append, filter_agree}
use Rattle.std.proofs.lemmas.List.Kept.{IsStrictlyIncreasing-filter}
use Rattle.std.proofs.lemmas.List.Sorted.{IsPermutation-refl}
use Rattle.std.proofs.lemmas.Map.Views.{any-filter_same}
use Rattle.pl_base.specs.declared.id.PageId.{PageId}
use Rattle.pl_base.specs.declared.id.VisitId.{VisitId}
use Rattle.pl_base.specs.declared.transition.Transition.{Transition}
use Rattle.pl_base.specs.Date.{IsDate}
use Rattle.pl_base.specs.Good.{AreIds}
use Rattle.pl_base.specs.Live.{live_slots}
use Rattle.pl_base.specs.Redirects.{is_redirect, is_source}
use Rattle.pl_base.specs.Removal.{is_among, source_left, visit_left, visits_left}
use Rattle.pl_base.specs.Rows.{AreTargets, HasSource, IsWellKept, Kept, has_page, has_visit, page_visits, store_of}
use Rattle.pl_base.specs.Rows.{visit_at, without_visit}
use Rattle.pl_base.specs.Store.{Visit}
use Rattle.pl_base.specs.Visits.{latest_first, visits_of}
use Rattle.pl_base.proofs.ItemLaws.{map-filter, one_less}
use Rattle.pl_base.proofs.ListLaws.{everyone, filter-map, list_any-map, map-map, to_map, weaker}
use Rattle.pl_base.proofs.LookUps.{none_kept, where_passes}
use Rattle.pl_base.proofs.OneChanged.{once_by_number}
use Rattle.pl_base.proofs.TargetsRun.{all_any, differ_all, targets_of}
use Rattle.pl_base.proofs.VisitsLaws.{Differ-filter}
use Rattle.pl_record.specs.Form.{AreRows}
use Rattle.pl_record.proofs.NamedSlots.{found_of}
use Rattle.pl_record.proofs.PartMoves.{part_moves}
use Rattle.pl_record.proofs.TargetLists.{but_visit, sourceless, without_targets}
use Rattle.pl_record.proofs.VisitAdded.{from, of_page}
use Rattle.pl_base.proofs.TargetsRun.{source_is}
use Rattle.pl_base.proofs.VisitOrder.{latest_left, latest_part}
use Rattle.pl_base.proofs.VisitLists.{among_one}

-- ---- parts of lists

pub part_of_part : {X : Type 0} (p q : X → Bool) (xs : List X) → filter p (filter q xs) ≡ filter q (filter p xs)
part_of_part p q [] = refl
part_of_part {X} p q (x ∷ xs) = choose (p x) (q x) refl refl (part_of_part p q xs)
  where
    choose : (a b : Bool) → p x ≡ a → q x ≡ b → filter p (filter q xs) ≡ filter q (filter p xs)
        → filter p (if b then x ∷ filter q xs else filter q xs)
        ≡ filter q (if a then x ∷ filter p xs else filter p xs)
    choose true true of_p of_q rest =
        ap (λ (c : Bool). if c then x ∷ filter p (filter q xs) else filter p (filter q xs)) of_p
        ∙ ap (λ (ys : List X). x ∷ ys) rest
        ∙ sym (ap (λ (c : Bool). if c then x ∷ filter q (filter p xs) else filter q (filter p xs)) of_q)
    choose true false of_p of_q rest =
        rest ∙ sym (ap (λ (c : Bool). if c then x ∷ filter q (filter p xs) else filter q (filter p xs)) of_q)
    choose false true of_p of_q rest =
        ap (λ (c : Bool). if c then x ∷ filter p (filter q xs) else filter p (filter q xs)) of_p ∙ rest
    choose false false of_p of_q rest = rest

mapped_same : {X : Type 0} (f : X → X) (xs : List X) → AllByRecursion (λ x. f x ≡ x) xs → map f xs ≡ xs
mapped_same f [] all = refl
mapped_same f (x ∷ xs) all = λ i. all.0 i ∷ mapped_same f xs all.1 i

-- ---- one source goes

-- another number than one that is the id is not the id
apart_from : (m n id : ℕ) → (m == id) ≡ false → (n == id) ≡ true → (n == m) ≡ false
apart_from m n id apart is =
    ne_eqb n m (λ same. false≢true (sym apart ∙ eq-eqb m id (sym same ∙ eqb-true n id is)))

-- what came from another visit still does, and nothing else
source_still : (id source : VisitId) (from : Option VisitId) → (source.0 == id.0) ≡ false
    → is_source source (source_left (id ∷ []) from) ≡ is_source source from
source_still id source None apart = refl
source_still id source (Some s) apart = choose (is_among (id ∷ []) s) refl
  where
    choose : (b : Bool) → is_among (id ∷ []) s ≡ b
        → is_source source (if b then None else Some s) ≡ (s.0 == source.0)
    choose true goes = sym (apart_from source.0 s.0 id.0 apart (sym (among_one id s) ∙ goes))
    choose false stays = refl

-- nothing came from the one
source_gone : (id source : VisitId) (from : Option VisitId) → (source.0 == id.0) ≡ true
    → is_source source (source_left (id ∷ []) from) ≡ false
source_gone id source None same = refl
source_gone id source (Some s) same = choose (is_among (id ∷ []) s) refl
  where
    choose : (b : Bool) → is_among (id ∷ []) s ≡ b → is_source source (if b then None else Some s) ≡ false
    choose true goes = refl
    choose false stays =
        ne_eqb s.0 source.0
        (λ is. false≢true (sym (sym (among_one id s) ∙ stays) ∙ eq-eqb s.0 id.0 (is ∙ eqb-true source.0 id.0 same)))

-- a visit that came from another one stays as it is
left_same : (id source : VisitId) (v : Visit) → (source.0 == id.0) ≡ false → v.source ≡ Some source
    → visit_left (id ∷ []) v ≡ v
left_same id source v apart from =
    ap (λ (s : Option VisitId). record v { source = s })
    (ap (source_left (id ∷ [])) from
    ∙ ap (λ (b : Bool). if b then None else Some source) (among_one id source ∙ apart)
    ∙ sym from)

-- ---- the rows

-- the visits with other ids
abbrev is_other : VisitId → Visit → Bool
is_other id v = not (v.id.0 == id.0)

pub left_is : (id : VisitId) (vs : List Visit)
    → visits_left (id ∷ []) vs ≡ map (visit_left (id ∷ [])) (filter (is_other id) vs)
left_is id vs =
    ap (map (visit_left (id ∷ [])))
    (filter_agree (λ (v : Visit). not (is_among (id ∷ []) v.id)) (is_other id) (λ v. ap not (among_one id v.id)) vs)

pub gone_is : (id : VisitId) (kept : Kept) → without_visit id kept ≡ but_visit id (sourceless id kept)
gone_is id kept =
    ap (λ (vs : List Visit). record kept { visits = vs })
    (left_is id kept.visits ∙ sym (filter-map (is_other id) (visit_left (id ∷ [])) kept.visits))

-- the visit's slot goes
pub live_gone : (id : VisitId) (kept : Kept) → IsWellKept kept → has_visit kept id ≡ true
    → live_slots (store_of (without_visit id kept)) + 1 ≡ live_slots (store_of kept)
live_gone id kept h there =
    let found = found_of (λ (v : Visit). v.id.0 == id.0) kept.visits there in
    omega (
      arith,
      ap length (left_is id kept.visits),
      length-map (filter (is_other id) kept.visits) (visit_left (id ∷ [])),
      one_less (λ (v : Visit). v.id.0 == id.0) kept.visits found.0
          (once_by_number (λ (v : Visit). v.id.0) id.0 kept.visits h.visit_ids.ascending) found.1,
    )

-- ---- the visits of a page

pub page_visits_sourceless : (id : VisitId) (kept : Kept) (page : PageId)
    → page_visits (sourceless id kept) page ≡ map (visit_left (id ∷ [])) (page_visits kept page)
page_visits_sourceless id kept page =
    ap latest_first (filter-map (of_page page) (visit_left (id ∷ [])) kept.visits)
    ∙ latest_left (id ∷ []) (visits_of (store_of kept) page)

pub page_visits_but : (id : VisitId) (kept : Kept) (page : PageId) → IsWellKept kept
    → page_visits (but_visit id kept) page ≡ filter (λ (v : Visit). not (v.id.0 == id.0)) (page_visits kept page)
page_visits_but id kept page h =
    ap latest_first (part_of_part (of_page page) (is_other id) kept.visits)
    ∙ sym (latest_part (is_other id) (visits_of (store_of kept) page)
    (Differ-filter (of_page page) kept.visits (differ_all kept h)))

-- ---- the targets

-- those of another visit did not come from the one
pub targets_left : (id source : VisitId) (kept : Kept) (targets : VisitId → List Visit) → AreRows kept targets
    → source.0 ≢ id.0 → map (visit_left (id ∷ [])) (targets source) ≡ targets source
targets_left id source kept targets h differ =
    mapped_same (visit_left (id ∷ [])) (targets source)
    (weaker (λ (v : Visit). (visit_at kept v.id ≡ Some v) × (v.source ≡ Some source))
    (λ (v : Visit). visit_left (id ∷ []) v ≡ v) (targets source)
    (λ v is. left_same id source v (ne_eqb source.0 id.0 differ) is.1)
    (all_any kept source (targets source) (targets_of kept source (targets source) h.well (h.targeted source))))

module _ (id source : VisitId) (kind : Transition → Bool) (vs : List Visit) where
  -- none came from the one that goes
  none_from : (source.0 == id.0) ≡ true
      → filter (from kind source) (map (visit_left (id ∷ [])) (filter (is_other id) vs)) ≡ []
  none_from same =
      none_kept (from kind source) (map (visit_left (id ∷ [])) (filter (is_other id) vs))
      (to_map (λ (v : Visit). from kind source v ≡ false) (visit_left (id ∷ [])) (filter (is_other id) vs)
      (everyone (λ (v : Visit). from kind source (visit_left (id ∷ []) v) ≡ false) (filter (is_other id) vs)
      (λ v. ap (λ (b : Bool). kind v.transition && b) (source_gone id source v.source same)
      ∙ neither (kind v.transition))))
    where
      neither : (b : Bool) → (b && false) ≡ false
      neither true = refl
      neither false = refl

  -- those that came from another one are still all but the one
  still_from : (source.0 == id.0) ≡ false
      → filter (is_other id) (filter (from kind source) vs)
      ≡ filter (from kind source) (map (visit_left (id ∷ [])) (filter (is_other id) vs))
  still_from apart =
      let f : Visit → Visit = visit_left (id ∷ []) in
      let rest : List Visit = filter (is_other id) vs in
      sym (filter-map (from kind source) f rest
      ∙ ap (map f)
      (filter_agree (λ (v : Visit). from kind source (f v)) (from kind source)
      (λ v. ap (λ (b : Bool). kind v.transition && b) (source_still id source v.source apart)) rest)
      ∙ mapped_same f (filter (from kind source) rest)
      (where_passes (λ (v : Visit). f v ≡ v) (from kind source) rest
      (everyone (λ (v : Visit). from kind source v ≡ true → f v ≡ v) rest
      (λ v passes.
      left_same id source v apart
      (source_is source v.source (and_parts (kind v.transition) (is_source source v.source) passes).1))))
      ∙ part_of_part (from kind source) (is_other id) vs)

-- ---- the rows without the visit

module _ (id : VisitId) (kept : Kept) where
  abbrev rest : List Visit
  rest = filter (is_other id) kept.visits

  abbrev whole : Kept
  whole = record kept { visits = map (visit_left (id ∷ [])) rest }

  -- another visit is still there
  still_there : (other : VisitId) → is_among (id ∷ []) other ≡ false → has_visit kept other ≡ true
      → IsTrue (has_visit whole other)
  still_there other apart there =
      list_any-map (λ (v : Visit). v.id.0 == other.0) (visit_left (id ∷ [])) rest
      ∙ any-filter_same (λ (v : Visit). v.id.0 == other.0) (is_other id) true
      (λ v same.
      ap not (ap (λ n. n == id.0) (eqb-true v.id.0 other.0 same) ∙ sym (among_one id other) ∙ apart)) kept.visits
      ∙ there

  source_there : (v : Visit) → HasSource kept v → HasSource whole (visit_left (id ∷ []) v)
  source_there v has = of v.source has
    where
      choose : (source : VisitId) (b : Bool) → is_among (id ∷ []) source ≡ b
          → (source.0 < v.id.0) × IsTrue (has_visit kept source)
          → IfSome (if b then None else Some source) (λ s. (s.0 < v.id.0) × IsTrue (has_visit whole s))
      choose source true goes before = tt
      choose source false stays before = (before.0, still_there source stays before.1)

      of : (source : Option VisitId) → IfSome source (λ s. (s.0 < v.id.0) × IsTrue (has_visit kept s))
          → IfSome (source_left (id ∷ []) source) (λ s. (s.0 < v.id.0) × IsTrue (has_visit whole s))
      of None before = tt
      of (Some source) before = choose source (is_among (id ∷ []) source) refl before

  well_left : IsWellKept kept → has_visit kept id ≡ true → IsWellKept whole
  well_left h there =
      let f : Visit → Visit = visit_left (id ∷ []) in
      let ids : List ℕ = map (λ (v : Visit). v.id.0) kept.visits in
      let other : ℕ → Bool = λ n. not (n == id.0) in
      record {
        day = h.day;
        page_ids = h.page_ids;
        visit_ids =
            subst (AreIds 1 kept.ids.visit)
            (sym (map-map (λ (v : Visit). v.id.0) f rest ∙ map-filter (λ (v : Visit). v.id.0) other kept.visits))
            (record {
              ascending = IsStrictlyIncreasing-filter other ids h.visit_ids.ascending;
              given = All-filter other (λ n. (0 < n) × (n < kept.ids.visit)) ids h.visit_ids.given;
              next_first = h.visit_ids.next_first;
              next_last = h.visit_ids.next_last;
            });
        item_ids = h.item_ids;
        urls = h.urls;
        distinct_urls = h.distinct_urls;
        titles = h.titles;
        visits =
            All-map (λ (v : Visit). IsDate v.date × IsTrue (has_page kept v.page)) f rest
            (All-filter (is_other id) (λ (v : Visit). IsDate v.date × IsTrue (has_page kept v.page)) kept.visits
            h.visits);
        sources =
            All-map (HasSource whole) f rest
            (All-filter (is_other id) (λ (v : Visit). HasSource whole (f v)) kept.visits
            (All-weaker (HasSource kept) (λ (v : Visit). HasSource whole (f v)) source_there kept.visits h.sources));
        origins =
            record {
              distinct = h.origins.distinct;
              some = h.origins.some;
              known = h.origins.known;
              used = h.origins.used;
              same = h.origins.same;
            };
        live =
            omega (
              arith,
              h.live,
              live_gone id kept h there,
              ap (λ (vs : List Visit). live_slots (store_of (record kept { visits = vs }))) (left_is id kept.visits),
            );
      }

  targets_gone : (targets : VisitId → List Visit) (source : VisitId) (b : Bool) → (source.0 == id.0) ≡ b
      → AreTargets (store_of kept) source (targets source)
      → AreTargets (store_of whole) source (if b then [] else filter (is_other id) (targets source))
  targets_gone targets source true same t =
      record {
        redirects = [];
        others = [];
        is = refl;
        all_redirects =
            subst (IsPermutation []) (sym (none_from id source is_redirect kept.visits same)) (IsPermutation-refl []);
        all_others =
            subst (IsPermutation []) (sym (none_from id source (λ k. not (is_redirect k)) kept.visits same))
            (IsPermutation-refl []);
      }
  targets_gone targets source false apart t =
      let redirect : Visit → Bool = from is_redirect source in
      let other : Visit → Bool = from (λ k. not (is_redirect k)) source in
      record {
        redirects = filter (is_other id) t.redirects;
        others = filter (is_other id) t.others;
        is = ap (filter (is_other id)) t.is ∙ filter-append (is_other id) t.redirects t.others;
        all_redirects =
            subst (IsPermutation (filter (is_other id) t.redirects))
            (still_from id source is_redirect kept.visits apart)
            (part_moves (is_other id) t.redirects (filter redirect kept.visits) t.all_redirects);
        all_others =
            subst (IsPermutation (filter (is_other id) t.others))
            (still_from id source (λ k. not (is_redirect k)) kept.visits apart)
            (part_moves (is_other id) t.others (filter other kept.visits) t.all_others);
      }

  pub visit_gone : (targets : VisitId → List Visit) → AreRows kept targets → has_visit kept id ≡ true
      → AreRows (without_visit id kept) (without_targets id targets)
  visit_gone targets h there =
      subst (λ (vs : List Visit). AreRows (record kept { visits = vs }) (without_targets id targets))
      (sym (left_is id kept.visits))
      (record {
        well = well_left h.well there;
        targeted = λ source. targets_gone targets source (source.0 == id.0) refl (h.targeted source);
        titles = h.titles;
        own = h.own;
        children = h.children;
        once = h.once;
      })

-- The marks of pages, computed from their visits by page.
use Rattle.std.proofs.Common.{◌≡◌, ◌≤◌, ◌<◌, ◌^◌, ◌+◌, ◌∙◌, ◌&&◌, ◌||◌, ◌==◌, ℕ, Bool, true, false, List, [], ◌∷◌, ap}
use Rattle.std.proofs.Common.{arith, filter, if◌then◌else◌, length, map, not, refl, sym, take}
use Rattle.std.specs.List.{AllByRecursion, count_by, list_all}
use Rattle.std.proofs.lemmas.Bool.{ne_eqb}
use Rattle.std.proofs.lemmas.List.{length-map, take-map}
use Rattle.std.proofs.lemmas.List.Folds.{list_all-map}
use Rattle.std.proofs.lemmas.List.Sums.{count_by-le-length, length-filter, sum_by-cons}
use Rattle.pl_base.specs.declared.id.PageId.{PageId}
use Rattle.pl_base.specs.Address.{is_place_url}
use Rattle.pl_base.specs.Frecency.{frecency_from, frecency_of}
use Rattle.pl_base.specs.Live.{slot_limit}
use Rattle.pl_base.specs.Marks.{is_counted, is_framed, is_hidden, is_referenced, visit_count}
use Rattle.pl_base.specs.Redirects.{is_redirect_source}
use Rattle.pl_base.specs.Store.{Store, Visit}
use Rattle.pl_base.specs.Visits.{sample_of, sample_size, visits_of}
use Rattle.pl_base.proofs.IdsLaws.{same_page}
use Rattle.pl_base.proofs.ListLaws.{all_take, map-map, sum_by-map}
use Rattle.pl_base.proofs.VisitLists.{list_all-latest_first}
use Rattle.pl_base.proofs.VisitsLaws.{latest_first-same, length-latest_first}
use Rattle.pl_score.specs.declared.sample.Sampled.{Sampled}
use Rattle.pl_score.specs.Sample.{points_of, sampled_of}
use Rattle.pl_score.proofs.StoreSamples.{frecency-sampled}
use Rattle.pl_sound.specs.Marks.{are_unseen, told_sample}
use Rattle.pl_sound.specs.Visits.{AreByPage, of_page}
use Rattle.pl_stored.specs.declared.stored.StoredPage.{StoredPage}
use Rattle.pl_stored.specs.declared.stored.StoredVisit.{StoredVisit}
use Rattle.pl_stored.specs.Stored.{Stored, stored_page, stored_store, visit_of}

-- ---- lists

abbrev counts : Visit → Bool
counts v = is_counted v.transition

abbrev Passes : {X : Type 0} → (X → Bool) → X → Type 0
Passes p x = p x ≡ true

all_kept : {X : Type 0} (p : X → Bool) (xs : List X) → AllByRecursion (Passes p) (filter p xs)
all_kept p [] = tt
all_kept {X} p (x ∷ xs) = choose (p x) refl (all_kept p xs)
  where
    choose : (b : Bool) → p x ≡ b → AllByRecursion (Passes p) (filter p xs)
        → AllByRecursion (Passes p) (if b then x ∷ filter p xs else filter p xs)
    choose true is rest = (is, rest)
    choose false is rest = rest

counted_part : (p : Visit → Bool) (vs : List Visit)
    → count_by counts (filter p vs) ≡ count_by (λ v. p v && counts v) vs
counted_part p [] = refl
counted_part p (v ∷ vs) =
    choose (p v) (counted_part p vs) ∙ sym (sum_by-cons (λ w. if p w && counts w then 1 else 0) v vs)
  where
    choose : (b : Bool) → count_by counts (filter p vs) ≡ count_by (λ w. p w && counts w) vs
        → count_by counts (if b then v ∷ filter p vs else filter p vs)
        ≡ (if b && counts v then 1 else 0) + count_by (λ w. p w && counts w) vs
    choose true rest = omega (arith, rest, sum_by-cons (λ w. if counts w then 1 else 0) v (filter p vs))
    choose false rest = omega (arith, rest)

-- ---- the visits of a page

module _ (rows : Stored) (sorted : List StoredVisit) (by : AreByPage rows.visits sorted) (page : PageId) where
  abbrev store : Store
  store = stored_store rows

  abbrev own : List StoredVisit
  own = filter (of_page page) sorted

  -- there are no more than all
  pub few_own : length rows.visits ≤ slot_limit → length own < 2 ^ 32
  few_own few =
      omega (
        arith,
        few,
        ap length (by page),
        length-map own visit_of,
        length-latest_first (visits_of store page),
        length-filter (λ (v : Visit). v.page.0 == page.0) store.visits,
        count_by-le-length (λ (v : Visit). v.page.0 == page.0) store.visits,
        length-map rows.visits visit_of,
      )

  pub count_is : count_by (λ (v : StoredVisit). is_counted v.transition) own ≡ visit_count store page
  count_is =
      sym (sum_by-map (λ (v : Visit). if counts v then 1 else 0) visit_of own)
      ∙ ap (count_by counts) (by page) ∙ latest_first-same counts (visits_of store page)
      ∙ counted_part (λ (v : Visit). v.page.0 == page.0) store.visits

  -- ---- the sample

  abbrev sampled : List StoredVisit
  sampled = take sample_size own

  told_right : (vs : List StoredVisit) → AllByRecursion (Passes (of_page page)) vs
      → map (told_sample rows (is_referenced store page)) vs ≡ map (λ (v : StoredVisit). sampled_of store (visit_of v)) vs
  told_right [] all = refl
  told_right (v ∷ vs) all = rw (same_page v.page page all.0, told_right vs all.1) refl

  pub sample_is : (referenced : Bool) → referenced ≡ is_referenced store page
      → map (told_sample rows referenced) sampled ≡ map (sampled_of store) (sample_of store page)
  sample_is referenced told =
      ap (λ (b : Bool). map (told_sample rows b) sampled) told
      ∙ told_right sampled (all_take (Passes (of_page page)) sample_size own (all_kept (of_page page) sorted))
      ∙ sym (map-map (sampled_of store) visit_of sampled)
      ∙ ap (map (sampled_of store)) (sym (take-map visit_of sample_size own) ∙ ap (take sample_size) (by page))

  -- ---- hidden pages

  abbrev unseen : Visit → Bool
  unseen v = is_framed v.transition || is_redirect_source store v

  -- as `is_hidden` has it
  abbrev hidden_by : List Visit → Bool
  hidden_by [] = false
  hidden_by (v ∷ vs) = list_all unseen (v ∷ vs)

  by_all : (vs : List Visit) → hidden_by vs
      ≡ (not (length vs == 0) && list_all unseen vs)
  by_all [] = refl
  by_all (v ∷ vs) =
      sym (ap (λ (b : Bool). not b && list_all unseen (v ∷ vs)) (ne_eqb (length (v ∷ vs)) 0 (λ none. omega (arith, none))))

  unseen_is : are_unseen rows own ≡ hidden_by (visits_of store page)
  unseen_is =
      ap (λ (b : Bool). not (length own == 0) && b)
      (sym (list_all-map unseen visit_of own)
      ∙ ap (list_all unseen) (by page)
      ∙ list_all-latest_first unseen (visits_of store page))
      ∙ ap (λ (n : ℕ). not (n == 0)
      && list_all unseen (visits_of store page))
      (sym (length-map own visit_of) ∙ ap length (by page) ∙ length-latest_first (visits_of store page))
      ∙ sym (by_all (visits_of store page))

-- a page is hidden as its address and its visits say
module _ (rows : Stored) (sorted : List StoredVisit) (by : AreByPage rows.visits sorted) (p : StoredPage) where
  pub hidden_is : is_hidden (stored_store rows) (stored_page p)
      ≡ (is_place_url p.url || are_unseen rows (filter (of_page p.id) sorted))
  hidden_is = ap (λ (b : Bool). is_place_url p.url || b) (sym (unseen_is rows sorted by p.id))

-- ---- the frecency

pub score_is : (rows : Stored) (p : StoredPage) (sampled : List Sampled) (count : ℕ) (referenced place : Bool)
    → sampled ≡ map (sampled_of (stored_store rows)) (sample_of (stored_store rows) p.id)
    → count ≡ visit_count (stored_store rows) p.id → referenced ≡ is_referenced (stored_store rows) p.id
    → place ≡ is_place_url p.url
    → frecency_from (points_of rows.day sampled) (length sampled) count referenced p.typed place
    ≡ frecency_of (stored_store rows) (stored_page p)
score_is rows p sampled count referenced place is counted refers places =
    rw (is, counted, refers, places) (frecency-sampled (stored_store rows) (stored_page p))

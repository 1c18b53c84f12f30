-- Sums by the names of origins are those by origins.
use Rattle.std.proofs.Common.{◌≡◌, ◌≢◌, ◌+◌, ◌<◌, ◌≤◌, ◌^◌, ◌==◌, ◌∙◌, ◌++◌, ℕ, ℤ, All, Bool, true, false, List, [], ◌∷◌}
use Rattle.std.proofs.Common.{IsTrue, Option, Some, None, ap, arith, eq-eqb, filter, find, get_or, if◌then◌else◌, length}
use Rattle.std.proofs.Common.{map, refl, subst, suc, sym, take, zero}
use Rattle.std.specs.List.{AllByRecursion, AllPairs, Contains, cons_option, filter_map, sum_by}
use Rattle.std.specs.Option.{option_map}
use Rattle.std.proofs.lemmas.Bool.{eqb-true, false≢true}
use Rattle.std.proofs.lemmas.List.{length-take}
use Rattle.std.proofs.lemmas.List.Elements.{All-from_recursion, All-take, All-weaker, recursion_from_All}
use Rattle.std.proofs.lemmas.List.Sums.{sum_by-cons, sum_by-le, sum_by_push}
use Rattle.std.proofs.lemmas.Option.{same_Some}
use Rattle.pl_base.specs.declared.id.PageId.{PageId}
use Rattle.pl_base.specs.declared.id.Slot.{Slot}
use Rattle.pl_base.specs.Address.{are_same, is_store_url, origin_of_url, same_origin}
use Rattle.pl_base.specs.Live.{slot_limit}
use Rattle.pl_base.specs.Rows.{AreAlike, HaveSums, HaveTotals, IsRight, IsWellKept, Kept, KeptOrigin, KeptPage}
use Rattle.pl_base.specs.Rows.{has_origin, kept_scores, page_at, page_origins, total_at}
use Rattle.pl_base.specs.Totals.{Origin, Scored, is_origin, most_share, share, total_of}
use Rattle.pl_base.proofs.IdsLaws.{same_slot}
use Rattle.pl_base.proofs.ListLaws.{sum_by-map, weaker}
use Rattle.pl_base.proofs.LookUps.{Apart, both, found_holds, found_passes, found_self, found_where}
use Rattle.pl_base.proofs.OriginLaws.{same_origin-self}
use Rattle.pl_base.proofs.OriginSums.{origin_named, sums_of_totals, totals_of_sums}
use Rattle.pl_base.proofs.PageLaws.{pages_found}
use Rattle.pl_base.proofs.SmallFrecencies.{small_in}
use Rattle.pl_base.proofs.Truths.{same_tests}
use Rattle.pl_load.specs.Reads.{place_at}
use Rattle.pl_record.specs.declared.rows.Place.{Place}
use Rattle.pl_record.specs.Records.{Layout}
use Rattle.pl_sound.specs.Sums.{named_share, named_sum}

-- what a page of a store adds to the sum by this name, and the sum of all
abbrev kept_share : ℕ → KeptPage → ℕ
kept_share name p = if p.origin.0 == name then share p.frecency else 0

abbrev pub kept_sum : List KeptPage → ℕ → ℕ
kept_sum pages name = sum_by (kept_share name) pages

-- as a file has the pages
pub kept_same : (at : Layout) (pages : List KeptPage) (name : ℕ)
    → named_sum (map (place_at at) pages) name ≡ kept_sum pages name
kept_same at pages name = sum_by-map (named_share name) (place_at at) pages

-- ---- by name as by origin

-- as `kept_scores` has them
abbrev scores : List KeptPage → List Scored
scores ps =
    filter_map (λ (p : KeptPage). option_map (λ (o : Origin). (o, p.frecency)) (origin_of_url p.page.url)) ps

-- the page has the name exactly where it has the origin
abbrev IsNamed : ℕ → Origin → KeptPage → Type 0
IsNamed name o p = (p.origin.0 == name) ≡ are_same (origin_of_url p.page.url) (Some o)

same_sum : (name : ℕ) (o : Origin) (ps : List KeptPage) → AllByRecursion (IsNamed name o) ps
    → total_of (scores ps) o ≡ kept_sum ps name
same_sum name o [] all = refl
same_sum name o (p ∷ ps) all =
    choose (origin_of_url p.page.url) (same_sum name o ps all.1)
    ∙ ap (λ (b : Bool). (if b then share p.frecency else 0) + kept_sum ps name) (sym all.0)
    ∙ sym (sum_by-cons (kept_share name) p ps)
  where
    add : (x : Origin) (b : Bool) → total_of (scores ps) o ≡ kept_sum ps name
        → sum_by (λ (s : Scored). share s.1)
        (if b then (x, p.frecency) ∷ filter (λ (s : Scored). is_origin s.0 o) (scores ps)
        else filter (λ (s : Scored). is_origin s.0 o) (scores ps))
        ≡ (if b then share p.frecency else 0) + kept_sum ps name
    add x true rest =
        sum_by-cons (λ (s : Scored). share s.1) (x, p.frecency) (filter (λ (s : Scored). is_origin s.0 o) (scores ps))
        ∙ ap (λ (n : ℕ). share p.frecency + n) rest
    add x false rest = omega (arith, rest)

    choose : (x : Option Origin) → total_of (scores ps) o ≡ kept_sum ps name
        → total_of (cons_option (option_map (λ (y : Origin). (y, p.frecency)) x) (scores ps)) o
        ≡ (if are_same x (Some o) then share p.frecency else 0) + kept_sum ps name
    choose None rest = omega (arith, rest)
    choose (Some x) rest = add x (is_origin x o) rest

-- two pages have the same name exactly where they have the same origin
alike_tests : (p q : KeptPage) → AreAlike q p → (q.origin.0 == p.origin.0) ≡ same_origin q.page.url p.page.url
alike_tests p q alike =
    same_tests (q.origin.0 == p.origin.0) (same_origin q.page.url p.page.url)
    (λ same. alike.0 (same_slot q.origin p.origin (eqb-true q.origin.0 p.origin.0 same)))
    (λ same. eq-eqb q.origin.0 p.origin.0 (ap (λ (s : Slot). s.0) (alike.1 same)))

module _ (kept : Kept) (id : PageId) (p : KeptPage) (well : IsWellKept kept) (at : page_at kept id ≡ Some p) where
  here : (P : KeptPage → Type 0) → All P kept.pages → P p
  here P all =
      found_holds P (λ (q : KeptPage). q.page.id.0 == id.0) kept.pages p (recursion_from_All P kept.pages all) at

  all_named : (o : Origin) → origin_of_url p.page.url ≡ Some o → AllByRecursion (IsNamed p.origin.0 o) kept.pages
  all_named o own =
      let Alike : KeptPage → Type 0 = λ (q : KeptPage). All (AreAlike q) kept.pages in
      weaker Alike (IsNamed p.origin.0 o) kept.pages
      (λ q alike. alike_tests p q (here (AreAlike q) alike) ∙ ap (are_same (origin_of_url q.page.url)) own)
      (recursion_from_All Alike kept.pages well.origins.same)

  -- the total of the page's origin, by its name
  named_total : option_map (total_of (kept_scores kept)) (origin_of_url p.page.url)
      ≡ Some (kept_sum kept.pages p.origin.0)
  named_total =
      choose (origin_of_url p.page.url) refl
      (same_origin-self p.page.url (here (λ (q : KeptPage). IsTrue (is_store_url q.page.url)) well.urls))
    where
      choose : (o : Option Origin) → origin_of_url p.page.url ≡ o → are_same o o ≡ true
          → option_map (total_of (kept_scores kept)) o ≡ Some (kept_sum kept.pages p.origin.0)
      choose None own self = absurd (false≢true self)
      choose (Some o) own self = ap (λ (n : ℕ). Some n) (same_sum p.origin.0 o kept.pages (all_named o own))

-- ---- totals

-- the total of the page's origin is the sum by its name
abbrev IsSummed : Kept → KeptPage → Type 0
IsSummed kept p = total_at kept p.origin ≡ Some (kept_sum kept.pages p.origin.0)

-- what an origin was said to have is the sum by its name
abbrev pub IsTotaled : Kept → KeptOrigin → Type 0
IsTotaled kept a = kept_sum kept.pages a.origin.0 ≡ a.total

-- each page is found by its id
apart_pairs : {X : Type 0} (key : X → ℕ) (xs : List X) → AllPairs (λ x y. key x ≢ key y) xs → Apart key xs
apart_pairs key [] pairs = tt
apart_pairs key (x ∷ xs) pairs = (
  recursion_from_All (λ y. key y ≢ key x) xs
      (λ k d within same. pairs 0 (suc k) d (omega arith) (omega arith) (sym same)),
  apart_pairs key xs (λ i j d before within. pairs (suc i) (suc j) d (omega arith) (omega arith)),
)

-- each origin is found by its name
each_origin : (kept : Kept) → IsWellKept kept
    → AllByRecursion (λ (a : KeptOrigin). total_at kept a.origin ≡ Some a.total) kept.origins
each_origin kept well =
    weaker (λ (a : KeptOrigin). find (λ (b : KeptOrigin). b.origin.0 == a.origin.0) kept.origins ≡ Some a)
    (λ (a : KeptOrigin). total_at kept a.origin ≡ Some a.total) kept.origins
    (λ a found. ap (option_map (λ (b : KeptOrigin). b.total)) found)
    (found_self (λ (a : KeptOrigin). a.origin.0) kept.origins
    (apart_pairs (λ (a : KeptOrigin). a.origin.0) kept.origins
    (λ i j d before within same.
    well.origins.distinct i j d before within (same_slot _ _ same))))

-- what pages add is small where their marks are right
all_small : (kept : Kept) → IsWellKept kept → IsRight kept
    → All (λ (p : KeptPage). share p.frecency ≤ most_share) kept.pages
all_small kept well right k d within =
    subst (λ (z : ℤ). share z ≤ most_share) (sym (right.frecencies k d within))
    (small_in kept (get_or kept.pages k d).page well)

module _ (kept : Kept) (well : IsWellKept kept) where
  abbrev Told : KeptPage → Type 0
  Told p = total_at kept p.origin ≡ option_map (total_of (kept_scores kept)) (origin_of_url p.page.url)

  told_all : AllByRecursion (IsSummed kept) kept.pages → AllByRecursion Told kept.pages
  told_all all =
      both (λ (p : KeptPage). page_at kept p.page.id ≡ Some p) (IsSummed kept) Told kept.pages
      (λ p at summed. summed ∙ sym (named_total kept p.page.id p well at)) (pages_found kept well) all

  summed_all : AllByRecursion Told kept.pages → AllByRecursion (IsSummed kept) kept.pages
  summed_all all =
      both (λ (p : KeptPage). page_at kept p.page.id ≡ Some p) Told (IsSummed kept) kept.pages
      (λ p at told. told ∙ named_total kept p.page.id p well at) (pages_found kept well) all

  -- ---- from the origins to the pages

  summed_by : (p : KeptPage) → has_origin kept p.origin ≡ true → AllByRecursion (IsTotaled kept) kept.origins
      → IsSummed kept p
  summed_by p there all = choose (find (λ (a : KeptOrigin). a.origin.0 == p.origin.0) kept.origins) refl
    where
      choose : (o : Option KeptOrigin) → find (λ (a : KeptOrigin). a.origin.0 == p.origin.0) kept.origins ≡ o
          → option_map (λ (a : KeptOrigin). a.total) o ≡ Some (kept_sum kept.pages p.origin.0)
      choose None found =
          absurd (false≢true (found_where (λ (a : KeptOrigin). a.origin.0 == p.origin.0)
          (λ (a : KeptOrigin). a.total) kept.origins None there
          (ap (option_map (λ (a : KeptOrigin). a.total)) (sym found))))
      choose (Some a) found =
          let own : a.origin.0 ≡ p.origin.0 =
          eqb-true a.origin.0 p.origin.0
          (found_passes (λ (b : KeptOrigin). b.origin.0 == p.origin.0) kept.origins a found) in
          ap (λ (n : ℕ). Some n)
          (sym (found_holds (IsTotaled kept) (λ (b : KeptOrigin). b.origin.0 == p.origin.0) kept.origins a all found)
          ∙ ap (kept_sum kept.pages) own)

  pub totals_from : IsRight kept → AllByRecursion (IsTotaled kept) kept.origins → HaveTotals kept
  totals_from right all =
      let summed : AllByRecursion (IsSummed kept) kept.pages =
      weaker (λ (p : KeptPage). page_at kept p.page.id ≡ Some p) (IsSummed kept) kept.pages
      (λ p at.
      summed_by p
      (origin_named kept p.page.id p.origin well (sym (ap (option_map (λ (q : KeptPage). q.origin)) at))) all)
      (pages_found kept well) in
      totals_of_sums kept right
      (record { sums = All-from_recursion Told kept.pages (told_all summed); small = all_small kept well right })

  -- ---- and back

  used_by : (P : KeptPage → Type 0) (pages : List KeptPage) → AllByRecursion P pages → (n k : ℕ)
      → k < length (map (λ (p : KeptPage). p.origin.0) pages)
      → get_or (map (λ (p : KeptPage). p.origin.0) pages) k n ≡ n → (p : KeptPage) × (p.origin.0 ≡ n) × P p
  used_by P [] all n k within is = absurd (omega arith)
  used_by P (p ∷ pages) all n zero within is = (p, is, all.0)
  used_by P (p ∷ pages) all n (suc k) within is = used_by P pages all.1 n k (omega arith) is

  pub totals_to : IsRight kept → HaveTotals kept → AllByRecursion (IsTotaled kept) kept.origins
  totals_to right totals =
      let sums : HaveSums kept = sums_of_totals kept well right totals in
      let summed : AllByRecursion (IsSummed kept) kept.pages =
      summed_all (recursion_from_All Told kept.pages sums.sums) in
      both (λ (a : KeptOrigin). Contains (page_origins kept) a.origin.0)
      (λ (a : KeptOrigin). total_at kept a.origin ≡ Some a.total) (IsTotaled kept) kept.origins
      (λ a used here.
      let p = used_by (IsSummed kept) kept.pages summed a.origin.0 used.0 used.1 used.2 in
      let same : p.0.origin ≡ a.origin = same_slot p.0.origin a.origin p.1 in
      same_Some (kept_sum kept.pages a.origin.0) a.total
      (sym (ap (λ (o : Slot). Some (kept_sum kept.pages o.0)) same) ∙ sym p.2 ∙ ap (total_at kept) same ∙ here))
      (recursion_from_All (λ (a : KeptOrigin). Contains (page_origins kept) a.origin.0) kept.origins well.origins.used)
      (each_origin kept well)

-- ---- the sums so far

small_share : (name : ℕ) (p : Place) → share p.mark.frecency ≤ most_share → named_share name p ≤ most_share
small_share name p small = choose (p.origin.0 == name)
  where
    choose : (b : Bool) → (if b then share p.mark.frecency else 0) ≤ most_share
    choose true = small
    choose false = omega arith

module _ (places : List Place) (k : ℕ) (place : Place) (more : take (k + 1) places ≡ take k places ++ place ∷ [])
  where
    -- the sum with a page more
    sum_more : (name : ℕ) → named_sum (take (k + 1) places) name ≡ named_sum (take k places) name + named_share name place
    sum_more name = ap (sum_by (named_share name)) more ∙ sum_by_push (named_share name) (take k places) place

    pub sum_fits : (sum share_of : ℕ) → length places ≤ slot_limit
        → All (λ (p : Place). share p.mark.frecency ≤ most_share) places → sum ≡ named_sum (take k places) place.origin.0
        → share_of ≡ share place.mark.frecency → sum + share_of < 2 ^ 64
    sum_fits sum share_of few small so_far one =
        let name : ℕ = place.origin.0 in
        omega (
          arith,
          so_far,
          one,
          few,
          sum_more name,
          ap {B = ℕ} (λ (b : Bool). if b then share place.mark.frecency else 0) (eq-eqb name name refl),
          length-take (k + 1) places,
          sum_by-le (named_share name) most_share (take (k + 1) places)
              (All-take (λ (p : Place). named_share name p ≤ most_share) (k + 1) places
              (All-weaker (λ (p : Place). share p.mark.frecency ≤ most_share)
              (λ (p : Place). named_share name p ≤ most_share) (small_share name) places small)),
        )

    pub sums_more : (name before after share_of : ℕ) → before ≡ named_sum (take k places) name
        → share_of ≡ share place.mark.frecency → after ≡ before + (if place.origin.0 == name then share_of else 0)
        → after ≡ named_sum (take (k + 1) places) name
    sums_more name before after share_of so_far one is =
        omega (
          arith,
          is,
          so_far,
          sum_more name,
          ap {B = ℕ} (λ (m : ℕ). if place.origin.0 == name then m else 0) one,
        )

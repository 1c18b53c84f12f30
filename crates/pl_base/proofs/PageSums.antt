-- The total of an origin as a sum over the pages.
use Rattle.std.proofs.Common.{◌≡◌, ◌≢◌, ◌∙◌, ◌+◌, ◌≤◌, ◌==◌, ◌||◌, ℕ, ℤ, Bool, true, false, IsTrue, List, [], ◌∷◌}
use Rattle.std.proofs.Common.{Option, Some, None, ap, arith, filter, find, if◌then◌else◌, map, refl, sym}
use Rattle.std.specs.List.{AllByRecursion, cons_option, filter_map, list_any, sum_by}
use Rattle.std.specs.Option.{option_map}
use Rattle.std.proofs.lemmas.Bool.{eqb-false, eqb-true, false≢true, ne_eqb}
use Rattle.std.proofs.lemmas.List.Elements.{All-from_recursion, recursion_from_All}
use Rattle.std.proofs.lemmas.List.Sums.{sum_by-cons}
use Rattle.pl_base.specs.declared.id.Slot.{Slot}
use Rattle.pl_base.specs.Address.{are_same, is_store_url, origin_of_url, same_origin}
use Rattle.pl_base.specs.Frecency.{frecency_of}
use Rattle.pl_base.specs.Rows.{HaveSums, IsRight, IsWellKept, Kept, KeptOrigin, KeptPage, has_origin, kept_scores}
use Rattle.pl_base.specs.Rows.{store_of, total_at, totaled, with_total}
use Rattle.pl_base.specs.Store.{Page}
use Rattle.pl_base.specs.Totals.{Origin, Scored, is_origin, most_share, scored_pages, share, total_of}
use Rattle.pl_base.proofs.ListLaws.{weaker}
use Rattle.pl_base.proofs.OriginLaws.{same_origin-self}

-- ---- what the pages add

-- what a page adds to the total of an origin
abbrev pub added : Origin → KeptPage → ℕ
added o p = if are_same (origin_of_url p.page.url) (Some o) then share p.frecency else 0

-- the origins of some pages, and their frecencies
abbrev pub scores : List KeptPage → List Scored
scores ps =
    filter_map (λ (p : KeptPage). option_map (λ (o : Origin). (o, p.frecency)) (origin_of_url p.page.url)) ps

sum_is : (o : Origin) (ps : List KeptPage) → total_of (scores ps) o ≡ sum_by (added o) ps
sum_is o [] = refl
sum_is o (p ∷ ps) = choose (origin_of_url p.page.url) (sum_is o ps) ∙ sym (sum_by-cons (added o) p ps)
  where
    add : (x : Origin) (b : Bool) → total_of (scores ps) o ≡ sum_by (added o) ps
        → sum_by (λ (s : Scored). share s.1)
        (if b then (x, p.frecency) ∷ filter (λ (s : Scored). is_origin s.0 o) (scores ps)
        else filter (λ (s : Scored). is_origin s.0 o) (scores ps))
        ≡ (if b then share p.frecency else 0) + sum_by (added o) ps
    add x true rest =
        sum_by-cons (λ (s : Scored). share s.1) (x, p.frecency) (filter (λ (s : Scored). is_origin s.0 o) (scores ps))
        ∙ ap (λ (n : ℕ). share p.frecency + n) rest
    add x false rest = omega (arith, rest)

    choose : (x : Option Origin) → total_of (scores ps) o ≡ sum_by (added o) ps
        → total_of (cons_option (option_map (λ (y : Origin). (y, p.frecency)) x) (scores ps)) o
        ≡ (if are_same x (Some o) then share p.frecency else 0) + sum_by (added o) ps
    choose None rest = omega (arith, rest)
    choose (Some x) rest = add x (is_origin x o) rest

sums_are : (ps : List KeptPage) (x : Option Origin)
    → option_map (total_of (scores ps)) x ≡ option_map (λ (o : Origin). sum_by (added o) ps) x
sums_are ps None = refl
sums_are ps (Some o) = ap (λ (n : ℕ). Some n) (sum_is o ps)

-- the total by this name
abbrev pub found_total : ℕ → List KeptOrigin → Option ℕ
found_total n ks = option_map (λ (a : KeptOrigin). a.total) (find (λ (a : KeptOrigin). a.origin.0 == n) ks)

-- the total of the page's origin is the sum over these pages
abbrev pub HasSum : List KeptOrigin → List KeptPage → KeptPage → Type 0
HasSum ks ps p =
    found_total p.origin.0 ks ≡ option_map (λ (o : Origin). sum_by (added o) ps) (origin_of_url p.page.url)

-- what the page adds is small
abbrev pub HasSmall : KeptPage → Type 0
HasSmall p = share p.frecency ≤ most_share

-- the same as `HaveSums`, of the two lists that it is about
pub record AreSums (ks : List KeptOrigin) (ps : List KeptPage) : Type 0 where
  pub sums : AllByRecursion (HasSum ks ps) ps
  pub small : AllByRecursion HasSmall ps

pub opened : (kept : Kept) → HaveSums kept → AreSums kept.origins kept.pages
opened kept h =
    let Told : KeptPage → Type 0 =
    λ (p : KeptPage). total_at kept p.origin ≡ option_map (total_of (kept_scores kept)) (origin_of_url p.page.url) in
    record {
      sums =
          weaker Told (HasSum kept.origins kept.pages) kept.pages
          (λ p told. told ∙ sums_are kept.pages (origin_of_url p.page.url)) (recursion_from_All Told kept.pages h.sums);
      small = recursion_from_All HasSmall kept.pages h.small;
    }

pub closed : (kept : Kept) → AreSums kept.origins kept.pages → HaveSums kept
closed kept h =
    let Told : KeptPage → Type 0 =
    λ (p : KeptPage). total_at kept p.origin ≡ option_map (total_of (kept_scores kept)) (origin_of_url p.page.url) in
    record {
      sums =
          All-from_recursion Told kept.pages
          (weaker (HasSum kept.origins kept.pages) Told kept.pages
          (λ p sum. sum ∙ sym (sums_are kept.pages (origin_of_url p.page.url))) h.sums);
      small = All-from_recursion HasSmall kept.pages h.small;
    }

-- ---- the scores of the definition

-- the scores as they are kept are those of the definition where they are right
same_scores : (score : Page → ℤ) (ps : List KeptPage) → AllByRecursion (λ (p : KeptPage). p.frecency ≡ score p.page) ps
    → scores ps
    ≡ filter_map (λ (p : Page). option_map (λ (o : Origin). (o, score p)) (origin_of_url p.url))
    (map (λ (p : KeptPage). p.page) ps)
same_scores score [] right = refl
same_scores score (p ∷ ps) right =
    ap (λ (z : ℤ). cons_option (option_map (λ (o : Origin). (o, z)) (origin_of_url p.page.url)) (scores ps)) right.0
    ∙ ap (cons_option (option_map (λ (o : Origin). (o, score p.page)) (origin_of_url p.page.url)))
    (same_scores score ps right.1)

pub right_scores : (kept : Kept) → IsRight kept → kept_scores kept ≡ scored_pages (store_of kept)
right_scores kept right =
    same_scores (frecency_of (store_of kept)) kept.pages
    (recursion_from_All (λ (p : KeptPage). p.frecency ≡ frecency_of (store_of kept) p.page) kept.pages right.frecencies)

-- ---- origins of pages

own_origin : (o : Option Origin) → are_same o o ≡ true → (x : Origin) × (o ≡ Some x)
own_origin (Some x) same = (x, refl)
own_origin None same = absurd (false≢true same)

-- the page has an origin
abbrev pub HasOrigin : KeptPage → Type 0
HasOrigin p = (x : Origin) × (origin_of_url p.page.url ≡ Some x)

pub origin_of_page : (kept : Kept) → IsWellKept kept → AllByRecursion HasOrigin kept.pages
origin_of_page kept well =
    weaker (λ (p : KeptPage). IsTrue (is_store_url p.page.url)) HasOrigin kept.pages
    (λ p own. own_origin (origin_of_url p.page.url) (same_origin-self p.page.url own))
    (recursion_from_All (λ (p : KeptPage). IsTrue (is_store_url p.page.url)) kept.pages well.urls)

-- what a page adds to the total of another one's origin
pub adds_by : (p q : KeptPage) (x : Origin) (b : Bool) → origin_of_url q.page.url ≡ Some x
    → same_origin p.page.url q.page.url ≡ b → added x p ≡ (if b then share p.frecency else 0)
adds_by p q x b own is =
    ap (λ (c : Bool). if c then share p.frecency else 0)
    (ap (are_same (origin_of_url p.page.url)) (sym own) ∙ is)

pub added-le : (x : Origin) (p : KeptPage) → added x p ≤ share p.frecency
added-le x p = choose (are_same (origin_of_url p.page.url) (Some x))
  where
    choose : (b : Bool) → (if b then share p.frecency else 0) ≤ share p.frecency
    choose true = omega arith
    choose false = omega arith

pub none_added : (x : Origin) (p : KeptPage) → share p.frecency ≡ 0 → added x p ≡ 0
none_added x p none = omega (arith, added-le x p)

-- ---- one total

-- by the name that was set
set_there : (o : Slot) (total : ℕ) (ks : List KeptOrigin)
    → list_any (λ (a : KeptOrigin). a.origin.0 == o.0) ks ≡ true
    → found_total o.0 (map (totaled o total) ks) ≡ Some total
set_there o total [] there = absurd (false≢true there)
set_there o total (a ∷ ks) there = choose (a.origin.0 == o.0) refl there (set_there o total ks)
  where
    choose : (b : Bool) → (a.origin.0 == o.0) ≡ b
        → (b || list_any (λ (x : KeptOrigin). x.origin.0 == o.0) ks) ≡ true
        → (list_any (λ (x : KeptOrigin). x.origin.0 == o.0) ks ≡ true
        → found_total o.0 (map (totaled o total) ks) ≡ Some total)
        → found_total o.0 ((if b then record a { total = total } else a) ∷ map (totaled o total) ks) ≡ Some total
    choose true is here rest = rw is refl
    choose false is here rest = rw is (rest here)

-- by another name
set_apart : (o : Slot) (n total : ℕ) (ks : List KeptOrigin) → o.0 ≢ n
    → found_total n (map (totaled o total) ks) ≡ found_total n ks
set_apart o n total [] apart = refl
set_apart o n total (a ∷ ks) apart = choose (a.origin.0 == o.0) refl (set_apart o n total ks apart)
  where
    pick : (b : Bool) → found_total n (map (totaled o total) ks) ≡ found_total n ks
        → option_map (λ (x : KeptOrigin). x.total)
        (if b then Some a else find (λ (x : KeptOrigin). x.origin.0 == n) (map (totaled o total) ks))
        ≡ option_map (λ (x : KeptOrigin). x.total)
        (if b then Some a else find (λ (x : KeptOrigin). x.origin.0 == n) ks)
    pick true rest = refl
    pick false rest = rest

    choose : (b : Bool) → (a.origin.0 == o.0) ≡ b → found_total n (map (totaled o total) ks) ≡ found_total n ks
        → found_total n ((if b then record a { total = total } else a) ∷ map (totaled o total) ks)
        ≡ found_total n (a ∷ ks)
    choose true is rest =
        let other : (a.origin.0 == n) ≡ false =
        ne_eqb a.origin.0 n (λ same. apart (sym (eqb-true a.origin.0 o.0 is) ∙ same)) in
        rw other rest
    choose false is rest = pick (a.origin.0 == n) rest

-- the total of an origin once that of one was set
pub total_after : (kept : Kept) (o q : Slot) (total : ℕ) → has_origin kept o ≡ true
    → total_at (with_total o total kept) q ≡ (if q.0 == o.0 then Some total else total_at kept q)
total_after kept o q total there = choose (q.0 == o.0) refl
  where
    choose : (b : Bool) → (q.0 == o.0) ≡ b
        → found_total q.0 (map (totaled o total) kept.origins)
        ≡ (if b then Some total else found_total q.0 kept.origins)
    choose true is =
        ap (λ (n : ℕ). found_total n (map (totaled o total) kept.origins)) (eqb-true q.0 o.0 is)
        ∙ set_there o total kept.origins there
    choose false is =
        set_apart o q.0 total kept.origins (λ same. eqb-false q.0 o.0 is (sym same))

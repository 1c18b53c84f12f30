-- How many origins the pages have: as many as have names. So the slots of a store are counted over
-- its rows.
use Rattle.std.proofs.Common.{◌≡◌, ◌≢◌, ◌+◌, ◌≤◌, ◌++◌, ◌||◌, ◌==◌, ◌∙◌, ℕ, All, Bool, true, false, List, [], ◌∷◌}
use Rattle.std.proofs.Common.{ap, append-nil, append_assoc, arith, count_by, eq-eqb, eqb-true, get_or, if◌then◌else◌}
use Rattle.std.proofs.Common.{length, map, ne_eqb, refl, subst, sym}
use Rattle.std.specs.Cmp.{nat_eq_equiv}
use Rattle.std.specs.List.{AllByRecursion, AllPairs, Contains, list_any, sum_by}
use Rattle.std.proofs.lemmas.Bool.{false≢true, true≢false}
use Rattle.std.proofs.lemmas.List.{get_or_default, length-map, map_push}
use Rattle.std.proofs.lemmas.List.Elements.{recursion_from_All}
use Rattle.std.proofs.lemmas.List.Folds.{Any-from_list_any, list_any-append, list_any_at}
use Rattle.std.proofs.lemmas.List.Sums.{get_or-le-sum_by, length-filter, sum_by-cons}
use Rattle.pl_base.specs.declared.id.Slot.{Slot}
use Rattle.pl_base.specs.Address.{same_origin}
use Rattle.pl_base.specs.Live.{chunks, live_slots, new_origins, origin_count}
use Rattle.pl_base.specs.Rows.{AreAlike, Kept, KeptOrigin, KeptPage, NamesOrigins, has_origin, store_of}
use Rattle.pl_base.specs.Store.{Item, Page}
use Rattle.pl_base.proofs.IdsLaws.{same_slot}
use Rattle.pl_base.proofs.KeyCounts.{count, count-cons, once_from_pairs, tick}
use Rattle.pl_base.proofs.ListLaws.{all_stay, any-where, list_any-map, map-map, sum_by-agree, sum_by-map, weaker}
use Rattle.pl_base.proofs.LookUps.{front, part}
use Rattle.pl_base.proofs.Truths.{same_tests}

-- ---- names

-- a number of a list is that of one of those that it was made of
pub numbered : {X : Type 0} (f : X → ℕ) (xs : List X) (n : ℕ) → Contains (map f xs) n
    → list_any (λ x. f x == n) xs ≡ true
numbered f xs n c =
    sym (list_any-map (λ m. m == n) f xs)
    ∙ list_any_at (λ m. m == n) (map f xs) c.0 n c.1 (eq-eqb (get_or (map f xs) c.0 n) n c.2)

pub has_number : {X : Type 0} (f : X → ℕ) (xs : List X) (n : ℕ) → list_any (λ x. f x == n) xs ≡ true
    → Contains (map f xs) n
has_number f xs n some =
    let at = Any-from_list_any (λ m. m == n) (map f xs) (list_any-map (λ m. m == n) f xs ∙ some) in (
      at.0,
      at.2,
      get_or_default (map f xs) at.0 n at.1 at.2 ∙ at.3 ∙ eqb-true at.1 n at.4,
    )

-- the name that each page has is that of an origin
pub all_named : (kept : Kept) → NamesOrigins kept → All (λ (p : KeptPage). has_origin kept p.origin ≡ true) kept.pages
all_named kept h k d within =
    numbered (λ (a : KeptOrigin). a.origin.0) kept.origins (get_or kept.pages k d).origin.0 (h.known k d within)

-- no two origins have the name
pub one_origin : (kept : Kept) (n : ℕ) → NamesOrigins kept
    → AllPairs (λ (a b : KeptOrigin). (a.origin.0 == n) ≡ true → (b.origin.0 == n) ≡ false) kept.origins
one_origin kept n h i j d before within passes =
    let a : KeptOrigin = get_or kept.origins i d in
    let b : KeptOrigin = get_or kept.origins j d in
    ne_eqb b.origin.0 n
    (λ same. h.distinct i j d before within (same_slot a.origin b.origin (eqb-true a.origin.0 n passes ∙ sym same)))

-- ---- the origins that are met

-- a page of these has the name for its origin
abbrev is_met : List KeptPage → ℕ → Bool
is_met ps n = list_any (λ (p : KeptPage). p.origin.0 == n) ps

-- how many of the origins are those of these pages
abbrev met : List KeptPage → List KeptOrigin → ℕ
met ps ks = count_by (λ (a : KeptOrigin). is_met ps a.origin.0) ks

-- what is met adds, unless it was met before
abbrev is_new : Bool → ℕ
is_new known = if known then 0 else 1

again : (old now : Bool) → (now ≡ true → old ≡ true) → tick (old || (now || false)) ≡ tick old
again true now so = refl
again false true so = absurd (false≢true (so refl))
again false false so = refl

first : (old now : Bool) → (now ≡ true → old ≡ false) → tick (old || (now || false)) ≡ tick old + tick now
first true true so = absurd (true≢false (so refl))
first true false so = refl
first false true so = refl
first false false so = refl

some_counted : (n : ℕ) (ks : List KeptOrigin) → list_any (λ (a : KeptOrigin). a.origin.0 == n) ks ≡ true
    → 1 ≤ count (λ (a : KeptOrigin). a.origin.0) n ks
some_counted n ks there =
    let ticks : KeptOrigin → ℕ = λ (a : KeptOrigin). tick (a.origin.0 == n) in
    let at = Any-from_list_any (λ (a : KeptOrigin). a.origin.0 == n) ks there in
    omega (arith, get_or-le-sum_by ticks ks at.0 at.1 at.2, ap ticks at.3, ap tick at.4)

-- one page more
module _ (seen : List KeptPage) (p : KeptPage) where
  met_now : (n : ℕ) → is_met (seen ++ p ∷ []) n ≡ (is_met seen n || ((p.origin.0 == n) || false))
  met_now n = list_any-append (λ (q : KeptPage). q.origin.0 == n) seen (p ∷ [])

  met_again : is_met seen p.origin.0 ≡ true → (ks : List KeptOrigin) → met (seen ++ p ∷ []) ks ≡ met seen ks
  met_again known ks =
      sum_by-agree (λ (a : KeptOrigin). tick (is_met (seen ++ p ∷ []) a.origin.0))
      (λ (a : KeptOrigin). tick (is_met seen a.origin.0)) ks
      (λ k d within.
      let n : ℕ = (get_or ks k d).origin.0 in
      ap tick (met_now n)
      ∙ again (is_met seen n) (p.origin.0 == n) (λ same. ap (is_met seen) (sym (eqb-true p.origin.0 n same)) ∙ known))

  met_first : is_met seen p.origin.0 ≡ false → (ks : List KeptOrigin)
      → met (seen ++ p ∷ []) ks ≡ met seen ks + count (λ (a : KeptOrigin). a.origin.0) p.origin.0 ks
  met_first unknown [] = refl
  met_first unknown (a ∷ ks) =
      let n : ℕ = a.origin.0 in
      omega (
        arith,
        sum_by-cons (λ (b : KeptOrigin). tick (is_met (seen ++ p ∷ []) b.origin.0)) a ks,
        sum_by-cons (λ (b : KeptOrigin). tick (is_met seen b.origin.0)) a ks,
        count-cons (λ (b : KeptOrigin). b.origin.0) p.origin.0 a ks,
        ap tick (met_now n),
        first (is_met seen n) (p.origin.0 == n)
            (λ same. ap (is_met seen) (sym (eqb-true p.origin.0 n same)) ∙ unknown),
        ap tick (nat_eq_equiv.symm p.origin.0 n),
        met_first unknown ks,
      )

  met_more : (known : Bool) → is_met seen p.origin.0 ≡ known → (ks : List KeptOrigin)
      → AllPairs (λ (a b : KeptOrigin). a.origin.0 ≢ b.origin.0) ks
      → list_any (λ (a : KeptOrigin). a.origin.0 == p.origin.0) ks ≡ true
      → met (seen ++ p ∷ []) ks ≡ met seen ks + is_new known
  met_more true is ks apart there = omega (arith, met_again is ks)
  met_more false is ks apart there =
      omega (
        arith,
        met_first is ks,
        once_from_pairs (λ (a : KeptOrigin). a.origin.0) ks apart p.origin.0,
        some_counted p.origin.0 ks there,
      )

-- ---- the origins of URLs

abbrev urls : List KeptPage → List (List ℕ)
urls ps = map (λ (p : KeptPage). p.page.url) ps

by_name : (p q : KeptPage) → AreAlike p q → (q.origin.0 == p.origin.0) ≡ same_origin p.page.url q.page.url
by_name p q alike =
    same_tests (q.origin.0 == p.origin.0) (same_origin p.page.url q.page.url)
    (λ same. alike.0 (sym (same_slot q.origin p.origin (eqb-true q.origin.0 p.origin.0 same))))
    (λ same. eq-eqb q.origin.0 p.origin.0 (ap (λ (s : Slot). s.0) (sym (alike.1 same))))

none_met : (ks : List KeptOrigin) → met [] ks ≡ 0
none_met [] = refl
none_met (a ∷ ks) = omega (arith, sum_by-cons (λ (b : KeptOrigin). tick (is_met [] b.origin.0)) a ks, none_met ks)

module _ (kept : Kept) (h : NamesOrigins kept) where
  -- what holds of each page holds of the one behind some
  at_page : (P : KeptPage → Type 0) (seen : List KeptPage) (p : KeptPage) (rest : List KeptPage)
      → kept.pages ≡ seen ++ p ∷ rest → All P kept.pages → P p
  at_page P seen p rest whole all =
      part P seen p rest (subst (AllByRecursion P) whole (recursion_from_All P kept.pages all))

  known_as : (seen : List KeptPage) (p : KeptPage) (rest : List KeptPage) → kept.pages ≡ seen ++ p ∷ rest
      → is_met seen p.origin.0 ≡ list_any (same_origin p.page.url) (urls seen)
  known_as seen p rest whole =
      any-where (λ (q : KeptPage). q.origin.0 == p.origin.0)
      (λ (q : KeptPage). same_origin p.page.url q.page.url) seen
      (weaker (AreAlike p) (λ (q : KeptPage). (q.origin.0 == p.origin.0) ≡ same_origin p.page.url q.page.url) seen
      (by_name p)
      (front (AreAlike p) seen (p ∷ rest)
      (subst (AllByRecursion (AreAlike p)) whole
      (recursion_from_All (AreAlike p) kept.pages
      (at_page (λ (q : KeptPage). All (AreAlike q) kept.pages) seen p rest whole h.same)))))
      ∙ sym (list_any-map (same_origin p.page.url) (λ (q : KeptPage). q.page.url) seen)

  counted : (seen rest : List KeptPage) → kept.pages ≡ seen ++ rest
      → met seen kept.origins + new_origins (urls seen) (urls rest) ≡ met kept.pages kept.origins
  counted seen [] whole = omega (arith, ap (λ ps. met ps kept.origins) (whole ∙ append-nil seen))
  counted seen (p ∷ rest) whole =
      omega (
        arith,
        met_more seen p (is_met seen p.origin.0) refl kept.origins
            (λ i j d before within same.
            h.distinct i j d before within
            (same_slot (get_or kept.origins i d).origin (get_or kept.origins j d).origin same))
            (at_page (λ (q : KeptPage). has_origin kept q.origin ≡ true) seen p rest whole (all_named kept h)),
        ap is_new (known_as seen p rest whole),
        ap (λ us. new_origins us (urls rest)) (map_push (λ (q : KeptPage). q.page.url) seen p),
        counted (seen ++ p ∷ []) rest (whole ∙ sym (append_assoc seen (p ∷ []) rest)),
      )

  all_met : met kept.pages kept.origins ≡ length kept.origins
  all_met =
      let test : KeptOrigin → Bool = λ (a : KeptOrigin). is_met kept.pages a.origin.0 in
      sym (length-filter test kept.origins)
      ∙ ap length
      (all_stay test kept.origins
      (recursion_from_All (λ (a : KeptOrigin). test a ≡ true) kept.origins
      (λ k d within.
      numbered (λ (p : KeptPage). p.origin.0) kept.pages (get_or kept.origins k d).origin.0 (h.used k d within))))

  pub origins_counted : origin_count (urls kept.pages) ≡ length kept.origins
  origins_counted = omega (arith, none_met kept.origins, counted [] kept.pages refl, all_met)

-- ---- slots

-- those of the texts of a page
abbrev pub texts_of : KeptPage → ℕ
texts_of p = chunks p.page.url + chunks p.page.title

-- the slots of a store: its rows, and the texts of its pages and items
pub slots_of : (kept : Kept) → NamesOrigins kept
    → live_slots (store_of kept) ≡ length kept.origins + length kept.pages + length kept.visits + length kept.items
    + sum_by texts_of kept.pages + sum_by (λ (i : Item). chunks i.title) kept.items
slots_of kept h =
    rw (
      map-map (λ (p : Page). p.url) (λ (p : KeptPage). p.page) kept.pages,
      origins_counted kept h,
      length-map kept.pages (λ (p : KeptPage). p.page),
      sum_by-map (λ (p : Page). chunks p.url + chunks p.title) (λ (p : KeptPage). p.page) kept.pages,
    )

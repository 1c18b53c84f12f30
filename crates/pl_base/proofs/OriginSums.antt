-- The totals of origins as sums of what the pages keep, from one change of the rows to the next.
use Rattle.std.proofs.Common.{◌≡◌, ◌≢◌, ◌∙◌, ◌+◌, ◌-◌, ◌*◌, ◌≤◌, ◌<◌, ◌^◌, ◌==◌, ◌&&◌, ◌||◌, ◌++◌, ℕ, ℤ, All, Bool}
use Rattle.std.proofs.Common.{true, false, IsTrue, IsFalse, List, [], ◌∷◌, Option, Some, None, ap, arith, eq-eqb}
use Rattle.std.proofs.Common.{get_or, if◌then◌else◌, length, map, not, refl, subst, suc, sym, zero}
use Rattle.std.specs.List.{AllByRecursion, AllPairs, Contains, list_any, sum_by}
use Rattle.std.specs.Option.{option_map}
use Rattle.std.proofs.lemmas.Bool.{and_parts, eqb-false, eqb-true, false_from_ne_true, false≢true, ne_eqb, or_left}
use Rattle.std.proofs.lemmas.Bool.{or_right}
use Rattle.std.proofs.lemmas.List.{length-map}
use Rattle.std.proofs.lemmas.List.Elements.{All-from_recursion, All-push, recursion_from_All}
use Rattle.std.proofs.lemmas.List.Sums.{get_or-le-sum_by, sum_by-le, sum_by_push}
use Rattle.pl_base.specs.declared.id.PageId.{PageId}
use Rattle.pl_base.specs.declared.id.Slot.{Slot}
use Rattle.pl_base.specs.declared.row.Mark.{Mark}
use Rattle.pl_base.specs.Address.{are_same, is_store_url, origin_of_url, same_origin}
use Rattle.pl_base.specs.Live.{slot_limit}
use Rattle.pl_base.specs.Rows.{AreAlike, HaveSums, HaveTotals, IsOriginOf, IsRight, IsSound, IsWellKept, Kept}
use Rattle.pl_base.specs.Rows.{KeptOrigin, KeptPage, WithPageIn, WithoutPage, has_origin, mark_of, marked, next_page}
use Rattle.pl_base.specs.Rows.{origin_names, origin_of, other_pages, page_at, total_at, totaled, unnamed, with_mark}
use Rattle.pl_base.specs.Rows.{with_new_page, with_origin, with_total}
use Rattle.pl_base.specs.Totals.{Origin, Scored, most_share, share, total_of}
use Rattle.pl_base.proofs.ListLaws.{all-filter, from_map, sum_by-map, to_map, weaker}
use Rattle.pl_base.proofs.LookUps.{apart_increasing, both, find_push, found_holds, found_one}
use Rattle.pl_base.proofs.OneChanged.{once_by_number, sum_but, sum_changed}
use Rattle.pl_base.proofs.OriginLaws.{origins_equal, same_origin-self}
use Rattle.pl_base.proofs.PageSums.{AreSums, HasOrigin, HasSmall, HasSum, added, added-le, adds_by, closed}
use Rattle.pl_base.proofs.PageSums.{found_total, none_added, opened, origin_of_page, right_scores, total_after}
use Rattle.pl_base.proofs.SmallFrecencies.{small_in}

-- the sums speak of the pages and the origins alone
pub sums_still : (old new : Kept) → new.pages ≡ old.pages → new.origins ≡ old.origins → HaveSums old → HaveSums new
sums_still old new pages origins sums =
    closed new (subst (AreSums new.origins) (sym pages)
    (subst (λ (ks : List KeptOrigin). AreSums ks old.pages) (sym origins) (opened old sums)))

-- ---- where what was computed is right

-- the totals are these sums
abbrev HaveTold : Kept → List Scored → Type 0
HaveTold kept ss =
    All (λ (p : KeptPage). total_at kept p.origin ≡ option_map (total_of ss) (origin_of_url p.page.url)) kept.pages

-- then the sums are the totals of the definition
pub totals_of_sums : (kept : Kept) → IsRight kept → HaveSums kept → HaveTotals kept
totals_of_sums kept right sums = subst (HaveTold kept) (right_scores kept right) sums.sums

pub sums_of_totals : (kept : Kept) → IsWellKept kept → IsRight kept → HaveTotals kept → HaveSums kept
sums_of_totals kept well right totals =
    record {
      sums = subst (HaveTold kept) (sym (right_scores kept right)) totals;
      small = λ k d within.
          let p : KeptPage = get_or kept.pages k d in
          subst (λ (z : ℤ). share z ≤ most_share) (sym (right.frecencies k d within)) (small_in kept p.page well);
    }

pub sums_of_sound : (kept : Kept) → IsWellKept kept → IsSound kept → HaveSums kept
sums_of_sound kept well sound = sums_of_totals kept well sound.right sound.totals

-- ---- names of origins, and the page that is found

any_contained : (n k : ℕ) (ks : List KeptOrigin) → k < length (map (λ (a : KeptOrigin). a.origin.0) ks)
    → get_or (map (λ (a : KeptOrigin). a.origin.0) ks) k n ≡ n
    → list_any (λ (a : KeptOrigin). a.origin.0 == n) ks ≡ true
any_contained n k [] within is = absurd (omega arith)
any_contained n zero (a ∷ ks) within is =
    or_left (a.origin.0 == n) (list_any (λ (x : KeptOrigin). x.origin.0 == n) ks) (eq-eqb a.origin.0 n is)
any_contained n (suc k) (a ∷ ks) within is =
    or_right (a.origin.0 == n) (list_any (λ (x : KeptOrigin). x.origin.0 == n) ks)
    (any_contained n k ks (omega arith) is)

-- the name that each page has is that of an origin
all_named : (kept : Kept) → IsWellKept kept
    → AllByRecursion (λ (p : KeptPage). has_origin kept p.origin ≡ true) kept.pages
all_named kept well =
    recursion_from_All (λ (p : KeptPage). has_origin kept p.origin ≡ true) kept.pages
    (λ k d within.
    let p : KeptPage = get_or kept.pages k d in
    let known : Contains (origin_names kept) p.origin.0 = well.origins.known k d within in
    any_contained p.origin.0 known.0 kept.origins known.1 known.2)

-- the same of the page with this id
pub origin_named : (kept : Kept) (page : PageId) (origin : Slot) → IsWellKept kept
    → Some origin ≡ origin_of kept page → has_origin kept origin ≡ true
origin_named kept page origin well named = choose (page_at kept page) refl named
  where
    choose : (o : Option KeptPage) → page_at kept page ≡ o
        → Some origin ≡ option_map (λ (p : KeptPage). p.origin) o → has_origin kept origin ≡ true
    choose None at is = absurd (cc)
    choose (Some p) at is =
        let same : origin ≡ p.origin = cc in
        ap (has_origin kept) same
        ∙ found_holds (λ (q : KeptPage). has_origin kept q.origin ≡ true)
        (λ (q : KeptPage). q.page.id.0 == page.0) kept.pages p (all_named kept well) at

-- the page with this id and what is kept of it
record IsFound (kept : Kept) (id : PageId) (mark : Mark) : Type 0 where
  pub page : KeptPage
  pub at : page_at kept id ≡ Some page
  pub frecency : mark.frecency ≡ page.frecency

found_page : (kept : Kept) (id : PageId) (mark : Mark) → Some mark ≡ option_map mark_of (page_at kept id)
    → IsFound kept id mark
found_page kept id mark is = choose (page_at kept id) refl is
  where
    choose : (o : Option KeptPage) → page_at kept id ≡ o → Some mark ≡ option_map mark_of o → IsFound kept id mark
    choose None at marks = absurd (cc)
    choose (Some p) at marks =
        let same : mark ≡ mark_of p = cc in
        record { page = p; at = at; frecency = ap (λ (m : Mark). m.frecency) same }

-- what holds of each page holds of the one that is found
module _ (kept : Kept) (id : PageId) (mark : Mark) (f : IsFound kept id mark) (P : KeptPage → Type 0) where
  of_found : AllByRecursion P kept.pages → P f.page
  of_found all = found_holds P (λ (p : KeptPage). p.page.id.0 == id.0) kept.pages f.page all f.at

-- ---- where a page has another mark

-- what the rows tell of a page before it has the mark
record IsToldOf (kept : Kept) (id : PageId) (was : Mark) (origin : Slot) (total : ℕ) : Type 0 where
  pub well : IsWellKept kept
  pub sums : AreSums kept.origins kept.pages
  pub found : IsFound kept id was
  pub named : origin ≡ found.page.origin
  pub there : has_origin kept origin ≡ true
  pub total_is : total_at kept origin ≡ Some total

told_of : (kept : Kept) (id : PageId) (was : Mark) (origin : Slot) (total : ℕ) → IsWellKept kept → HaveSums kept
    → Some was ≡ option_map mark_of (page_at kept id) → Some origin ≡ origin_of kept id
    → Some total ≡ total_at kept origin → IsToldOf kept id was origin total
told_of kept id was origin total well sums marks named totals =
    let f : IsFound kept id was = found_page kept id was marks in
    let both_named : Some origin ≡ Some f.page.origin =
    named ∙ ap (option_map (λ (p : KeptPage). p.origin)) f.at in
    record {
      well = well;
      sums = opened kept sums;
      found = f;
      named = cc;
      there = origin_named kept id origin well named;
      total_is = sym totals;
    }

module _ (kept : Kept) (id : PageId) (was : Mark) (origin : Slot) (total : ℕ)
    (t : IsToldOf kept id was origin total) where
  -- the total is the sum for each page of the origin
  sum_of : (q : KeptPage) (x : Origin) → origin_of_url q.page.url ≡ Some x → q.origin ≡ origin
      → HasSum kept.origins kept.pages q → total ≡ sum_by (added x) kept.pages
  sum_of q x own same sum =
      let here : Some total ≡ Some (sum_by (added x) kept.pages) =
      sym t.total_is ∙ ap (total_at kept) (sym same) ∙ sum
      ∙ ap (option_map (λ (o : Origin). sum_by (added o) kept.pages)) own in
      cc

  least : (x : Origin) → added x t.found.page ≤ sum_by (added x) kept.pages
  least x =
      of_found kept id was t.found (λ (p : KeptPage). added x p ≤ sum_by (added x) kept.pages)
      (recursion_from_All (λ (p : KeptPage). added x p ≤ sum_by (added x) kept.pages) kept.pages
      (get_or-le-sum_by (added x) kept.pages))

  few : (x : Origin) → sum_by (added x) kept.pages ≤ length kept.pages * most_share
  few x =
      sum_by-le (added x) most_share kept.pages
      (All-from_recursion (λ (p : KeptPage). added x p ≤ most_share) kept.pages
      (weaker HasSmall (λ (p : KeptPage). added x p ≤ most_share) kept.pages
      (λ p small. omega (arith, added-le x p)) t.sums.small))

  fits : (share was.frecency ≤ total) × (total ≤ slot_limit * most_share)
  fits =
      let own : HasOrigin t.found.page =
      of_found kept id was t.found HasOrigin (origin_of_page kept t.well) in
      let url : IsTrue (is_store_url t.found.page.page.url) =
      of_found kept id was t.found (λ (p : KeptPage). IsTrue (is_store_url p.page.url))
      (recursion_from_All (λ (p : KeptPage). IsTrue (is_store_url p.page.url)) kept.pages t.well.urls) in
      let is : total ≡ sum_by (added own.0) kept.pages =
      sum_of t.found.page own.0 own.1 (sym t.named)
      (of_found kept id was t.found (HasSum kept.origins kept.pages) t.sums.sums) in
      let live = t.well.live in (
        omega (
          arith,
          is,
          least own.0,
          adds_by t.found.page t.found.page own.0 true own.1 (same_origin-self t.found.page.page.url url),
          ap share t.found.frecency,
        ),
        omega (arith, is, few own.0, length-map kept.pages (λ (p : KeptPage). p.page)),
      )

-- the page's share is part of the total, and the total with another share is small
pub sums_fit : (old : Kept) (page : PageId) (mark was : Mark) (origin : Slot) (total : ℕ) → IsWellKept old
    → HaveSums old → Some was ≡ option_map mark_of (page_at old page) → Some origin ≡ origin_of old page
    → Some total ≡ total_at old origin → share mark.frecency ≤ most_share
    → (share was.frecency ≤ total) × ((total - share was.frecency) + share mark.frecency < 2 ^ 64)
sums_fit old page mark was origin total well sums marks named totals small =
    let both_fit = fits old page was origin total (told_of old page was origin total well sums marks named totals) in
    (both_fit.0, omega (arith, both_fit.1))

-- the page with this id has another mark
abbrev remarked : PageId → Mark → KeptPage → KeptPage
remarked id mark p = if p.page.id.0 == id.0 then marked mark p else p

-- a mark changes neither the origin of a page nor its name
still_summed : (ks : List KeptOrigin) (ps : List KeptPage) (mark : Mark) (q : KeptPage) (b : Bool) → HasSum ks ps q
    → HasSum ks ps (if b then marked mark q else q)
still_summed ks ps mark q true sum = sum
still_summed ks ps mark q false sum = sum

still_small : (mark : Mark) (q : KeptPage) (b : Bool) → share mark.frecency ≤ most_share → HasSmall q
    → HasSmall (if b then marked mark q else q)
still_small mark q true small is = small
still_small mark q false small is = is

module _ (kept : Kept) (id : PageId) (was mark : Mark) (origin : Slot) (total : ℕ)
    (t : IsToldOf kept id was origin total) where
  abbrev with_share : ℕ
  with_share = (total - share was.frecency) + share mark.frecency

  sum_moved : (x : Origin)
      → sum_by (added x) (map (remarked id mark) kept.pages) + added x t.found.page
      ≡ sum_by (added x) kept.pages + added x (marked mark t.found.page)
  sum_moved x =
      sum_changed (λ (p : KeptPage). p.page.id.0 == id.0) (marked mark) (added x) kept.pages t.found.page
      (once_by_number (λ (p : KeptPage). p.page.id.0) id.0 kept.pages t.well.page_ids.ascending) t.found.at

  summed_after : (q : KeptPage) → HasSum kept.origins kept.pages q → HasOrigin q → AreAlike t.found.page q
      → HasSum (map (totaled origin with_share) kept.origins) (map (remarked id mark) kept.pages) q
  summed_after q sum own like =
      total_after kept origin q.origin with_share t.there
      ∙ choose (q.origin.0 == origin.0) refl
      ∙ sym (ap (option_map (λ (o : Origin). sum_by (added o) (map (remarked id mark) kept.pages))) own.1)
    where
      shares : (b : Bool) → same_origin t.found.page.page.url q.page.url ≡ b
          → sum_by (added own.0) (map (remarked id mark) kept.pages) + (if b then share was.frecency else 0)
          ≡ sum_by (added own.0) kept.pages + (if b then share mark.frecency else 0)
      shares b is =
          ap (λ (z : ℤ). sum_by (added own.0) (map (remarked id mark) kept.pages) + (if b then share z else 0))
          t.found.frecency
          ∙ ap (λ (n : ℕ). sum_by (added own.0) (map (remarked id mark) kept.pages) + n)
          (sym (adds_by t.found.page q own.0 b own.1 is))
          ∙ sum_moved own.0
          ∙ ap (λ (n : ℕ). sum_by (added own.0) kept.pages + n)
          (adds_by (marked mark t.found.page) q own.0 b own.1 is)

      choose : (b : Bool) → (q.origin.0 == origin.0) ≡ b
          → (if b then Some with_share else found_total q.origin.0 kept.origins)
          ≡ Some (sum_by (added own.0) (map (remarked id mark) kept.pages))
      choose true is =
          let same : q.origin ≡ origin = ap (λ (n : ℕ). record { 0 = n }) (eqb-true q.origin.0 origin.0 is) in
          let alike : same_origin t.found.page.page.url q.page.url ≡ true = like.0 (sym t.named ∙ sym same) in
          let moved = shares true alike in
          let within = fits kept id was origin total t in
          ap (λ (n : ℕ). Some n)
          (omega (arith, moved, within.0, sum_of kept id was origin total t q own.0 own.1 same sum))
      choose false is =
          let apart : same_origin t.found.page.page.url q.page.url ≡ false =
          false_from_ne_true (same_origin t.found.page.page.url q.page.url)
          (λ one. eqb-false q.origin.0 origin.0 is (ap (λ (s : Slot). s.0) (sym (t.named ∙ like.1 one)))) in
          let moved = shares false apart in
          sum ∙ ap (option_map (λ (o : Origin). sum_by (added o) kept.pages)) own.1
          ∙ ap (λ (n : ℕ). Some n) (omega (arith, moved))

  sums_after : share mark.frecency ≤ most_share
      → AreSums (map (totaled origin with_share) kept.origins) (map (remarked id mark) kept.pages)
  sums_after small =
      let ks : List KeptOrigin = map (totaled origin with_share) kept.origins in
      let ps : List KeptPage = map (remarked id mark) kept.pages in
      let Like : KeptPage → Type 0 = AreAlike t.found.page in
      let Known : KeptPage → Type 0 = λ (q : KeptPage). HasOrigin q × Like q in
      record {
        sums =
            to_map (HasSum ks ps) (remarked id mark) kept.pages
            (both (HasSum kept.origins kept.pages) Known (λ (q : KeptPage). HasSum ks ps (remarked id mark q)) kept.pages
            (λ q sum known.
            still_summed ks ps mark q (q.page.id.0 == id.0) (summed_after q sum known.0 known.1)) t.sums.sums
            (both HasOrigin Like Known kept.pages (λ q own like. (own, like)) (origin_of_page kept t.well)
            (recursion_from_All Like kept.pages
            (of_found kept id was t.found (λ (p : KeptPage). All (AreAlike p) kept.pages)
            (recursion_from_All (λ (p : KeptPage). All (AreAlike p) kept.pages) kept.pages t.well.origins.same)))));
        small =
            to_map HasSmall (remarked id mark) kept.pages
            (weaker HasSmall (λ (q : KeptPage). HasSmall (remarked id mark q)) kept.pages
            (λ q is. still_small mark q (q.page.id.0 == id.0) small is) t.sums.small);
      }

-- a page has another mark, and the total of its origin moves by the difference of the shares
pub sums_marked : (old new : Kept) (page : PageId) (mark was : Mark) (origin : Slot) (total : ℕ) → IsWellKept old
    → HaveSums old → Some was ≡ option_map mark_of (page_at old page) → Some origin ≡ origin_of old page
    → Some total ≡ total_at old origin → share mark.frecency ≤ most_share
    → new ≡ with_total origin ((total - share was.frecency) + share mark.frecency) (with_mark page mark old)
    → HaveSums new
sums_marked old new page mark was origin total well sums marks named totals small is =
    subst HaveSums (sym is)
    (closed (with_total origin ((total - share was.frecency) + share mark.frecency) (with_mark page mark old))
    (sums_after old page was mark origin total (told_of old page was origin total well sums marks named totals) small))

-- ---- a page more

-- a page that adds nothing
module _ (ks more : List KeptOrigin) (ps : List KeptPage) (p : KeptPage) (none : share p.frecency ≡ 0) where
  sums_pushed : (x : Option Origin)
      → option_map (λ (o : Origin). sum_by (added o) ps) x
      ≡ option_map (λ (o : Origin). sum_by (added o) (ps ++ p ∷ [])) x
  sums_pushed None = refl
  sums_pushed (Some o) =
      let sum = sum_by_push (added o) ps p in
      ap (λ (n : ℕ). Some n) (omega (arith, sum, none_added o p none))

  pushed : AreSums ks ps → AllByRecursion (λ (q : KeptPage). found_total q.origin.0 more ≡ found_total q.origin.0 ks) ps
      → HasSum more ps p → AreSums more (ps ++ p ∷ [])
  pushed sums same here =
      let last : KeptPage → Type 0 = HasSum more (ps ++ p ∷ []) in
      record {
        sums =
            recursion_from_All last (ps ++ p ∷ [])
            (All-push last ps p
            (All-from_recursion last ps
            (both (λ (q : KeptPage). found_total q.origin.0 more ≡ found_total q.origin.0 ks) (HasSum ks ps) last ps
            (λ q still sum. still ∙ sum ∙ sums_pushed (origin_of_url q.page.url)) same sums.sums))
            (here ∙ sums_pushed (origin_of_url p.page.url)));
        small =
            recursion_from_All HasSmall (ps ++ p ∷ [])
            (All-push HasSmall ps p (All-from_recursion HasSmall ps sums.small) (omega (arith, none)));
      }

-- the total by the name that another page of the origin has
named_sum : (ks : List KeptOrigin) (ps qs : List KeptPage) (url : List ℕ) (origin : Slot)
    → AllByRecursion (HasSum ks ps) qs
    → list_any (λ (p : KeptPage). (p.origin.0 == origin.0) && same_origin p.page.url url) qs ≡ true
    → found_total origin.0 ks ≡ option_map (λ (o : Origin). sum_by (added o) ps) (origin_of_url url)
named_sum ks ps [] url origin sums some = absurd (false≢true some)
named_sum ks ps (q ∷ qs) url origin sums some =
    choose ((q.origin.0 == origin.0) && same_origin q.page.url url) refl some (named_sum ks ps qs url origin sums.1)
  where
    choose : (b : Bool) → ((q.origin.0 == origin.0) && same_origin q.page.url url) ≡ b
        → (b || list_any (λ (p : KeptPage). (p.origin.0 == origin.0) && same_origin p.page.url url) qs) ≡ true
        → (list_any (λ (p : KeptPage). (p.origin.0 == origin.0) && same_origin p.page.url url) qs ≡ true
        → found_total origin.0 ks ≡ option_map (λ (o : Origin). sum_by (added o) ps) (origin_of_url url))
        → found_total origin.0 ks ≡ option_map (λ (o : Origin). sum_by (added o) ps) (origin_of_url url)
    choose true is here rest =
        let parts = and_parts (q.origin.0 == origin.0) (same_origin q.page.url url) is in
        ap (λ (n : ℕ). found_total n ks) (sym (eqb-true q.origin.0 origin.0 parts.0))
        ∙ sums.0
        ∙ ap (option_map (λ (o : Origin). sum_by (added o) ps)) (origins_equal q.page.url url parts.1)
    choose false is here rest = rest here

-- an origin behind the others has another name
last_of : {X : Type 0} (P : X → Type 0) (xs : List X) (x : X) → AllByRecursion P (xs ++ x ∷ []) → P x
last_of P [] x all = all.0
last_of P (y ∷ xs) x all = last_of P xs x all.1

found_last : (ks : List KeptOrigin) (k : KeptOrigin)
    → AllPairs (λ (a b : KeptOrigin). a.origin ≢ b.origin) (ks ++ k ∷ [])
    → found_total k.origin.0 (ks ++ k ∷ []) ≡ Some k.total
found_last [] k pairs = rw (eq-eqb k.origin.0 k.origin.0 refl) refl
found_last (a ∷ ks) k pairs =
    let other : a.origin ≢ k.origin =
    last_of (λ (b : KeptOrigin). a.origin ≢ b.origin) ks k
    (recursion_from_All (λ (b : KeptOrigin). a.origin ≢ b.origin) (ks ++ k ∷ [])
    (λ j d within. pairs 0 (suc j) d (omega arith) (omega arith))) in
    rw (ne_eqb a.origin.0 k.origin.0 (λ same. other (ap (λ (n : ℕ). record { 0 = n }) same)))
    (found_last ks k (λ i j d before within. pairs (suc i) (suc j) d (omega arith) (omega arith)))

-- the pages of other origins add nothing
no_sum : (ps : List KeptPage) (url : List ℕ) (x : Option Origin)
    → AllByRecursion (λ (p : KeptPage). IsFalse (same_origin p.page.url url)) ps → origin_of_url url ≡ x
    → are_same x x ≡ true → Some 0 ≡ option_map (λ (o : Origin). sum_by (added o) ps) x
no_sum ps url None apart own is = absurd (false≢true is)
no_sum ps url (Some x) apart own is =
    let none : sum_by (added x) ps ≤ length ps * 0 =
    sum_by-le (added x) 0 ps
    (All-from_recursion (λ (p : KeptPage). added x p ≤ 0) ps
    (weaker (λ (p : KeptPage). IsFalse (same_origin p.page.url url)) (λ (p : KeptPage). added x p ≤ 0) ps
    (λ p other. omega (
      arith,
      ap (λ (b : Bool). if b then share p.frecency else 0)
          (ap (are_same (origin_of_url p.page.url)) (sym own) ∙ other),
    )) apart)) in
    ap (λ (n : ℕ). Some n) (omega arith)

-- a page more adds nothing yet, in an origin that there is or in a new one
pub sums_with_page : (old new : Kept) (url : List ℕ) (origin : Option Slot) → IsWellKept old → IsWellKept new
    → HaveSums old → is_store_url url ≡ true → IsOriginOf old url origin → WithPageIn url origin old new → HaveSums new
sums_with_page old new url (Some origin) well well_new sums own named is =
    let told : AreSums old.origins old.pages = opened old sums in
    subst HaveSums (sym is)
    (closed (with_new_page url origin old)
    (pushed old.origins old.origins old.pages (next_page url origin old) refl told
    (weaker (HasSum old.origins old.pages)
    (λ (q : KeptPage). found_total q.origin.0 old.origins ≡ found_total q.origin.0 old.origins) old.pages
    (λ q sum. refl) told.sums)
    (named_sum old.origins old.pages old.pages url origin told.sums named)))
sums_with_page old new url None well well_new sums own apart is =
    let told : AreSums old.origins old.pages = opened old sums in
    let one : KeptOrigin = record { origin = is.0; total = 0 } in
    let distinct : AllPairs (λ (a b : KeptOrigin). a.origin ≢ b.origin) (old.origins ++ one ∷ []) =
    subst (λ (ks : List KeptOrigin). AllPairs (λ (a b : KeptOrigin). a.origin ≢ b.origin) ks)
    (ap (λ (k : Kept). k.origins) is.1) well_new.origins.distinct in
    subst HaveSums (sym is.1)
    (closed (with_new_page url is.0 (with_origin is.0 old))
    (pushed old.origins (old.origins ++ one ∷ []) old.pages (next_page url is.0 old) refl told
    (weaker (λ (q : KeptPage). has_origin old q.origin ≡ true)
    (λ (q : KeptPage). found_total q.origin.0 (old.origins ++ one ∷ []) ≡ found_total q.origin.0 old.origins) old.pages
    (λ q some. ap (option_map (λ (a : KeptOrigin). a.total))
    (find_push (λ (a : KeptOrigin). a.origin.0 == q.origin.0) old.origins (one ∷ []) some)) (all_named old well))
    (found_last old.origins one distinct
    ∙ no_sum old.pages url (origin_of_url url)
    (recursion_from_All (λ (p : KeptPage). IsFalse (same_origin p.page.url url)) old.pages apart) refl
    (same_origin-self url own))))

-- ---- without a page

-- totals that are the sums are those of other pages too that differ in names alone
renamed : (ks more : List KeptOrigin) (sum : Origin → ℕ) (ps qs : List KeptPage) → map unnamed ps ≡ map unnamed qs
    → map (λ (p : KeptPage). found_total p.origin.0 more) ps ≡ map (λ (p : KeptPage). found_total p.origin.0 ks) qs
    → AllByRecursion (λ (q : KeptPage). found_total q.origin.0 ks ≡ option_map sum (origin_of_url q.page.url)) qs
    → AllByRecursion (λ (p : KeptPage). found_total p.origin.0 more ≡ option_map sum (origin_of_url p.page.url)) ps
renamed ks more sum [] qs pages totals sums = tt
renamed ks more sum (p ∷ ps) [] pages totals sums = absurd (cc)
renamed ks more sum (p ∷ ps) (q ∷ qs) pages totals sums =
    let page : unnamed p ≡ unnamed q = cc in
    let total : found_total p.origin.0 more ≡ found_total q.origin.0 ks = cc in
    let rest_pages : map unnamed ps ≡ map unnamed qs = cc in
    let rest_totals :
    map (λ (p : KeptPage). found_total p.origin.0 more) ps ≡ map (λ (p : KeptPage). found_total p.origin.0 ks) qs =
    cc in (
      total ∙ sums.0 ∙ sym (ap (λ (x : KeptPage). option_map sum (origin_of_url x.page.url)) page),
      renamed ks more sum ps qs rest_pages rest_totals sums.1,
    )

-- the sums of these pages, where those of the others are the same
module _ (old new : Kept) (page : PageId) (was : Mark) (well : IsWellKept old)
    (f : IsFound old page was) (none : share was.frecency ≡ 0) (is : WithoutPage page old new) where
  abbrev others : List KeptPage
  others = other_pages page old.pages

  same_sum : (o : Origin) → sum_by (added o) old.pages ≡ sum_by (added o) new.pages
  same_sum o =
      let id_of : KeptPage → ℕ = λ (p : KeptPage). p.page.id.0 in
      let one : AllByRecursion (λ (p : KeptPage). (p.page.id.0 == page.0) ≡ true → p ≡ f.page) old.pages =
      found_one id_of page.0 old.pages f.page
      (apart_increasing id_of old.pages well.page_ids.ascending) f.at in
      let nothing : share f.page.frecency ≡ 0 = ap share (sym f.frecency) ∙ none in
      let but : sum_by (added o) others ≡ sum_by (added o) old.pages =
      sum_but (λ (p : KeptPage). p.page.id.0 == page.0) (added o) old.pages
      (weaker (λ (p : KeptPage). (p.page.id.0 == page.0) ≡ true → p ≡ f.page)
      (λ (p : KeptPage). (p.page.id.0 == page.0) ≡ true → added o p ≡ 0) old.pages
      (λ p same here. ap (added o) (same here) ∙ none_added o f.page nothing) one) in
      sym but ∙ sym (sum_by-map (added o) unnamed others) ∙ ap (sum_by (added o)) (sym is.pages)
      ∙ sum_by-map (added o) unnamed new.pages

  same_sums : (x : Option Origin)
      → option_map (λ (o : Origin). sum_by (added o) old.pages) x
      ≡ option_map (λ (o : Origin). sum_by (added o) new.pages) x
  same_sums None = refl
  same_sums (Some o) = ap (λ (n : ℕ). Some n) (same_sum o)

  sums_left : AreSums old.origins old.pages → AreSums new.origins new.pages
  sums_left sums =
      let Same : KeptPage → Type 0 = HasSum old.origins new.pages in
      record {
        sums =
            renamed old.origins new.origins (λ (o : Origin). sum_by (added o) new.pages) new.pages others is.pages
            is.totals
            (all-filter Same (λ (p : KeptPage). not (p.page.id.0 == page.0)) old.pages
            (weaker (HasSum old.origins old.pages) Same old.pages
            (λ p sum. sum ∙ same_sums (origin_of_url p.page.url)) sums.sums));
        small =
            from_map HasSmall unnamed new.pages
            (subst (AllByRecursion HasSmall) (sym is.pages)
            (to_map HasSmall unnamed others
            (all-filter HasSmall (λ (p : KeptPage). not (p.page.id.0 == page.0)) old.pages sums.small)));
      }

-- a page goes that added nothing
pub sums_without_page : (old new : Kept) (page : PageId) (was : Mark) → IsWellKept old → IsWellKept new → HaveSums old
    → Some was ≡ option_map mark_of (page_at old page) → share was.frecency ≡ 0 → WithoutPage page old new
    → HaveSums new
sums_without_page old new page was well well_new sums marks none is =
    closed new (sums_left old new page was well (found_page old page was marks) none is (opened old sums))
